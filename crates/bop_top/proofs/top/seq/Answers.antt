use Rattle.std.proofs.Common.{sym, subst}
use Rattle.bop_words.specs.WordRequests.{Seq}
use Rattle.bop_top.proofs.Loads.{unloaded, known_file}
use Rattle.bop_top.proofs.top.seq.Goals as goal

pub returns-in-Err-clause-done : goal.returns-in-Err-clause-done
returns-in-Err-clause-done g c =
    rw c.of.ensures (unloaded _ _ (Seq c.args.name.now c.args.budget) c.in-Err.outcome _ _ tt c.in-Err.ensures.refused)

pub returns-in-Ok-clause-done : goal.returns-in-Ok-clause-done
returns-in-Ok-clause-done g c =
    let done = rw c.deref.ensures.value at c.seq_text.ensures.done c.args.name.now in
    known_file (Seq c.args.name.now c.args.budget) _ _ c.in-Ok.text.items _ _ _ _ _ _ c.in-Ok.ensures.text done
