use Rattle.std.proofs.Common.{sym, subst}
use Rattle.bop_words.specs.WordRequests.{Mean}
use Rattle.bop_top.proofs.Loads.{unloaded, known_file}
use Rattle.bop_top.proofs.top.mean.Goals as goal

pub returns-in-Err-clause-done : goal.returns-in-Err-clause-done
returns-in-Err-clause-done g c =
    rw c.of.ensures (unloaded _ _ (Mean c.args.name.now c.args.steps) c.in-Err.outcome _ _ tt c.in-Err.ensures.refused)

pub returns-in-Ok-clause-done : goal.returns-in-Ok-clause-done
returns-in-Ok-clause-done g c =
    let done = rw c.deref.ensures.value at c.mean_text.ensures.done c.args.name.now in
    known_file (Mean c.args.name.now c.args.steps) _ _ c.in-Ok.text.items _ _ _ _ _ _ c.in-Ok.ensures.text done
