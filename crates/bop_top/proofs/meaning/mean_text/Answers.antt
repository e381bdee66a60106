use Rattle.bop_words.specs.WordRequests.{Mean}
use Rattle.bop_top.proofs.Meanings.{put_done}
use Rattle.bop_top.proofs.Refusals.{unready_done}
use Rattle.bop_top.proofs.meaning.mean_text.Goals as goal

pub returns-in-Ok-clause-done : goal.returns-in-Ok-clause-done
returns-in-Ok-clause-done g c =
    let m = c.in-Ok.ensures.meant in
    λ name. put_done name c.args.steps _ c.args.text.now m.0 _ _ _ _ _ _ _ c.requires m.2 m.1 m.3 c.put_meaning.ensures.put

pub returns-in-Err-clause-done : goal.returns-in-Err-clause-done
returns-in-Err-clause-done g c =
    let refused = c.in-Err.ensures.refused in
    λ name. rw c.of.ensures (unready_done (Mean name c.args.steps) _ c.in-Err.outcome c.args.text.now refused.0 _ _ _ c.requires tt refused.2 refused.1)
