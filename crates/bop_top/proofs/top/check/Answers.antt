use Rattle.bop_words.specs.WordRequests.{Check}
use Rattle.bop_top.proofs.Loads.{unloaded, known_file}
use Rattle.bop_top.proofs.top.check.Goals as goal

pub returns-in-Err-clause-done : goal.returns-in-Err-clause-done
returns-in-Err-clause-done g c = λ left content. unloaded _ _ (Check c.args.name.now) c.in-Err.outcome left content tt c.in-Err.ensures.refused

pub returns-in-Ok-clause-done : goal.returns-in-Ok-clause-done
returns-in-Ok-clause-done g c =
    let done = rw c.deref.ensures.value at c.check_text.ensures.done in
    λ left content. known_file (Check c.args.name.now) _ _ c.in-Ok.text.items _ _ left left content content c.in-Ok.ensures.text (done c.args.name.now left content)
