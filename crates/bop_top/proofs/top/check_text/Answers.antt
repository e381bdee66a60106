use Rattle.bop_top.proofs.Refusals.{fine_done, refused_done}
use Rattle.bop_top.proofs.top.check_text.Goals as goal
use Rattle.bop_top.proofs.top.check_text.Goals.{in-Ok, in-Err}

pub returns-clause-done : goal.returns-clause-done
returns-clause-done c = elim c.match-source.branch [
  | in-Ok w ↦ rw (w.result-is) (λ name left content. fine_done name _ c.args.text.now w.in-Ok.field-0.0 w.in-Ok.field-0.1 left content c.requires w.in-Ok.ensures)
  | in-Err w ↦ rw (w.result-is, w.outcome_of.ensures.outcome) (λ name left content. refused_done name _ c.args.text.now w.in-Err.refused left content c.requires w.in-Err.ensures)
]
