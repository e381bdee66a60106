use Rattle.low_expr.proofs.ReadinessLemmas.{ready, ready_unused}
use Rattle.low_expr.proofs.laws.an_evaluable_expression_is_ready.Goals as goal

pub returns-clause-value : goal.returns-clause-value
returns-clause-value c = ready

pub returns-clause-unused : goal.returns-clause-unused
returns-clause-unused c = ready_unused
