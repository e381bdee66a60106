use Rattle.low_expr.proofs.UnusedValues.{simulated}
use Rattle.low_expr.proofs.laws.code_does_what_the_expression_means.Goals as goal

pub returns : goal.returns
returns c = simulated
