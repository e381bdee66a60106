use Rattle.c_expr.specs.declared.rule.Rule.TheVariants.{Assign, Cond}
use Rattle.c_expr.proofs.OneTree.{one_answer}
use Rattle.c_expr.proofs.laws.one_answer.Goals as goal

pub returns : goal.returns
returns c = record { expression = one_answer Assign; conditional = one_answer Cond }
