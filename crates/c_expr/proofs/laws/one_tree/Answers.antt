use Rattle.c_expr.specs.declared.rule.Rule.TheVariants.{Assign, Cond}
use Rattle.c_expr.proofs.OneTree.{one_tree}
use Rattle.c_expr.proofs.laws.one_tree.Goals as goal

pub returns : goal.returns
returns c = record { expression = one_tree Assign; conditional = one_tree Cond }
