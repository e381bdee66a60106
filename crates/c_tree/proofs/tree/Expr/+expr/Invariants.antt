use Rattle.std.proofs.Common.{◌≤◌}
use Rattle.c_tree.specs.declared.tree.Expr.{size-Expr}
use Rattle.c_tree.proofs.tree.Expr.+expr.Given as goal

abbrev pub invariant-first : goal.invariant-first
invariant-first l = size-Expr l.self ≤ size-Expr l.initial.self
