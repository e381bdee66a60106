use Rattle.std.proofs.Common.{◌≡◌, ◌≤◌}
use Rattle.c_tree.specs.declared.tree.Expr.{size-Expr}
use Rattle.c_tree.specs.View.{expr_of}
use Rattle.c_rules.specs.Spine.{down}
use Rattle.c_rules.proofs.spine.descend.Given as goal

abbrev pub invariant-loop-step : goal.invariant-loop-step
invariant-loop-step l = record {
  reaches : expr_of l.end ≡ down l.along l._step (expr_of l.e);
  small : size-Expr l.end ≤ size-Expr l.e;
}
