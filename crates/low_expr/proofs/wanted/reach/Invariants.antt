use Rattle.std.proofs.Common.{◌≡◌, ◌≤◌}
use Rattle.c_tree.specs.declared.tree.Expr.{size-Expr}
use Rattle.c_tree.specs.View.{expr_of}
use Rattle.c_rules.specs.Spine.{down}
use Rattle.c_rules.specs.declared.spine.Along.TheVariants.{Operands}
use Rattle.low_expr.specs.private.Wanting.{wanted_down}
use Rattle.low_expr.proofs.wanted.reach.Given as goal

abbrev pub invariant-loop-step : goal.invariant-loop-step
invariant-loop-step l = record {
  expr : expr_of l.expr ≡ down Operands l._step (expr_of l.e);
  wanted : l.wanted ≡ wanted_down l.fn.wanted l._step (expr_of l.e);
  small : size-Expr l.expr ≤ size-Expr l.e;
}
