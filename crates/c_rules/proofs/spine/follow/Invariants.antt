use Rattle.std.proofs.Common.{◌≡◌, ◌≤◌, ◌<◌, ◌-◌}
use Rattle.c_tree.specs.declared.tree.Expr.{size-Expr}
use Rattle.c_tree.specs.View.{expr_of}
use Rattle.c_rules.specs.Spine.{down}
use Rattle.c_rules.proofs.spine.follow.Given as goal

abbrev pub invariant-loop-count : goal.invariant-loop-count
invariant-loop-count l = record {
  reaches : expr_of l.end ≡ down l.along l.count (expr_of l.e);
  small : size-Expr l.end ≤ size-Expr l.e;
  smaller : 0 < l.count → size-Expr l.end < size-Expr l.e;
  within : l.count ≤ 64;
}

abbrev pub decreases-loop-count : goal.decreases-loop-count
decreases-loop-count l = 64 - l.count
