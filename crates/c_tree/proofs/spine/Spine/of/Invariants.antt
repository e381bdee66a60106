use Rattle.std.proofs.Common.{◌≡◌, ◌≤◌, map, All}
use Rattle.c_tree.specs.declared.tree.Expr.{size-Expr}
use Rattle.c_tree.specs.View.{expr_of}
use Rattle.c_tree.specs.FirstOperand.{within}
use Rattle.c_tree.proofs.spine.Spine.of.Given as goal

abbrev pub invariant-loop-first : goal.invariant-loop-first
invariant-loop-first l = record {
  whole : within (map (λ n. expr_of n.now) l.above.items) (expr_of l.end) ≡ expr_of l.e;
  small : size-Expr l.end ≤ size-Expr l.e;
  all_small : All (λ n. size-Expr n.now ≤ size-Expr l.e) l.above.items;
}
