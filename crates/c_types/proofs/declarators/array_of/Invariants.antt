use Rattle.std.proofs.Common.{◌≡◌, ◌≤◌, drop, length}
use Rattle.c_tree.specs.Declarators.{sized}
use Rattle.c_tree.specs.View.{exprs_of, ty_of}
use Rattle.c_types.proofs.declarators.array_of.Given as goal

abbrev pub invariant-loop-left : goal.invariant-loop-left
invariant-loop-left l = record {
  within : l.left ≤ length l.sizes;
  sized : ty_of l.ty ≡ sized (exprs_of (drop l.left l.sizes)) (ty_of l.fn.element);
}

abbrev pub decreases-loop-left : goal.decreases-loop-left
decreases-loop-left l = l.left
