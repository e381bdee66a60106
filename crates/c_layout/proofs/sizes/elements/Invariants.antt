use Rattle.std.proofs.Common.{◌≡◌, ◌*◌, ◌≤◌, drop}
use Rattle.c_tree.specs.Declarators.{sized}
use Rattle.c_tree.specs.Ty.{Ty}
use Rattle.c_tree.specs.View.{exprs_of}
use Rattle.c_layout.specs.private.Capped.{near}
use Rattle.c_layout.specs.Sizes.{size}
use Rattle.c_layout.proofs.sizes.elements.Given as goal

abbrev pub invariant-loop-e : goal.invariant-loop-e
invariant-loop-e l = record {
  limit : l.elements ≤ 8388608;
  bytes : (t : Ty) → near (l.elements * size (sized (exprs_of (drop l.e-index l.sizes)) t))
      ≡ near (size (sized (exprs_of l.sizes) t));
}
