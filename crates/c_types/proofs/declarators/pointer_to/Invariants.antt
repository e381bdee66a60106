use Rattle.std.proofs.Common.{◌≡◌}
use Rattle.c_tree.specs.Declarators.{pointers}
use Rattle.c_tree.specs.View.{ty_of}
use Rattle.c_types.proofs.declarators.pointer_to.Given as goal

abbrev pub invariant-loop-star : goal.invariant-loop-star
invariant-loop-star l = ty_of l.ty ≡ pointers l._star (ty_of l.base)
