use Rattle.std.proofs.Common.{◌≡◌, map, take}
use Rattle.c_tree.specs.Accepted.{parameter_shapes}
use Rattle.c_tree.specs.View.{ty_of, param_of}
use Rattle.c_types.proofs.declarators.parameter_types.Given as goal

abbrev pub invariant-loop-p : goal.invariant-loop-p
invariant-loop-p l = map ty_of l.types.items ≡ parameter_shapes (map param_of (take l.p-index l.params))
