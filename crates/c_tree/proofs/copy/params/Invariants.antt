use Rattle.std.proofs.Common.{◌≡◌, map, take}
use Rattle.c_tree.specs.View.{param_of}
use Rattle.c_tree.proofs.copy.params.Given as goal

abbrev pub invariant-loop-p : goal.invariant-loop-p
invariant-loop-p l = map param_of l.copy.items ≡ map param_of (take l.p-index l.list)
