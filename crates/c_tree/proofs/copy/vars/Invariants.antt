use Rattle.std.proofs.Common.{◌≡◌, map, take}
use Rattle.c_tree.specs.View.{var_of}
use Rattle.c_tree.proofs.copy.vars.Given as goal

abbrev pub invariant-loop-v : goal.invariant-loop-v
invariant-loop-v l = map var_of l.copy.items ≡ map var_of (take l.v-index l.list)
