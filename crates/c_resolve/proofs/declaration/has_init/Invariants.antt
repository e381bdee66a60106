use Rattle.std.proofs.Common.{◌≡◌, map, drop}
use Rattle.c_tree.specs.View.{var_of}
use Rattle.c_semantics.specs.Exec.{has_init}
use Rattle.c_resolve.proofs.declaration.has_init.Given as goal

abbrev pub invariant-loop-v : goal.invariant-loop-v
invariant-loop-v l = has_init (map var_of (drop l.v-index l.vars)) ≡ has_init (map var_of l.vars)
