use Rattle.std.proofs.Common.{◌≡◌, ◌++◌, List, map, drop}
use Rattle.c_tree.specs.Var.{Var}
use Rattle.c_tree.specs.View.{var_of}
use Rattle.low_link.specs.private.DataBytes.{with_first_data}
use Rattle.low_link.proofs.data.put_globals.Given as goal

abbrev pub invariant-loop-v : goal.invariant-loop-v
invariant-loop-v l = (ds : List Var) → with_first_data l.rest (map var_of (drop l.v-index l.vars) ++ ds) l.out ≡ with_first_data l.addresses (map var_of l.vars ++ ds) l.initial.out
