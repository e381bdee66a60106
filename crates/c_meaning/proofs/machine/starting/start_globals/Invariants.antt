use Rattle.std.proofs.Common.{◌≡◌, ◌++◌, List, map, drop}
use Rattle.c_tree.specs.Var.{Var}
use Rattle.c_tree.specs.View.{var_of}
use Rattle.c_meaning.specs.private.Started.{started}
use Rattle.c_meaning.proofs.machine.starting.start_globals.Given as goal

abbrev pub invariant-loop-v : goal.invariant-loop-v
invariant-loop-v l = (ds : List Var) → started l.rest (map var_of (drop l.v-index l.vars) ++ ds) l.memory ≡ started l.addresses (map var_of l.vars ++ ds) l.initial.memory
