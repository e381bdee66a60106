use Rattle.std.proofs.Common.{◌≡◌, ◌++◌, List, map, drop}
use Rattle.c_tree.specs.View.{var_of}
use Rattle.c_layout.specs.private.Capped.{near, cursors_of}
use Rattle.c_layout.specs.Globals.{Global, global_of, addresses_from}
use Rattle.c_layout.proofs.globals.place_vars.Given as goal

abbrev pub invariant-loop-v : goal.invariant-loop-v
invariant-loop-v l = (rest : List Global) → l.out.items ++ map near (addresses_from (cursors_of l.next) (map (global_of l.keep) (map var_of (drop l.v-index l.vars)) ++ rest)) ≡ l.fn.out.items ++ map near (addresses_from (cursors_of l.fn.next) (map (global_of l.keep) (map var_of l.vars) ++ rest))
