use Rattle.std.proofs.Common.{◌≡◌, ◌≤◌, max, map, drop}
use Rattle.c_tree.specs.View.{var_of}
use Rattle.c_layout.specs.private.Capped.{few}
use Rattle.c_layout.specs.Slots.{declarators_slots}
use Rattle.c_layout.proofs.slots.var_slots.Given as goal

abbrev pub invariant-loop-v : goal.invariant-loop-v
invariant-loop-v l = record {
  limit : l.greatest ≤ 16385;
  done : max l.greatest (few (declarators_slots (map var_of (drop l.v-index l.vars))))
      ≡ few (declarators_slots (map var_of l.vars));
}
