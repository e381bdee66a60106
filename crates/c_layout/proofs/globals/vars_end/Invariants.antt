use Rattle.std.proofs.Common.{◌≡◌, ◌≤◌, map, drop}
use Rattle.c_tree.specs.Declarators.{declared_shape}
use Rattle.c_tree.specs.View.{var_of}
use Rattle.c_layout.specs.private.Capped.{near}
use Rattle.c_layout.specs.Globals.{end_of}
use Rattle.c_layout.proofs.globals.vars_end.Given as goal

abbrev pub invariant-loop-v : goal.invariant-loop-v
invariant-loop-v l = record {
  limit : l.at ≤ 8388608;
  done : near (end_of l.at (map declared_shape (map var_of (drop l.v-index l.vars))))
      ≡ near (end_of l.from (map declared_shape (map var_of l.vars)));
}
