use Rattle.std.proofs.Common.{◌≡◌, ◌≤◌, map, drop}
use Rattle.c_tree.specs.View.{item_of}
use Rattle.c_layout.specs.private.Capped.{near}
use Rattle.c_layout.specs.Globals.{end_of, kept, globals}
use Rattle.c_layout.proofs.globals.section_end.Given as goal

abbrev pub invariant-loop-item : goal.invariant-loop-item
invariant-loop-item l = record {
  limit : l.at ≤ 8388608;
  done : near (end_of l.at (kept l.keep (globals (map item_of (drop l.item-index l.items)))))
      ≡ near (end_of l.from (kept l.keep (globals (map item_of l.items))));
}
