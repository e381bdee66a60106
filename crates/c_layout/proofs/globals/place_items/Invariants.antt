use Rattle.std.proofs.Common.{◌≡◌, ◌++◌, map, drop}
use Rattle.c_tree.specs.View.{item_of}
use Rattle.c_layout.specs.private.Capped.{near, cursors_of}
use Rattle.c_layout.specs.Globals.{globals, addresses_from}
use Rattle.c_layout.proofs.globals.place_items.Given as goal

abbrev pub invariant-loop-item : goal.invariant-loop-item
invariant-loop-item l = l.out.items ++ map near (addresses_from (cursors_of l.next) (globals (map item_of (drop l.item-index l.items)))) ≡ map near (addresses_from (cursors_of l.fn.start) (globals (map item_of l.items)))
