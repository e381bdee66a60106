use Rattle.std.proofs.Common.{◌≡◌, map, drop}
use Rattle.c_tree.specs.Accepted.{has_main}
use Rattle.c_tree.specs.View.{item_of}
use Rattle.c_check.proofs.main_function.has_main.Given as goal

abbrev pub invariant-loop-item : goal.invariant-loop-item
invariant-loop-item l = has_main (map item_of (drop l.item-index l.items)) ≡ has_main (map item_of l.items)
