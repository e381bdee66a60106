use Rattle.std.proofs.Common.{◌≡◌, map, take}
use Rattle.c_tree.specs.View.{item_of}
use Rattle.c_tree.specs.Erase.{erased_part}
use Rattle.c_tree.proofs.bare.erase.Given as goal

abbrev pub invariant-loop-i : goal.invariant-loop-i
invariant-loop-i l = map item_of l.items.items ≡ map erased_part (map item_of (take l.i-index l.tree.items.items))
