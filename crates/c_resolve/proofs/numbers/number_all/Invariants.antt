use Rattle.std.proofs.Common.{map, take}
use Rattle.c_tree.specs.View.{item_of}
use Rattle.c_resolve.specs.Routines.{definitions_of, AreNumbersOf}
use Rattle.c_resolve.proofs.numbers.number_all.Given as goal

abbrev pub invariant-loop-item : goal.invariant-loop-item
invariant-loop-item l = AreNumbersOf l.numbers (definitions_of (map item_of (take l.item-index l.items)))
