use Rattle.std.proofs.Common.{map, take}
use Rattle.c_tree.specs.View.{item_of}
use Rattle.c_check.specs.private.Defined.{Defines}
use Rattle.c_check.proofs.defined.defined_by.Given as goal

abbrev pub invariant-loop-item : goal.invariant-loop-item
invariant-loop-item l = Defines l.defined (map item_of (take l.item-index l.items))
