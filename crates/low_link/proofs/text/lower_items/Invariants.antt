use Rattle.std.proofs.Common.{List, map, drop}
use Rattle.c_tree.specs.Item.{Item}
use Rattle.c_tree.specs.View.{item_of}
use Rattle.c_layout.specs.LayoutAnswers.{plan_of}
use Rattle.low_link.specs.private.BegunCode.{IsBegun}
use Rattle.low_link.proofs.text.lower_items.Given as goal

abbrev pub invariant-loop-item : goal.invariant-loop-item
invariant-loop-item l = (text : List Item)
    → IsBegun text (plan_of l.layout).frames (map item_of l.items) 0 l.initial.names l.initial.asm l.initial.ends
    → IsBegun text (plan_of l.layout).frames (map item_of (drop l.item-index l.items)) l.number l.names l.asm l.ends
