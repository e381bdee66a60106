use Rattle.std.proofs.Common.{◌≡◌, map, drop, replicate}
use Rattle.c_tree.specs.View.{item_of, items_of}
use Rattle.c_layout.specs.Globals.{globals, addresses}
use Rattle.c_semantics.specs.Meaning.{global_declarators}
use Rattle.low_link.specs.private.DataBytes.{with_first_data}
use Rattle.low_link.proofs.data.data_of.Given as goal

abbrev pub invariant-loop-item : goal.invariant-loop-item
invariant-loop-item l =
    let text = items_of l.tree in
    with_first_data l.rest (global_declarators (map item_of (drop l.item-index l.tree.items.items))) l.bytes.items
    ≡ with_first_data (addresses (globals text)) (global_declarators text) (replicate l.length 0)
