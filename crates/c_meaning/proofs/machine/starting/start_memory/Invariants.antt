use Rattle.std.proofs.Common.{◌≡◌, [], map, drop}
use Rattle.bop_bits.specs.declared.map.TheConstants.{MEMORY_BYTES}
use Rattle.c_tree.specs.View.{item_of, items_of}
use Rattle.c_layout.specs.Globals.{globals, addresses}
use Rattle.c_semantics.specs.Contents.{unwritten}
use Rattle.c_semantics.specs.Meaning.{global_declarators}
use Rattle.c_meaning.specs.private.Started.{started}
use Rattle.c_meaning.proofs.machine.starting.start_memory.Given as goal

abbrev pub invariant-loop-item : goal.invariant-loop-item
invariant-loop-item l =
    let text = items_of l.tree in
    started l.rest (global_declarators (map item_of (drop l.item-index l.tree.items.items))) l.memory
    ≡ started (addresses (globals text)) (global_declarators text) (record { bytes = unwritten MEMORY_BYTES; live = [] })
