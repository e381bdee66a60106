use Rattle.std.proofs.Common.{List, [], length, map, ap, sym, ◌∙◌, arith}
use Rattle.std.proofs.lemmas.List.{drop_all}
use Rattle.bop_bits.specs.declared.map.TheConstants.{MEMORY_BYTES}
use Rattle.c_tree.specs.declared.tree.Item.{Item}
use Rattle.c_tree.specs.View.{item_of, items_of}
use Rattle.c_layout.specs.Globals.{globals, addresses}
use Rattle.c_semantics.specs.Contents.{unwritten}
use Rattle.c_semantics.specs.Meaning.{global_declarators, global_objects, with_first_bytes}
use Rattle.c_meaning.specs.private.Started.{started}
use Rattle.c_meaning.proofs.FirstValues.{none_started, started_is}
use Rattle.c_semantics.proofs.WrittenMemory.{unwritten_is}
use Rattle.c_meaning.proofs.machine.starting.start_memory.Goals as goal

pub returns : goal.returns
returns c =
    let text = items_of c.args.tree.now in
    let places = addresses (globals text) in
    let ds = global_declarators text in
    let rest = c.loop-item.rest.now in
    let memory = c.loop-item.memory in
    let left = drop_all c.loop-item.item-index c.args.tree.now.items.items (omega (arith, ap length c.deref-item-items.ensures.value)) in
    sym (none_started rest memory)
    ∙ (ap (λ (items : List Item). started rest (global_declarators (map item_of items)) memory) (sym left)
    ∙ (c.loop-item.invariant
    ∙ (started_is places ds (record { bytes = unwritten MEMORY_BYTES; live = [] })
    ∙ (λ i. record { bytes = with_first_bytes places ds (unwritten_is MEMORY_BYTES i); live = global_objects places ds }))))
