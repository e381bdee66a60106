use Rattle.std.proofs.Common.{◌*◌, List, map, length, ap, sym, ◌∙◌, arith}
use Rattle.std.proofs.lemmas.List.{drop_all}
use Rattle.bop_bits.specs.declared.class.Classes.{Classes}
use Rattle.bop_bits.specs.declared.map.TheConstants.{PAGE_BYTES}
use Rattle.c_tree.specs.declared.tree.Item.{Item}
use Rattle.c_tree.specs.View.{item_of, items_of}
use Rattle.c_layout.specs.Globals.{globals}
use Rattle.c_layout.specs.Laid.{Plan}
use Rattle.c_semantics.specs.Meaning.{global_declarators}
use Rattle.low_link.specs.private.DataBytes.{with_first_data}
use Rattle.low_link.proofs.StartingData.{whole_pages, no_global, data_is}
use Rattle.low_link.proofs.data.data_of.Goals as goal

pub returns : goal.returns
returns c =
    let text = items_of c.args.tree.now in
    let rest = c.loop-item.rest.now in
    let bytes = c.loop-item.bytes.items in
    let left = drop_all c.loop-item.item-index c.args.tree.now.items.items (omega (arith, ap length c.deref-item-items.ensures.value)) in
    let count = ap (λ (k : Classes). k.private_to * PAGE_BYTES) (c.classes-length.ensures ∙ ap (λ (p : Plan). p.classes) c.requires.planned) ∙ whole_pages (globals text) in
    sym (no_global rest bytes)
    ∙ (ap (λ (items : List Item). with_first_data rest (global_declarators (map item_of items)) bytes) (sym left)
    ∙ (c.loop-item.invariant
    ∙ data_is text _ c.requires.fits count))
