use Rattle.std.proofs.Common.{refl, ap, ◌∙◌, map}
use Rattle.bop_bits.specs.declared.map.TheConstants.{DATA_FROM}
use Rattle.c_tree.specs.declared.operator.Keep.TheVariants.{Shared, Checked, Private}
use Rattle.c_tree.specs.View.{item_of}
use Rattle.c_layout.specs.private.Capped.{near}
use Rattle.c_layout.specs.Globals.{globals, kept, checked_from, private_from}
use Rattle.c_layout.proofs.Nearness.{near_near, page_behind}
use Rattle.c_layout.proofs.globals.sections_of.Goals as goal

pub returns-clause-checked_from : goal.returns-clause-checked_from
returns-clause-checked_from c =
    let gs = globals (map item_of c.args.items.now) in
    c.page_up-checked_from.ensures ∙ page_behind (kept Shared gs) DATA_FROM DATA_FROM c.section_end.result refl c.section_end.ensures

pub returns-clause-private_from : goal.returns-clause-private_from
returns-clause-private_from c =
    let gs = globals (map item_of c.args.items.now) in
    let checked = returns-clause-checked_from c in
    c.page_up-private_from.ensures ∙ page_behind (kept Checked gs) (checked_from gs) c.page_up-checked_from.result c.section_end-2.result (ap near checked ∙ near_near _) c.section_end-2.ensures

pub returns-clause-private_to : goal.returns-clause-private_to
returns-clause-private_to c =
    let gs = globals (map item_of c.args.items.now) in
    let private = returns-clause-private_from c in
    c.page_up-private_to.ensures ∙ page_behind (kept Private gs) (private_from gs) c.page_up-private_from.result c.section_end-3.result (ap near private ∙ near_near _) c.section_end-3.ensures
