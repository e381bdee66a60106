use Rattle.std.proofs.Common.{◌≡◌, false, List, None, map, ap, subst, ◌∙◌}
use Rattle.bop_bits.specs.declared.class.Classes.{Classes}
use Rattle.c_tree.specs.Item.{Item}
use Rattle.c_tree.specs.View.{item_of}
use Rattle.c_layout.specs.Frames.{frames}
use Rattle.c_layout.specs.Laid.{Plan, plan, is_data_too_large, first_too_large}
use Rattle.c_layout.specs.LayoutAnswers.{planned_of}
use Rattle.c_layout.proofs.Fitting.{laid}
use Rattle.c_layout.proofs.layout.layout_of.Goals as goal

pub returns : goal.returns
returns c =
    let ps = map item_of c.as_slice-items.result.now in
    let same = ap (map item_of) c.as_slice-items.ensures.value in
    let sections = c.sections_of-sections.ensures in
    let here = laid ps c.sections_of-sections.result.checked_from c.sections_of-sections.result.private_from c.sections_of-sections.result.private_to c.in_ok-globals.globals.items
    sections.checked_from sections.private_from sections.private_to c.if-sections-gt-STACK_FROM.false c.in_ok-globals.ensures in
    let classes : ◌≡◌ {A = Classes} c.classes.result (plan ps).classes = c.classes.ensures ∙ here.1 in
    subst (λ (ps : List Item). (◌≡◌ {A = Plan} (record { globals = c.in_ok-globals.globals.items; frames = map planned_of c.in_ok-frames.frames.items; classes = c.classes.result }) (plan ps)) × (is_data_too_large ps ≡ false) × (first_too_large (frames ps) ≡ None))
    same
    (λ i. record { globals = here.0 i; frames = c.in_ok-frames.ensures.frames i; classes = classes i }, here.2, c.in_ok-frames.ensures.fit)
