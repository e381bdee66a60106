use Rattle.std.proofs.Common.{◌≡◌, false, not, is_some, ap, sym, ◌∙◌}
use Rattle.c_tree.specs.Regions.{first_edge, is_right_before}
use Rattle.c_check.proofs.RegionLemmas.{right_when}
use Rattle.c_check.proofs.region.is_right.Goals as goal

pub returns-else-is_some-2 : goal.returns-else-is_some-2
returns-else-is_some-2 c = λ es rest before whole.
    let e = c.args.edge in
    let own : is_some (first_edge e.begins e.number es) ≡ false =
    ap is_some (sym (c.find.ensures ∙ before e.begins e.number)) ∙ sym c.is_some.ensures ∙ c.if-is_some.false in
    let other : is_some (first_edge (not e.begins) e.number es) ≡ false =
    ap is_some (sym (c.find-2.ensures ∙ before (not e.begins) e.number)) ∙ sym c.is_some-2.ensures ∙ c.if-is_some-2.false in
    c.is_right_before.ensures
    ∙ ap (is_right_before e) (c.find-else-is_some-2.ensures ∙ whole (not e.begins) e.number)
    ∙ sym (right_when e es rest own other)
