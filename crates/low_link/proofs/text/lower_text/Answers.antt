use Rattle.std.proofs.Common.{List, map, replicate, ap, sym, subst, ◌∙◌}
use Rattle.c_tree.specs.declared.tree.Item.{Item}
use Rattle.c_tree.specs.declared.tree.Tree.{Tree}
use Rattle.c_tree.specs.View.{item_of, items_of}
use Rattle.c_layout.specs.LayoutAnswers.{plan_of}
use Rattle.low_link.specs.private.BegunCode.{IsBegun}
use Rattle.low_link.proofs.text.lower_text.Goals as goal

pub lower_items-requires : goal.lower_items-requires
lower_items-requires c =
    let text = items_of c.args.checked.now.tree in
    let all = (plan_of c.args.layout.now).frames in
    let items = sym (c.deref.ensures.value ∙ ap (λ (t : Tree). t.items.items) c.tree.ensures.same) in
    (text, subst (λ (is : List Item). IsBegun text all (map item_of is) 0 c.in_ok-names.names c.begin.new.asm (replicate 256 0)) items c.in_ok-names.ensures.begun)

pub returns-clause-code : goal.returns-clause-code
returns-clause-code c =
    let text = items_of c.args.checked.now.tree in
    let all = (plan_of c.args.layout.now).frames in
    let items = sym (c.deref.ensures.value ∙ ap (λ (t : Tree). t.items.items) c.tree.ensures.same) in
    c.in_ok-lower_items.ensures.code text (subst (λ (is : List Item). IsBegun text all (map item_of is) 0 c.in_ok-names.names c.begin.new.asm (replicate 256 0)) items c.in_ok-names.ensures.begun)

pub returns-clause-ends : goal.returns-clause-ends
returns-clause-ends c =
    let text = items_of c.args.checked.now.tree in
    let all = (plan_of c.args.layout.now).frames in
    let items = sym (c.deref.ensures.value ∙ ap (λ (t : Tree). t.items.items) c.tree.ensures.same) in
    c.in_ok-lower_items.ensures.ends text (subst (λ (is : List Item). IsBegun text all (map item_of is) 0 c.in_ok-names.names c.begin.new.asm (replicate 256 0)) items c.in_ok-names.ensures.begun)
