use Rattle.std.proofs.Common.{◌+◌, map, drop, ap, subst, arith}
use Rattle.std.proofs.lemmas.List.{drop_all}
use Rattle.c_tree.specs.View.{item_of}
use Rattle.c_tree.proofs.TreeLists.{cut_at}
use Rattle.c_layout.specs.LayoutAnswers.{plan_of}
use Rattle.low_link.specs.private.BegunCode.{IsBegun}
use Rattle.low_link.proofs.BegunText.{code_done, ends_done}
use Rattle.low_link.proofs.text.lower_items.Goals as goal

pub lower_item-requires : goal.lower_item-requires
lower_item-requires c =
    let i = c.loop-item.item-index in
    let frames = (plan_of c.args.layout.now).frames in
    let l = c.loop-item in
    let next = map item_of (drop (i + 1) c.args.items.now) in
    let here = ap (map item_of) (cut_at c.args.items.now i c.item-item.result c.loop-item-test.true c.item-item.is) in
    (c.requires.0, next, subst (λ left. IsBegun c.requires.0 frames left l.number l.names l.asm l.ends) here (l.invariant c.requires.0 c.requires.1))

pub loop-item-preserved : goal.loop-item-preserved
loop-item-preserved c =
    let i = c.loop-item.item-index in
    let frames = (plan_of c.args.layout.now).frames in
    let l = c.loop-item in
    let next = map item_of (drop (i + 1) c.args.items.now) in
    let here = ap (map item_of) (cut_at c.args.items.now i c.item-item.result c.loop-item-test.true c.item-item.is) in
    λ text begun. c.in_ok-number.ensures.begun text next (subst (λ left. IsBegun text frames left l.number l.names l.asm l.ends) here (l.invariant text begun))

pub returns-clause-code : goal.returns-clause-code
returns-clause-code c =
    let l = c.loop-item in
    let frames = (plan_of c.args.layout.now).frames in
    let left = ap (map item_of) (drop_all l.item-index c.args.items.now (omega arith)) in
    λ text begun. code_done text frames l.number l.names l.asm l.ends (subst (λ left. IsBegun text frames left l.number l.names l.asm l.ends) left (l.invariant text begun))

pub returns-clause-ends : goal.returns-clause-ends
returns-clause-ends c =
    let l = c.loop-item in
    let frames = (plan_of c.args.layout.now).frames in
    let left = ap (map item_of) (drop_all l.item-index c.args.items.now (omega arith)) in
    λ text begun. ends_done text frames l.number l.names l.asm l.ends (subst (λ left. IsBegun text frames left l.number l.names l.asm l.ends) left (l.invariant text begun))
