use Rattle.std.proofs.Common.{◌+◌, ◌++◌, ap, sym, ◌∙◌, map, drop}
use Rattle.c_tree.proofs.TreeLists.{cut_at}
use Rattle.c_tree.specs.View.{item_of}
use Rattle.c_layout.specs.private.Capped.{near, cursors_of}
use Rattle.c_layout.specs.Globals.{addresses_from, globals}
use Rattle.c_layout.proofs.Nearness.{globals-cons}
use Rattle.c_layout.proofs.globals.place_items.Goals as goal

pub loop-item-preserved : goal.loop-item-preserved
loop-item-preserved c =
    let here = cut_at c.args.items.now c.loop-item.item-index c.item-item.result c.loop-item-test.true c.item-item.is in
    let rest = map item_of (drop (c.loop-item.item-index + 1) c.args.items.now) in
    let old = c.loop-item.out.items in
    c.in_ok-next.ensures (globals rest)
    ∙ ap (λ gs. old ++ map near (addresses_from (cursors_of c.loop-item.next) gs)) (sym (globals-cons (item_of c.item-item.result) rest))
    ∙ ap (λ is. old ++ map near (addresses_from (cursors_of c.loop-item.next) (globals (map item_of is)))) (sym here)
    ∙ c.loop-item.invariant
