use Rattle.std.proofs.Common.{◌++◌, ◌∷◌, [], map, take, ap, sym, subst, ◌∙◌, arith}
use Rattle.std.proofs.lemmas.Grind.{common_steps}
use Rattle.std.proofs.lemmas.List.{map_more}
use Rattle.c_tree.proofs.LeastBreach.{least-append}
use Rattle.c_tree.proofs.TreeLists.{cut_at}
use Rattle.c_tree.specs.View.{item_of}
use Rattle.c_check.specs.private.Defined.{Defines}
use Rattle.c_check.proofs.text.check_items.Goals as goal

pub loop-item-preserved : goal.loop-item-preserved
loop-item-preserved c =
    let items = c.args.items.now in
    let i = c.loop-item.item-index in
    let passed = map item_of (take i items) in
    let here = ap (map item_of) (cut_at items i c.item-item.result c.loop-item-test.true c.item-item.is) in
    let taken = map_more item_of items i c.item-item.result c.loop-item-test.true ∙ ap (λ x. passed ++ item_of x ∷ []) (sym c.item-item.is) in
    let scope = c.in_ok-check_item.ensures.scope (map item_of items) c.in_ok-whole.ensures in
    let step = c.in_ok-check_item.ensures.least (map item_of items) passed c.in_ok-whole.ensures c.loop-item.invariant.before in
    record {
      before = subst (Defines c.pass.new.self) (sym taken) (c.in_ok-pass.ensures passed c.loop-item.invariant.before);
      least = grind (arith, common_steps, here, taken, scope, step, least-append);
    }
