use Rattle.std.proofs.Common.{◌+◌, ◌++◌, ap, sym, ◌∙◌, map, drop}
use Rattle.c_tree.proofs.TreeLists.{cut_at}
use Rattle.c_tree.specs.Declarators.{declared_shape}
use Rattle.c_tree.specs.View.{var_of}
use Rattle.c_layout.specs.private.Capped.{near, cursors_of}
use Rattle.c_layout.specs.Globals.{addresses_from, global_of}
use Rattle.c_layout.proofs.Placing.{place_one}
use Rattle.c_layout.proofs.globals.place_vars.Goals as goal

pub loop-v-preserved : goal.loop-v-preserved
loop-v-preserved c = λ rest.
    let here = cut_at c.args.vars.now c.loop-v.v-index c.v-item.result c.loop-v-test.true c.v-item.is in
    let left = map (global_of c.args.keep) (map var_of (drop (c.loop-v.v-index + 1) c.args.vars.now)) ++ rest in
    let old = c.loop-v.out.items in
    ap (λ out. out ++ map near (addresses_from (cursors_of c.move_on-next.result) left)) c.in_ok-push.ensures.items
    ∙ place_one c.args.keep (declared_shape (var_of c.v-item.result)) left old (cursors_of c.loop-v.next) (cursors_of c.move_on-next.result) c.get.result c.place-span.result.from c.place-span.result.to c.get.ensures.value c.place-span.ensures.from c.place-span.ensures.to c.move_on-next.ensures
    ∙ ap (λ vs. old ++ map near (addresses_from (cursors_of c.loop-v.next) (map (global_of c.args.keep) (map var_of vs) ++ rest))) (sym here)
    ∙ c.loop-v.invariant rest
