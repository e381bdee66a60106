use Rattle.std.proofs.Common.{◌+◌, ap, sym, ◌∙◌, arith, map, drop}
use Rattle.std.proofs.lemmas.Grind.{common_steps}
use Rattle.c_tree.proofs.TreeLists.{cut_at}
use Rattle.c_tree.specs.Declarators.{declared_shape}
use Rattle.c_tree.specs.View.{var_of}
use Rattle.c_layout.specs.private.Capped.{near}
use Rattle.c_layout.specs.Globals.{end_of}
use Rattle.c_layout.proofs.Nearness.{end_of-next}
use Rattle.c_layout.proofs.globals.vars_end.Goals as goal

pub loop-v-preserved : goal.loop-v-preserved
loop-v-preserved c =
    let here = cut_at c.args.vars.now c.loop-v.v-index c.v-item.result c.loop-v-test.true c.v-item.is in
    let rest = map declared_shape (map var_of (drop (c.loop-v.v-index + 1) c.args.vars.now)) in
    record {
      limit = grind (arith, common_steps);
      done =
          end_of-next (declared_shape (var_of c.v-item.result)) rest c.loop-v.at c.place-at.result.to c.place-at.ensures.to
          ∙ ap (λ vs. near (end_of c.loop-v.at (map declared_shape (map var_of vs)))) (sym here)
          ∙ c.loop-v.invariant.done;
    }
