use Rattle.std.proofs.Common.{map, ap, arith}
use Rattle.std.proofs.lemmas.Grind.{common_steps}
use Rattle.c_tree.specs.View.{var_of}
use Rattle.c_tree.proofs.LeastBreach.{least-append}
use Rattle.c_tree.proofs.TreeLists.{cut_at}
use Rattle.c_check.proofs.declarator.check_declarators.Goals as goal

pub loop-v-preserved : goal.loop-v-preserved
loop-v-preserved c =
    let here = ap (map var_of) (cut_at c.args.vars.now c.loop-v.v-index c.v-item.result c.loop-v-test.true c.v-item.is) in
    record {
      scope = grind (arith, common_steps, here);
      least = grind (arith, common_steps, here, least-append);
    }
