use Rattle.std.proofs.Common.{ap, arith}
use Rattle.std.proofs.lemmas.Grind.{common_steps}
use Rattle.c_tree.specs.View.{exprs_of}
use Rattle.c_tree.proofs.LeastBreach.{least-append}
use Rattle.c_tree.proofs.TreeLists.{cut_at}
use Rattle.c_check.proofs.initialiser.check_constants.Goals as goal

pub loop-e-preserved : goal.loop-e-preserved
loop-e-preserved c =
    let here = ap exprs_of (cut_at c.args.values.now c.loop-e.e-index c.e-item.result c.loop-e-test.true c.e-item.is) in
    grind (arith, common_steps, here, least-append)
