use Rattle.std.proofs.Common.{ap, arith}
use Rattle.std.proofs.Math.Bool.{and_assoc}
use Rattle.std.proofs.lemmas.Grind.{common_steps}
use Rattle.c_tree.specs.View.{exprs_of}
use Rattle.c_tree.proofs.LeastBreach.{least-append}
use Rattle.c_tree.proofs.TreeLists.{cut_at}
use Rattle.c_check.proofs.sizes.check_sizes.Goals as goal

pub loop-size-preserved : goal.loop-size-preserved
loop-size-preserved c =
    let here = ap exprs_of (cut_at c.args.sizes.now c.loop-size.size-index c.size-item.result c.loop-size-test.true c.size-item.is) in
    record {
      fits = grind (arith, common_steps, here, and_assoc);
      least = grind (arith, common_steps, here, least-append);
    }
