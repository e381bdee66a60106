use Rattle.std.proofs.Common.{take}
use Rattle.c_check.proofs.RegionLemmas.{one_more}
use Rattle.c_check.proofs.region.firsts_of.Goals as goal

pub loop-edge-preserved : goal.loop-edge-preserved
loop-edge-preserved c =
    let i = c.loop-edge.edge-index in
    one_more c.add.new.self c.args.edges.now i _ c.loop-edge-test.true (c.in_ok-add.ensures (take i c.args.edges.now) c.loop-edge.invariant)
