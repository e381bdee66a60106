use Rattle.std.proofs.Common.{take}
use Rattle.c_check.specs.private.Firsts.{HasFirsts}
use Rattle.c_check.proofs.region.firsts_of.Given as goal

abbrev pub invariant-loop-edge : goal.invariant-loop-edge
invariant-loop-edge l = HasFirsts l.firsts (take l.edge-index l.edges)
