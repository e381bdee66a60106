use Rattle.std.proofs.Common.{arith}
use Rattle.std.proofs.lemmas.List.{take_rest}
use Rattle.std.proofs.lemmas.Grind.{common_steps}
use Rattle.bop_ends.proofs.WrittenPieces.{writes_more}
use Rattle.bop_ends.proofs.real_sink.write_whole.Goals as goal

pub loop-rest-preserved : goal.loop-rest-preserved
loop-rest-preserved g c =
    rw (take_rest c.loop-rest.rest.now c.in-Ok.count)
    (writes_more _ _ _ _ _ c.in-Ok.count c.loop-rest.invariant (grind (arith, common_steps)) c.in-Ok.ensures.bytes)
