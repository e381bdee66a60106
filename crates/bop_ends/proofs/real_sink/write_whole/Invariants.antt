use Rattle.std.proofs.Common.{length}
use Rattle.bop_ends.proofs.WrittenPieces.{IsWrittenTo}
use Rattle.bop_ends.proofs.real_sink.write_whole.Given as goal

abbrev pub invariant-loop-rest : goal.invariant-loop-rest
invariant-loop-rest g l =
    IsWrittenTo (g.W.Write.contents l.initial.writer) (g.W.Write.contents l.writer) l.fn.piece l.rest

abbrev pub decreases-loop-rest : goal.decreases-loop-rest
decreases-loop-rest g l = length l.rest
