use Rattle.std.proofs.KnownBytes.{Consumes-trans}
use Rattle.bop_top.proofs.input.read_input.Goals as goal

pub returns-then-is_err-clause-part : goal.returns-then-is_err-clause-part
returns-then-is_err-clause-part g c = (_, Consumes-trans _ _ _ _ _ c.loop-piece.invariant.taken c.in-Ok.ensures.bytes.0, tt)
