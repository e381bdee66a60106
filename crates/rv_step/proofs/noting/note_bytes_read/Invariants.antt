use Rattle.std.proofs.Common.{[]}
use Rattle.access_log.specs.Noted.{Noted}
use Rattle.rv_step.specs.Footprint.{span}
use Rattle.rv_step.proofs.noting.note_bytes_read.Given as goal

abbrev pub invariant-loop-i : goal.invariant-loop-i
invariant-loop-i l = Noted l.initial.log l.log (span l.at l.i) []
