use Rattle.std.proofs.Common.{◌≡◌}
use Rattle.c_semantics.specs.Memory.{blank}
use Rattle.c_semantics.proofs.bytes.blank.Given as goal

abbrev pub invariant-loop-offset : goal.invariant-loop-offset
invariant-loop-offset l = l.cells ≡ blank l.at l.offset l.fn.cells
