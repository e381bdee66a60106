use Rattle.std.proofs.Common.{◌≡◌, take}
use Rattle.c_semantics.specs.Memory.{with_bytes}
use Rattle.c_semantics.proofs.bytes.fill.Given as goal

abbrev pub invariant-loop-offset : goal.invariant-loop-offset
invariant-loop-offset l = l.cells ≡ with_bytes l.at (take l.offset l.bytes) l.fn.cells
