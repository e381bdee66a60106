use Rattle.std.proofs.Common.{◌≡◌, ◌<◌, ℕ}
use Rattle.std.specs.Prelude.{bit_and, slice_index}
use Rattle.bop_bits.proofs.bit_set.BitSet.meets.Given as goal

abbrev pub invariant-loop-i : goal.invariant-loop-i
invariant-loop-i g l = (j : ℕ) → j < l.i → bit_and (slice_index l.self.words j) (slice_index l.other.words j) ≡ 0
