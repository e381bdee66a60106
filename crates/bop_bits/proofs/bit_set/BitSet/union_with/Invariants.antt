use Rattle.std.proofs.Common.{◌≡◌, ◌<◌, ◌≤◌, ℕ, length}
use Rattle.std.specs.Prelude.{bit_or, bit_and, slice_index}
use Rattle.std.specs.Int.{w64, bit_not}
use Rattle.bop_bits.proofs.bit_set.BitSet.union_with.Given as goal

abbrev pub invariant-loop-i : goal.invariant-loop-i
invariant-loop-i g l = record {
  done : (j : ℕ) → j < l.i
      → slice_index l.self.words j ≡ bit_or (slice_index l.initial.self.words j) (slice_index l.other.words j);
  kept : length l.self.words ≡ length l.initial.self.words;
  left : (j : ℕ) → l.i ≤ j → slice_index l.self.words j ≡ slice_index l.initial.self.words j;
}
