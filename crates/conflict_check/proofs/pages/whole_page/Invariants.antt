use Rattle.std.proofs.Common.{◌≡◌, ◌<◌, ℕ, true}
use Rattle.bop_bits.specs.BitSets.{is_in}
use Rattle.conflict_check.proofs.pages.whole_page.Given as goal

abbrev pub invariant-loop-place : goal.invariant-loop-place
invariant-loop-place l = (place : ℕ) → place < l.place → is_in l.whole.words place ≡ true
