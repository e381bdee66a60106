-- Sets of small numbers, kept as bits of words, the lowest bit first.
use Rattle.std.specs.Prelude.{◌≡◌, ℕ, ◌/◌, ◌%◌, ◌==◌, Bool, true, List, slice_index}
use Rattle.std.specs.Int.{bit_at}

-- whether a number is in the set
abbrev pub is_in : (words : List ℕ) → ℕ → Bool
is_in words at = bit_at (slice_index words (at / 64)) (at % 64) == 1

-- a number is in both sets
abbrev pub Meet : List ℕ → List ℕ → Type 0
Meet a b = (at : ℕ) × ((is_in a at ≡ true) × (is_in b at ≡ true))
