-- Comments (C11 6.4.9).
use Rattle.std.specs.Prelude.{◌≡◌, ℕ, Bool, true, false, ◌||◌, ◌&&◌, not, List, [], ◌∷◌, ◌++◌, nat_eq, ◌⊎◌}
use Rattle.std.specs.List.{list_all}
use Rattle.c_token.specs.Bytes.{first}

-- `/*` or `//` stands in front
abbrev pub opens_comment : List ℕ → Bool
opens_comment (a ∷ b ∷ bytes) = nat_eq a 47 && (nat_eq b 42 || nat_eq b 47)
opens_comment _ = false

-- `*/` stands somewhere in the bytes
abbrev pub has_close : List ℕ → Bool
has_close [] = false
has_close (a ∷ bytes) = (nat_eq a 42 && nat_eq (first bytes) 47) || has_close bytes

-- no LF
abbrev pub is_in_line : ℕ → Bool
is_in_line b = not (nat_eq b 10)

-- nothing follows, or a LF
abbrev pub EndsLine : List ℕ → Type 0
EndsLine rest = (rest ≡ []) ⊎ (first rest ≡ 10)

-- the bytes, with the rest behind them, are a comment
pub data IsComment (bytes rest : List ℕ) : Type 0 where
  block : (inside : List ℕ) → bytes ≡ 47 ∷ 42 ∷ inside ++ 42 ∷ 47 ∷ [] → has_close inside ≡ false
      → IsComment bytes rest
  line : (inside : List ℕ) → bytes ≡ 47 ∷ 47 ∷ inside → list_all is_in_line inside ≡ true
      → EndsLine rest → IsComment bytes rest
