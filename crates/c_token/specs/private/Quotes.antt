-- The value of a character constant, by the number of its bytes. Only private functions cite it.
use Rattle.std.specs.Prelude.{◌≡◌, ℕ, ◌+◌, ◌-◌, ◌*◌, Bool, ◌&&◌, not, List, [], ◌∷◌, ◌++◌, length, take, drop, slice_index, nat_eq, nat_lt, nat_le, if◌then◌else◌, Option, Some, None}
use Rattle.std.specs.Option.{is_some}
use Rattle.c_token.specs.Bytes.{is_digit, digit}
use Rattle.c_token.specs.Characters.{is_plain, simple_escape}

abbrev pub one_digit : ℕ → ℕ → Option ℕ
one_digit base a = if is_digit base a then Some (digit a) else None

abbrev pub two_digits : ℕ → ℕ → ℕ → Option ℕ
two_digits base a b = if is_digit base a && is_digit base b then Some (base * digit a + digit b)
    else None

-- below 256
abbrev pub three_digits : ℕ → ℕ → ℕ → Option ℕ
three_digits a b c = if is_digit 8 a && (is_digit 8 b && is_digit 8 c)
    then (if nat_lt (64 * digit a + 8 * digit b + digit c) 256
    then Some (64 * digit a + 8 * digit b + digit c) else None) else None

-- one letter, mark or digit behind `\`
abbrev pub escape : ℕ → Option ℕ
escape b = if is_some (simple_escape b) then simple_escape b else one_digit 8 b

-- the value of what stands between the quotes
abbrev pub quoted : List ℕ → Option ℕ
quoted (a ∷ []) = if is_plain a then Some a else None
quoted (a ∷ b ∷ []) = if nat_eq a 92 then escape b else None
quoted (a ∷ b ∷ c ∷ []) =
    if not (nat_eq a 92) then None
    else (if nat_eq b 120 then one_digit 16 c else two_digits 8 b c)
quoted (a ∷ b ∷ c ∷ d ∷ []) =
    if not (nat_eq a 92) then None
    else (if nat_eq b 120 then two_digits 16 c d else three_digits b c d)
quoted _ = None

-- the bytes are a constant of this value
pub record IsCharacter (value : ℕ) (bytes behind : List ℕ) : Type 0 where
  pub inside : List ℕ
  pub parts : bytes ≡ 39 ∷ inside ++ 39 ∷ []
  pub value_is : quoted inside ≡ Some value

-- quotes enclose the first n bytes
abbrev pub has_quotes : List ℕ → ℕ → Bool
has_quotes rest n = nat_le n (length rest)
    && (nat_eq (slice_index rest 0) 39 && nat_eq (slice_index rest (n - 1)) 39)

abbrev pub character_in : List ℕ → ℕ → Option ℕ
character_in rest n = if has_quotes rest n then quoted (take (n - 2) (drop 1 rest)) else None
