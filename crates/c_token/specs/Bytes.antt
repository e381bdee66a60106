-- The classes of a byte (C11 5.2.1 and 6.4).
use Rattle.std.specs.Prelude.{ℕ, ◌+◌, ◌-◌, ◌*◌, Bool, ◌||◌, List, [], ◌∷◌, if◌then◌else◌, nat_eq, nat_lt, slice_index}
use Rattle.std.specs.Char.{is_ascii_alphanumeric}
use Rattle.std.specs.Int.{is_in_range}

-- the first byte, or 0 where there is none
abbrev pub first : List ℕ → ℕ
first bytes = slice_index bytes 0

-- blank, tab, LF, vertical tab, form feed, CR
abbrev pub is_separator : ℕ → Bool
is_separator b = nat_eq b 32 || is_in_range 9 13 b

-- blank, tab
abbrev pub is_blank : ℕ → Bool
is_blank b = nat_eq b 32 || nat_eq b 9

-- a letter, a digit or `_`
abbrev pub is_word : ℕ → Bool
is_word b = is_ascii_alphanumeric b || nat_eq b 95

-- what a byte stands for as a digit of a base up to 16, or 16
abbrev pub digit : ℕ → ℕ
digit b =
    if is_in_range 48 57 b then b - 48
    else (if is_in_range 97 102 b then b - 87
    else (if is_in_range 65 70 b then b - 55
    else 16))

abbrev pub is_digit : ℕ → ℕ → Bool
is_digit base b = nat_lt (digit b) base

-- the value of digits that stand behind those whose value is n
abbrev pub value_from : ℕ → ℕ → List ℕ → ℕ
value_from base n [] = n
value_from base n (b ∷ bs) = value_from base (base * n + digit b) bs
