-- Character constants (C11 6.4.4.4) of one byte.
use Rattle.std.specs.Prelude.{◌≡◌, ℕ, ◌<◌, ◌≤◌, Bool, true, ◌||◌, ◌&&◌, not, List, [], ◌∷◌, length, nat_eq, Option, Some, None, if◌then◌else◌}
use Rattle.std.specs.Int.{is_in_range}
use Rattle.std.specs.List.{list_all}
use Rattle.c_token.specs.Bytes.{is_digit, value_from}

-- a byte from blank to `~` other than `'` and `\`
abbrev pub is_plain : ℕ → Bool
is_plain b = is_in_range 32 126 b && not (nat_eq b 39 || nat_eq b 92)

-- what a letter or a mark stands for behind `\`: one of `n t r a b f v \ ' " ?`
abbrev pub simple_escape : ℕ → Option ℕ
simple_escape b =
    if nat_eq b 110 then Some 10
    else (if nat_eq b 116 then Some 9
    else (if nat_eq b 114 then Some 13
    else (if nat_eq b 97 then Some 7
    else (if nat_eq b 98 then Some 8
    else (if nat_eq b 102 then Some 12
    else (if nat_eq b 118 then Some 11
    else (if nat_eq b 92 || (nat_eq b 39 || (nat_eq b 34 || nat_eq b 63)) then Some b
    else None)))))))

-- the digits of a base, at least one and at most so many, have this value
pub record AreDigits (base most : ℕ) (digits : List ℕ) (value : ℕ) : Type 0 where
  pub some : 0 < length digits
  pub few : length digits ≤ most
  pub all : list_all (is_digit base) digits ≡ true
  pub value_is : value_from base 0 digits ≡ value

-- what stands between the quotes, and its value
pub data IsQuoted (inside : List ℕ) (value : ℕ) : Type 0 where
  plain : inside ≡ value ∷ [] → is_plain value ≡ true → IsQuoted inside value
  simple : (b : ℕ) → inside ≡ 92 ∷ b ∷ [] → simple_escape b ≡ Some value → IsQuoted inside value
  octal : (digits : List ℕ) → inside ≡ 92 ∷ digits → AreDigits 8 3 digits value → value < 256
      → IsQuoted inside value
  hexadecimal : (digits : List ℕ) → inside ≡ 92 ∷ 120 ∷ digits → AreDigits 16 2 digits value
      → IsQuoted inside value
