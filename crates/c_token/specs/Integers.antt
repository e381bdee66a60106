-- Integer constants (C11 6.4.4.1), with the suffix `u` alone and the types int and unsigned alone.
use Rattle.std.specs.Prelude.{◌≡◌, ℕ, ◌<◌, ◌^◌, Bool, true, false, ◌||◌, ◌&&◌, not, List, [], ◌∷◌, ◌++◌, length, drop, if◌then◌else◌, nat_eq, nat_lt, nat_le, Option, Some, None}
use Rattle.std.specs.List.{list_all}
use Rattle.c_tree.specs.declared.ctype.CType.TheVariants.{Int, Unsigned}
use Rattle.c_token.specs.declared.token.Kind.{Kind}
use Rattle.c_token.specs.declared.token.Kind.TheVariants as k
use Rattle.c_token.specs.declared.number.Number.{Number}
use Rattle.c_token.specs.Bytes.{first, is_digit, value_from}

pub record Constant : Type 0 where
  pub base : ℕ
  pub suffixed : Bool
  pub value : ℕ

-- `0x` or `0X` stands in front
abbrev pub is_hexadecimal : List ℕ → Bool
is_hexadecimal (a ∷ b ∷ bytes) = nat_eq a 48 && (nat_eq b 120 || nat_eq b 88)
is_hexadecimal _ = false

-- another leading 0 makes it octal
abbrev pub base_of : List ℕ → ℕ
base_of bytes = if is_hexadecimal bytes then 16 else (if nat_eq (first bytes) 48 then 8 else 10)

abbrev pub digits_of : List ℕ → List ℕ
digits_of bytes = if is_hexadecimal bytes then drop 2 bytes else bytes

-- `u` or `U`
abbrev pub is_suffix : ℕ → Bool
is_suffix b = nat_eq b 117 || nat_eq b 85

abbrev pub IsSuffix : List ℕ → Bool → Type 0
IsSuffix [] suffixed = suffixed ≡ false
IsSuffix (b ∷ []) suffixed = (is_suffix b ≡ true) × (suffixed ≡ true)
IsSuffix _ suffixed = ⊥

-- the bytes are a constant: digits of its base, at least one, and perhaps a suffix
pub record IsConstant (bytes : List ℕ) (c : Constant) : Type 0 where
  pub body : List ℕ
  pub suffix : List ℕ
  pub parts : bytes ≡ body ++ suffix
  pub suffixed : IsSuffix suffix c.suffixed
  pub base : c.base ≡ base_of body
  pub some_digit : 0 < length (digits_of body)
  pub all_digits : list_all (is_digit c.base) (digits_of body) ≡ true
  pub value : c.value ≡ value_from c.base 0 (digits_of body)

-- An int up to 2 ^ 31 - 1. Above that it is unsigned up to 2 ^ 32 - 1, with a suffix or another base than
-- 10. Any other is too large, since types wider than int are left out.
abbrev pub number_of : Constant → Option Number
number_of c =
    if not c.suffixed && nat_lt c.value (2 ^ 31)
    then Some (record { unsigned = false; value = c.value })
    else (if nat_le (2 ^ 32) c.value || (not c.suffixed && nat_eq c.base 10) then None
    else Some (record { unsigned = true; value = c.value }))

abbrev pub number_kind : Number → Kind
number_kind n = k.Number (if n.unsigned then Unsigned else Int) n.value
