-- The integer constant that a word spells. Only private functions cite it.
use Rattle.std.specs.Prelude.{◌≡◌, ℕ, ◌-◌, Bool, ◌&&◌, List, length, take, slice_index, nat_lt, if◌then◌else◌, Some, None, Result, Ok, Err}
use Rattle.std.specs.List.{list_all}
use Rattle.c_token.specs.declared.number.Number.{Number}
use Rattle.c_token.specs.declared.number.NumberFault.{NumberFault}
use Rattle.c_token.specs.declared.number.NumberFault.TheVariants.{Malformed, Large}
use Rattle.c_token.specs.Bytes.{is_digit}
use Rattle.c_token.specs.Integers.{Constant, IsConstant, number_of, is_suffix}

abbrev pub is_suffixed : List ℕ → Bool
is_suffixed word = is_suffix (slice_index word (length word - 1))

-- a word without its suffix
abbrev pub body_of : List ℕ → List ℕ
body_of word = if is_suffixed word then take (length word - 1) word else word

abbrev pub are_digits : ℕ → List ℕ → Bool
are_digits base digits = nat_lt 0 (length digits) && list_all (is_digit base) digits

abbrev pub IsTyped : Constant → Result Number NumberFault → Type 0
IsTyped c (Ok n) = number_of c ≡ Some n
IsTyped c (Err e) = (number_of c ≡ None) × (e ≡ Large)

-- the whole word is the number's constant, or one that is too large, or none
abbrev pub IsNumber : List ℕ → Result Number NumberFault → Type 0
IsNumber word (Ok n) = (c : Constant) × IsConstant word c × (number_of c ≡ Some n)
IsNumber word (Err Large) = (c : Constant) × IsConstant word c × (number_of c ≡ None)
IsNumber word (Err Malformed) = (c : Constant) → IsConstant word c → ⊥
