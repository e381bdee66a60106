-- The forms of the signs. Only private functions cite it.
use Rattle.std.specs.Prelude.{ℕ, Bool, false, ◌||◌, ◌&&◌, List, [], ◌∷◌, nat_eq, codes, if◌then◌else◌}
use Rattle.std.specs.List.{list_any}

abbrev pub is_one_of : List ℕ → ℕ → Bool
is_one_of bytes b = list_any (λ x. nat_eq x b) bytes

-- `=` may follow in the same sign
abbrev pub takes_equals : ℕ → Bool
takes_equals = is_one_of (codes "+-*/%&|^=!<>")

-- nothing may follow in the same sign
abbrev pub stands_alone : ℕ → Bool
stands_alone = is_one_of (codes "~?:;,()[]{}")

-- the same may follow in the same sign
abbrev pub doubles : ℕ → Bool
doubles = is_one_of (codes "+-<>&|")

-- the bytes are a sign, by their form
abbrev pub has_form : List ℕ → Bool
has_form (a ∷ []) = takes_equals a || stands_alone a
has_form (a ∷ b ∷ []) = (nat_eq b 61 && takes_equals a) || (nat_eq a b && doubles a)
has_form (a ∷ b ∷ c ∷ []) = nat_eq c 61 && (nat_eq a b && (nat_eq a 60 || nat_eq a 62))
has_form _ = false

abbrev pub one : ℕ → ℕ
one a = if has_form (a ∷ []) then 1 else 0

abbrev pub two : ℕ → ℕ → ℕ
two a b = if has_form (a ∷ b ∷ []) then 2 else one a

abbrev pub three : ℕ → ℕ → ℕ → ℕ
three a b c = if has_form (a ∷ b ∷ c ∷ []) then 3 else two a b

-- how long the longest sign at the front is
abbrev pub sign_len : List ℕ → ℕ
sign_len [] = 0
sign_len (a ∷ []) = one a
sign_len (a ∷ b ∷ []) = two a b
sign_len (a ∷ b ∷ c ∷ rest) = three a b c
