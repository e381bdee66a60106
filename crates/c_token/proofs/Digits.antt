-- Digits of a base, and their value.
use Rattle.std.proofs.Common.{Bool, List, None, Some, [], ap, arith, drop, eqb-true, false, get_or, le-leb, length, ltb-true, mul-le-mul_left, refl, subst, sym, true, ℕ, ⊎_elim, ◌*◌, ◌+◌, ◌-◌, ◌<◌, ◌∙◌, ◌∷◌, ◌≡◌, ◌≤◌}
use Rattle.std.proofs.lemmas.Bool.{and_from, and_parts, cases_Bool, cond-false, cond-true, false_from_ne_true, leb-true, or_from, or_left, or_parts, or_right}
use Rattle.std.specs.Char.{is_ascii_alphanumeric, is_ascii_digit}
use Rattle.std.specs.Int.{is_in_range}
use Rattle.std.specs.List.{list_all}
use Rattle.std.specs.Prelude.{if◌then◌else◌, nat_eq, nat_le, ◌||◌}
use Rattle.c_token.specs.Bytes.{digit, is_digit, is_word, value_from}
use Rattle.c_token.specs.Integers.{is_suffix}
use Rattle.c_token.proofs.TokenLists.{drop_step}

pub le-value_from : (base n : ℕ) (bytes : List ℕ) → 1 ≤ base → n ≤ value_from base n bytes
le-value_from base n [] h = omega arith
le-value_from base n (b ∷ bytes) h = omega (arith, le-value_from base (base * n + digit b) bytes h, mul-le-mul_left n h)

pub chosen_some : (t : Bool) (x d : ℕ) → Some d ≡ (if t then Some x else None) → d ≡ x
chosen_some true x d h = cc
chosen_some false x d h = cc

-- the value is too large already
pub value_grows : (base n d i m v : ℕ) (digits : List ℕ) → i < length digits → 1 ≤ base
    → d ≡ digit (get_or digits i 0) → m ≤ base * n + d → value_from base n (drop i digits) ≡ v
    → m ≤ v
value_grows base n d i m v digits lt some is le value =
    omega (arith, sym (ap (value_from base n) (drop_step digits i lt)) ∙ value, le-value_from base (base * n + digit (get_or digits i 0)) (drop (i + 1) digits) some, ap (λ x. base * n + x) is)

-- no digit is a suffix
pub digit_no_suffix : (base b : ℕ) → base ≤ 16 → is_digit base b ≡ true → is_suffix b ≡ false
digit_no_suffix base b le h =
    or_from (nat_eq b 117) (nat_eq b 85)
    (false_from_ne_true _ (λ e. let lt : 16 < base = ltb-true 16 base (subst (λ x. is_digit base x ≡ true) (eqb-true b 117 e) h) in omega arith))
    (false_from_ne_true _ (λ e. let lt : 16 < base = ltb-true 16 base (subst (λ x. is_digit base x ≡ true) (eqb-true b 85 e) h) in omega arith))

-- a digit of a base up to 16 is a decimal digit, or a letter with its value
by_kind : (base b : ℕ) {P : Type 0} → base ≤ 16 → is_digit base b ≡ true
    → (is_in_range 48 57 b ≡ true → P) → (97 ≤ b → b ≤ 102 → digit b ≡ b - 87 → P)
    → (65 ≤ b → b ≤ 70 → digit b ≡ b - 55 → P) → P
by_kind base b le h decimal lower upper =
    ⊎_elim decimal
    (λ (e : is_in_range 48 57 b ≡ false). ⊎_elim
    (λ (f : is_in_range 97 102 b ≡ true).
    let p = and_parts (nat_le 97 b) (nat_le b 102) f in
    lower (leb-true 97 b p.0) (leb-true b 102 p.1) (cond-false _ _ _ e ∙ cond-true _ _ _ f))
    (λ (f : is_in_range 97 102 b ≡ false). ⊎_elim
    (λ (g : is_in_range 65 70 b ≡ true).
    let p = and_parts (nat_le 65 b) (nat_le b 70) g in
    upper (leb-true 65 b p.0) (leb-true b 70 p.1) (cond-false _ _ _ e ∙ cond-false _ _ _ f ∙ cond-true _ _ _ g))
    (λ (g : is_in_range 65 70 b ≡ false).
    let d : digit b ≡ 16 = cond-false _ _ _ e ∙ cond-false _ _ _ f ∙ cond-false _ _ _ g in
    absurd (omega (arith, ltb-true (digit b) base h, d)))
    (cases_Bool (is_in_range 65 70 b)))
    (cases_Bool (is_in_range 97 102 b)))
    (cases_Bool (is_in_range 48 57 b))

pub based_word : (base b : ℕ) → base ≤ 16 → is_digit base b ≡ true → is_word b ≡ true
based_word base b le h = by_kind base b le h
    (λ e. or_left (is_ascii_alphanumeric b) _ (or_left (is_in_range 48 57 b || is_in_range 65 90 b) _ (or_left (is_in_range 48 57 b) _ e)))
    (λ low high d. or_left (is_ascii_alphanumeric b) _ (or_right (is_in_range 48 57 b || is_in_range 65 90 b) _ (and_from (nat_le 97 b) (nat_le b 122) (le-leb 97 b low) (le-leb b 122 (omega (arith, high))))))
    (λ low high d. or_left (is_ascii_alphanumeric b) _ (or_left (is_in_range 48 57 b || is_in_range 65 90 b) _ (or_right (is_in_range 48 57 b) _ (and_from (nat_le 65 b) (nat_le b 90) (le-leb 65 b low) (le-leb b 90 (omega (arith, high)))))))

-- a digit of a base up to 10
pub digit_decimal : (base b : ℕ) → base ≤ 10 → is_digit base b ≡ true → is_ascii_digit b ≡ true
digit_decimal base b le h = by_kind base b (omega (arith, le)) h (λ e. e)
    (λ low high d. absurd (omega (arith, low, ltb-true (digit b) base h, d)))
    (λ low high d. absurd (omega (arith, low, ltb-true (digit b) base h, d)))

pub digits_words : (base : ℕ) (ds : List ℕ) → base ≤ 16 → list_all (is_digit base) ds ≡ true
    → list_all is_word ds ≡ true
digits_words base [] le h = refl
digits_words base (d ∷ ds) le h = let p = and_parts (is_digit base d) (list_all (is_digit base) ds) h in and_from (is_word d) (list_all is_word ds) (based_word base d le p.0) (digits_words base ds le p.1)

pub digit_word : (b : ℕ) → is_ascii_digit b ≡ true → is_word b ≡ true
digit_word b h = or_left _ _ (or_left _ _ (or_left _ _ h))

pub no_digit : (b : ℕ) → is_word b ≡ false → is_ascii_digit b ≡ false
no_digit b h = (or_parts _ _ (or_parts _ _ (or_parts _ _ h).0).0).0
