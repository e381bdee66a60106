-- The value by the number of bytes is that of the forms of a character constant.
use Rattle.std.proofs.Common.{Bool, List, None, Option, Some, [], ap, arith, eqb-true, false, lt-ltb, ltb-true, refl, subst, sym, true, ℕ, ⊎_elim, ◌*◌, ◌+◌, ◌<◌, ◌∙◌, ◌∷◌, ◌≡◌, ◌≤◌}
use Rattle.std.proofs.lemmas.Bool.{and_from, and_parts, both_ways, cases_Bool, cond-false, cond-true, false_from_ne_true, leb-true, ne_eqb, not-false, or_from}
use Rattle.std.specs.Option.{is_some}
use Rattle.std.specs.Prelude.{if◌then◌else◌, nat_eq, nat_le, nat_lt, not, ◌&&◌, ◌||◌}
use Rattle.c_token.specs.Bytes.{digit, is_digit}
use Rattle.c_token.specs.Characters.{AreDigits, IsQuoted, is_plain, simple_escape}
use Rattle.c_token.specs.private.Quotes.{escape, one_digit, quoted, three_digits, two_digits}
use Rattle.c_token.proofs.Digits.{digit_decimal}
use Rattle.c_token.proofs.QuotesLemmas.{no_none, some_else, some_is_none, some_then}
use Rattle.c_token.specs.Characters.IsQuoted.{plain, simple, octal, hexadecimal}

pub same_byte : (v w : ℕ) → ◌≡◌ {A = Option ℕ} (Some v) (Some w) → v ≡ w
same_byte v w e = cc

-- no octal digit is a letter or a mark of an escape
simple_no_digit : (b : ℕ) → is_digit 8 b ≡ true → simple_escape b ≡ None
simple_no_digit b h =
    let range = and_parts (nat_le 48 b) (nat_le b 57) (digit_decimal 8 b (omega arith) h) in
    let low : 48 ≤ b = leb-true 48 b range.0 in
    let high : b ≤ 57 = leb-true b 57 range.1 in
    cond-false _ _ _ (ne_eqb b 110 (λ e. omega (arith, e, high)))
    ∙ cond-false _ _ _ (ne_eqb b 116 (λ e. omega (arith, e, high)))
    ∙ cond-false _ _ _ (ne_eqb b 114 (λ e. omega (arith, e, high)))
    ∙ cond-false _ _ _ (ne_eqb b 97 (λ e. omega (arith, e, high)))
    ∙ cond-false _ _ _ (ne_eqb b 98 (λ e. omega (arith, e, high)))
    ∙ cond-false _ _ _ (ne_eqb b 102 (λ e. omega (arith, e, high)))
    ∙ cond-false _ _ _ (ne_eqb b 118 (λ e. omega (arith, e, high)))
    ∙ cond-false _ _ _ (or_from (nat_eq b 92) (nat_eq b 39 || (nat_eq b 34 || nat_eq b 63)) (ne_eqb b 92 (λ e. omega (arith, e, high)))
    (or_from (nat_eq b 39) (nat_eq b 34 || nat_eq b 63) (ne_eqb b 39 (λ e. omega (arith, e, low)))
    (or_from (nat_eq b 34) (nat_eq b 63) (ne_eqb b 34 (λ e. omega (arith, e, low))) (ne_eqb b 63 (λ e. omega (arith, e, high))))))

some_chosen : (o x : Option ℕ) (v : ℕ) → o ≡ Some v → (if is_some o then o else x) ≡ Some v
some_chosen None x v e = absurd (some_is_none v (sym e))
some_chosen (Some u) x v e = e

none_chosen : (o x : Option ℕ) → o ≡ None → (if is_some o then o else x) ≡ x
none_chosen None x e = refl
none_chosen (Some u) x e = absurd (some_is_none u e)

pub some_value : (t : Bool) (x v : ℕ) → (if t then Some x else None) ≡ Some v → (t ≡ true) × (x ≡ v)
some_value true x v e = (refl, same_byte x v e)
some_value false x v e = no_none v e

no_letter : (a : ℕ) → is_digit 8 a ≡ true → nat_eq a 120 ≡ false
no_letter a h = false_from_ne_true _ (λ e. both_ways (is_digit 8 a) (ap (is_digit 8) (eqb-true a 120 e)) h)

octal_value : (digits : List ℕ) (v : ℕ) → AreDigits 8 3 digits v → v < 256
    → quoted (92 ∷ digits) ≡ Some v
octal_value [] v d lt = absurd (omega (arith, d.some))
octal_value (a ∷ []) v d lt =
    let p = and_parts (is_digit 8 a) true d.all in
    none_chosen (simple_escape a) (one_digit 8 a) (simple_no_digit a p.0) ∙ cond-true _ _ _ p.0 ∙ ap (λ n. Some n) (omega (arith, d.value_is))
octal_value (a ∷ b ∷ []) v d lt =
    let p = and_parts (is_digit 8 a) (is_digit 8 b && true) d.all in
    let q = and_parts (is_digit 8 b) true p.1 in
    cond-false _ _ _ (no_letter a p.0) ∙ cond-true _ _ _ (and_from _ _ p.0 q.0) ∙ ap (λ n. Some n) (omega (arith, d.value_is))
octal_value (a ∷ b ∷ c ∷ []) v d lt =
    let p = and_parts (is_digit 8 a) (is_digit 8 b && (is_digit 8 c && true)) d.all in
    let q = and_parts (is_digit 8 b) (is_digit 8 c && true) p.1 in
    let r = and_parts (is_digit 8 c) true q.1 in
    let e : 64 * digit a + 8 * digit b + digit c ≡ v = omega (arith, d.value_is) in
    cond-false _ _ _ (no_letter a p.0) ∙ cond-true _ _ _ (and_from _ _ p.0 (and_from _ _ q.0 r.0)) ∙ cond-true _ _ _ (lt-ltb (64 * digit a + 8 * digit b + digit c) 256 (omega (arith, e, lt))) ∙ ap (λ n. Some n) e
octal_value (a ∷ b ∷ c ∷ e ∷ xs) v d lt = absurd (omega (arith, d.few))

hexadecimal_value : (digits : List ℕ) (v : ℕ) → AreDigits 16 2 digits v
    → quoted (92 ∷ 120 ∷ digits) ≡ Some v
hexadecimal_value [] v d = absurd (omega (arith, d.some))
hexadecimal_value (a ∷ []) v d =
    let p = and_parts (is_digit 16 a) true d.all in
    cond-true _ _ _ p.0 ∙ ap (λ n. Some n) (omega (arith, d.value_is))
hexadecimal_value (a ∷ b ∷ []) v d =
    let p = and_parts (is_digit 16 a) (is_digit 16 b && true) d.all in
    let q = and_parts (is_digit 16 b) true p.1 in
    cond-true _ _ _ (and_from _ _ p.0 q.0) ∙ ap (λ n. Some n) (omega (arith, d.value_is))
hexadecimal_value (a ∷ b ∷ c ∷ xs) v d = absurd (omega (arith, d.few))

pub quoted_of : (inside : List ℕ) (v : ℕ) → IsQuoted inside v → quoted inside ≡ Some v
quoted_of inside v (plain parts p) = ap quoted parts ∙ cond-true _ _ _ p
quoted_of inside v (simple b parts e) = ap quoted parts ∙ some_chosen (simple_escape b) (one_digit 8 b) v e
quoted_of inside v (octal digits parts d lt) = ap quoted parts ∙ octal_value digits v d lt
quoted_of inside v (hexadecimal digits parts d) = ap quoted parts ∙ hexadecimal_value digits v d

escape_cases : (b v : ℕ) (o : Option ℕ) → simple_escape b ≡ o
    → (if is_some o then o else one_digit 8 b) ≡ Some v → IsQuoted (92 ∷ b ∷ []) v
escape_cases b v (Some u) e h = simple b refl (e ∙ h)
escape_cases b v None e h =
    let p = some_value (is_digit 8 b) (digit b) v h in
    octal (b ∷ []) refl (record { some = omega arith; few = omega arith; all = and_from _ true p.0 refl; value_is = omega (arith, p.1) }) (omega (arith, p.1, ltb-true (digit b) 8 p.0))

two_octal : (b c v : ℕ) → two_digits 8 b c ≡ Some v → IsQuoted (92 ∷ b ∷ c ∷ []) v
two_octal b c v h =
    let p = some_value (is_digit 8 b && is_digit 8 c) (8 * digit b + digit c) v h in
    let q = and_parts (is_digit 8 b) (is_digit 8 c) p.0 in
    octal (b ∷ c ∷ []) refl (record { some = omega arith; few = omega arith; all = and_from _ _ q.0 (and_from _ true q.1 refl); value_is = omega (arith, p.1) })
    (omega (arith, p.1, ltb-true (digit b) 8 q.0, ltb-true (digit c) 8 q.1))

three_octal : (b c d v : ℕ) → three_digits b c d ≡ Some v → IsQuoted (92 ∷ b ∷ c ∷ d ∷ []) v
three_octal b c d v h =
    let t = some_then (is_digit 8 b && (is_digit 8 c && is_digit 8 d)) _ v h in
    let p = some_value (nat_lt (64 * digit b + 8 * digit c + digit d) 256) (64 * digit b + 8 * digit c + digit d) v (sym (cond-true _ _ _ t) ∙ h) in
    let q = and_parts (is_digit 8 b) (is_digit 8 c && is_digit 8 d) t in
    let r = and_parts (is_digit 8 c) (is_digit 8 d) q.1 in
    octal (b ∷ c ∷ d ∷ []) refl (record { some = omega arith; few = omega arith; all = and_from _ _ q.0 (and_from _ _ r.0 (and_from _ true r.1 refl)); value_is = omega (arith, p.1) })
    (omega (arith, p.1, ltb-true (64 * digit b + 8 * digit c + digit d) 256 p.0))

one_hexadecimal : (c v : ℕ) → one_digit 16 c ≡ Some v → IsQuoted (92 ∷ 120 ∷ c ∷ []) v
one_hexadecimal c v h =
    let p = some_value (is_digit 16 c) (digit c) v h in
    hexadecimal (c ∷ []) refl (record { some = omega arith; few = omega arith; all = and_from _ true p.0 refl; value_is = omega (arith, p.1) })

two_hexadecimal : (c d v : ℕ) → two_digits 16 c d ≡ Some v → IsQuoted (92 ∷ 120 ∷ c ∷ d ∷ []) v
two_hexadecimal c d v h =
    let p = some_value (is_digit 16 c && is_digit 16 d) (16 * digit c + digit d) v h in
    let q = and_parts (is_digit 16 c) (is_digit 16 d) p.0 in
    hexadecimal (c ∷ d ∷ []) refl (record { some = omega arith; few = omega arith; all = and_from _ _ q.0 (and_from _ true q.1 refl); value_is = omega (arith, p.1) })

three_forms : (b c v : ℕ) → (if nat_eq b 120 then one_digit 16 c else two_digits 8 b c) ≡ Some v
    → IsQuoted (92 ∷ b ∷ c ∷ []) v
three_forms b c v h =
    ⊎_elim
    (λ (e : nat_eq b 120 ≡ true). subst (λ x. IsQuoted (92 ∷ x ∷ c ∷ []) v) (sym (eqb-true b 120 e)) (one_hexadecimal c v (sym (cond-true _ _ _ e) ∙ h)))
    (λ (e : nat_eq b 120 ≡ false). two_octal b c v (sym (cond-false _ _ _ e) ∙ h))
    (cases_Bool (nat_eq b 120))

four_forms : (b c d v : ℕ)
    → (if nat_eq b 120 then two_digits 16 c d else three_digits b c d) ≡ Some v
    → IsQuoted (92 ∷ b ∷ c ∷ d ∷ []) v
four_forms b c d v h =
    ⊎_elim
    (λ (e : nat_eq b 120 ≡ true). subst (λ x. IsQuoted (92 ∷ x ∷ c ∷ d ∷ []) v) (sym (eqb-true b 120 e)) (two_hexadecimal c d v (sym (cond-true _ _ _ e) ∙ h)))
    (λ (e : nat_eq b 120 ≡ false). three_octal b c d v (sym (cond-false _ _ _ e) ∙ h))
    (cases_Bool (nat_eq b 120))

behind_backslash : (a v : ℕ) (xs : List ℕ) → nat_eq a 92 ≡ true → IsQuoted (92 ∷ xs) v
    → IsQuoted (a ∷ xs) v
behind_backslash a v xs t is = subst (λ x. IsQuoted (x ∷ xs) v) (sym (eqb-true a 92 t)) is

pub is_quoted : (inside : List ℕ) (v : ℕ) → quoted inside ≡ Some v → IsQuoted inside v
is_quoted [] v h = no_none v h
is_quoted (a ∷ []) v h = let p = some_value (is_plain a) a v h in plain (ap (λ x. x ∷ []) p.1) (subst (λ x. is_plain x ≡ true) p.1 p.0)
is_quoted (a ∷ b ∷ []) v h =
    let t = some_then (nat_eq a 92) (escape b) v h in
    behind_backslash a v (b ∷ []) t (escape_cases b v (simple_escape b) refl (sym (cond-true _ _ _ t) ∙ h))
is_quoted (a ∷ b ∷ c ∷ []) v h =
    let t = some_else (not (nat_eq a 92)) _ v h in
    behind_backslash a v (b ∷ c ∷ []) (not-false _ t) (three_forms b c v (sym (cond-false _ _ _ t) ∙ h))
is_quoted (a ∷ b ∷ c ∷ d ∷ []) v h =
    let t = some_else (not (nat_eq a 92)) _ v h in
    behind_backslash a v (b ∷ c ∷ d ∷ []) (not-false _ t) (four_forms b c d v (sym (cond-false _ _ _ t) ∙ h))
is_quoted (a ∷ b ∷ c ∷ d ∷ e ∷ xs) v h = no_none v h
