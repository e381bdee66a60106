-- The value of each constant is proper.
use Rattle.std.proofs.Common.{Bool, List, Option, Some, [], arith, eqb-true, false, inl, inr, ltb-true, refl, subst, sym, true, ℕ, ⊎_elim, ◌^◌, ◌∙◌, ◌∷◌, ◌≡◌, ◌≤◌}
use Rattle.std.proofs.lemmas.Bool.{and_parts, cases_Bool, cond-false, cond-true, leb-false, leb-true, or_cases, or_parts}
use Rattle.std.specs.Int.{is_in_range}
use Rattle.std.specs.Prelude.{if◌then◌else◌, nat_eq, nat_le, nat_lt, not, ◌&&◌, ◌||◌}
use Rattle.c_token.specs.Bytes.{digit, is_digit}
use Rattle.c_token.specs.Characters.{AreDigits, IsQuoted, simple_escape}
use Rattle.c_token.specs.Integers.{Constant, number_kind, number_of}
use Rattle.c_token.specs.Tokens.{IsProperKind}
use Rattle.c_token.specs.declared.number.Number.{Number}
use Rattle.c_token.proofs.ConstantTokens.{same_value, some_none}
use Rattle.c_token.proofs.Escapes.{same_byte, some_value}
use Rattle.c_token.specs.Characters.IsQuoted.{plain, simple, octal, hexadecimal}

pub proper_number : (c : Constant) (n : Number) → number_of c ≡ Some n
    → IsProperKind (number_kind n)
proper_number c n h =
    let P : Number → Type 0 = λ m. IsProperKind (number_kind m) in
    let small : Bool = not c.suffixed && nat_lt c.value (2 ^ 31) in
    let large : Bool = nat_le (2 ^ 32) c.value || (not c.suffixed && nat_eq c.base 10) in
    ⊎_elim
    (λ (e : small ≡ true). subst P (same_value _ n (sym (cond-true _ _ _ e) ∙ h)) (inl (refl, ltb-true c.value (2 ^ 31) (and_parts (not c.suffixed) (nat_lt c.value (2 ^ 31)) e).1)))
    (λ (e : small ≡ false). ⊎_elim
    (λ (f : large ≡ true). absurd (some_none n (number_of c) h (cond-false _ _ _ e ∙ cond-true _ _ _ f)))
    (λ (f : large ≡ false). subst P (same_value _ n (sym (cond-false _ _ _ e ∙ cond-false _ _ _ f) ∙ h)) (inr (refl, leb-false (2 ^ 32) c.value (or_parts (nat_le (2 ^ 32) c.value) _ f).0)))
    (cases_Bool large))
    (cases_Bool small)

small_choice : (t : Bool) (u v : ℕ) (o : Option ℕ) → u ≤ 255 → (o ≡ Some v → v ≤ 255)
    → (if t then Some u else o) ≡ Some v → v ≤ 255
small_choice true u v o le more h = omega (arith, le, same_byte u v h)
small_choice false u v o le more h = more h

mark_small : (b : ℕ) → (nat_eq b 92 || (nat_eq b 39 || (nat_eq b 34 || nat_eq b 63))) ≡ true
    → b ≤ 255
mark_small b h =
    ⊎_elim (λ e. omega (arith, eqb-true b 92 e)) (λ r. ⊎_elim (λ e. omega (arith, eqb-true b 39 e)) (λ s. ⊎_elim (λ e. omega (arith, eqb-true b 34 e)) (λ e. omega (arith, eqb-true b 63 e)) (or_cases (nat_eq b 34) (nat_eq b 63) s)) (or_cases (nat_eq b 39) _ r)) (or_cases (nat_eq b 92) _ h)

simple_small : (b v : ℕ) → simple_escape b ≡ Some v → v ≤ 255
simple_small b v h =
    small_choice (nat_eq b 110) 10 v _ (omega arith) (λ h2. small_choice (nat_eq b 116) 9 v _ (omega arith) (λ h3. small_choice (nat_eq b 114) 13 v _ (omega arith) (λ h4. small_choice (nat_eq b 97) 7 v _ (omega arith) (λ h5. small_choice (nat_eq b 98) 8 v _ (omega arith) (λ h6. small_choice (nat_eq b 102) 12 v _ (omega arith) (λ h7. small_choice (nat_eq b 118) 11 v _ (omega arith) (λ h8.
    let p = some_value (nat_eq b 92 || (nat_eq b 39 || (nat_eq b 34 || nat_eq b 63))) b v h8 in omega (arith, mark_small b p.0, p.1)) h7) h6) h5) h4) h3) h2) h

hexadecimal_small : (digits : List ℕ) (v : ℕ) → AreDigits 16 2 digits v → v ≤ 255
hexadecimal_small [] v d = absurd (omega (arith, d.some))
hexadecimal_small (a ∷ []) v d = omega (arith, d.value_is, ltb-true (digit a) 16 (and_parts (is_digit 16 a) true d.all).0)
hexadecimal_small (a ∷ b ∷ []) v d =
    let p = and_parts (is_digit 16 a) (is_digit 16 b && true) d.all in
    omega (arith, d.value_is, ltb-true (digit a) 16 p.0, ltb-true (digit b) 16 (and_parts (is_digit 16 b) true p.1).0)
hexadecimal_small (a ∷ b ∷ c ∷ xs) v d = absurd (omega (arith, d.few))

pub quoted_small : (inside : List ℕ) (v : ℕ) → IsQuoted inside v → v ≤ 255
quoted_small inside v (plain parts p) = let q = (and_parts (is_in_range 32 126 v) _ p).0 in omega (arith, leb-true v 126 (and_parts (nat_le 32 v) (nat_le v 126) q).1)
quoted_small inside v (simple b parts e) = simple_small b v e
quoted_small inside v (octal digits parts d lt) = omega (arith, lt)
quoted_small inside v (hexadecimal digits parts d) = hexadecimal_small digits v d
