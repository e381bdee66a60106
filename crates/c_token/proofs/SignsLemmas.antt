-- The signs, by their forms and by their first byte.
use Rattle.std.proofs.Common.{Bool, List, [], eqb-true, false, refl, subst, subst₂, sym, true, ℕ, ⊎_elim, ◌∷◌, ◌≡◌}
use Rattle.std.proofs.lemmas.Bool.{and_parts, both_ways, not-true, or_cases, or_parts}
use Rattle.std.specs.List.{list_all, list_any}
use Rattle.std.specs.Prelude.{codes, nat_eq, not, ◌&&◌, ◌||◌}
use Rattle.c_token.specs.Bytes.{first, is_separator, is_word}
use Rattle.c_token.specs.private.SignForms.{doubles, has_form, is_one_of, stands_alone, takes_equals}
use Rattle.c_token.specs.Signs.{is_sign, signs}
use Rattle.c_token.proofs.TokenLists.{false_true}
use Rattle.c_token.proofs.ReservedWordsLemmas.{any_all}

among : (p : ℕ → Bool) (ws : List ℕ) (a : ℕ) → list_all p ws ≡ true → is_one_of ws a ≡ true
    → p a ≡ true
among p [] a all any = false_true any
among p (w ∷ ws) a all any =
    let parts = and_parts (p w) (list_all p ws) all in
    ⊎_elim (λ e. subst (λ x. p x ≡ true) (eqb-true w a e) parts.0) (λ e. among p ws a parts.1 e) (or_cases (nat_eq w a) (list_any (λ x. nat_eq x a) ws) any)

form_listed_one : (a : ℕ) → (takes_equals a || stands_alone a) ≡ true → is_sign (a ∷ []) ≡ true
form_listed_one a h =
    ⊎_elim (λ e. among (λ x. is_sign (x ∷ [])) (codes "+-*/%&|^=!<>") a refl e) (λ e. among (λ x. is_sign (x ∷ [])) (codes "~?:;,()[]{}") a refl e)
    (or_cases (takes_equals a) (stands_alone a) h)

form_listed_two : (a b : ℕ) → ((nat_eq b 61 && takes_equals a) || (nat_eq a b && doubles a)) ≡ true
    → is_sign (a ∷ b ∷ []) ≡ true
form_listed_two a b h =
    ⊎_elim
    (λ e. let p = and_parts (nat_eq b 61) (takes_equals a) e in
    subst (λ x. is_sign (a ∷ x ∷ []) ≡ true) (sym (eqb-true b 61 p.0)) (among (λ x. is_sign (x ∷ 61 ∷ [])) (codes "+-*/%&|^=!<>") a refl p.1))
    (λ e. let p = and_parts (nat_eq a b) (doubles a) e in
    subst (λ x. is_sign (a ∷ x ∷ []) ≡ true) (eqb-true a b p.0) (among (λ x. is_sign (x ∷ x ∷ [])) (codes "+-<>&|") a refl p.1))
    (or_cases (nat_eq b 61 && takes_equals a) (nat_eq a b && doubles a) h)

form_listed_three : (a b c : ℕ)
    → (nat_eq c 61 && (nat_eq a b && (nat_eq a 60 || nat_eq a 62))) ≡ true
    → is_sign (a ∷ b ∷ c ∷ []) ≡ true
form_listed_three a b c h =
    let p = and_parts (nat_eq c 61) (nat_eq a b && (nat_eq a 60 || nat_eq a 62)) h in
    let q = and_parts (nat_eq a b) (nat_eq a 60 || nat_eq a 62) p.1 in
    let shift : is_sign (a ∷ a ∷ 61 ∷ []) ≡ true = ⊎_elim
    (λ e. subst (λ x. is_sign (x ∷ x ∷ 61 ∷ []) ≡ true) (sym (eqb-true a 60 e)) refl)
    (λ e. subst (λ x. is_sign (x ∷ x ∷ 61 ∷ []) ≡ true) (sym (eqb-true a 62 e)) refl)
    (or_cases (nat_eq a 60) (nat_eq a 62) q.1) in
    subst₂ (λ x y. is_sign (a ∷ x ∷ y ∷ []) ≡ true) (eqb-true a b q.0) (sym (eqb-true c 61 p.0)) shift

-- what has a sign's form is a sign, and the other way round
pub form_listed : (bytes : List ℕ) → has_form bytes ≡ true → is_sign bytes ≡ true
form_listed [] h = false_true h
form_listed (a ∷ []) h = form_listed_one a h
form_listed (a ∷ b ∷ []) h = form_listed_two a b h
form_listed (a ∷ b ∷ c ∷ []) h = form_listed_three a b c h
form_listed (a ∷ b ∷ c ∷ d ∷ xs) h = false_true h

pub listed_form : (bytes : List ℕ) → is_sign bytes ≡ true → has_form bytes ≡ true
listed_form bytes h = any_all has_form signs bytes refl h

-- neither a letter, a digit or `_` nor a quote nor `#` nor a separator
abbrev pub is_mark : ℕ → Bool
is_mark b = not (is_word b || (nat_eq b 39 || (nat_eq b 35 || is_separator b)))

pub sign_mark : (bytes : List ℕ) → is_sign bytes ≡ true → is_mark (first bytes) ≡ true
sign_mark bytes h = any_all (λ sign. is_mark (first sign)) signs bytes refl h

mark_parts : (b : ℕ) → is_mark b ≡ true
    → (is_word b ≡ false) × (nat_eq b 39 ≡ false) × (nat_eq b 35 ≡ false) × (is_separator b ≡ false)
mark_parts b h =
    let p = or_parts (is_word b) (nat_eq b 39 || (nat_eq b 35 || is_separator b)) (not-true (is_word b || (nat_eq b 39 || (nat_eq b 35 || is_separator b))) h) in
    let q = or_parts (nat_eq b 39) (nat_eq b 35 || is_separator b) p.1 in
    let r = or_parts (nat_eq b 35) (is_separator b) q.1 in
    (p.0, q.0, r.0, r.1)

pub mark_is : (b : ℕ) → is_mark b ≡ true → (is_word b ≡ false) × (nat_eq b 39 ≡ false)
mark_is b h = let p = mark_parts b h in (p.0, p.1)

pub mark_no_hash : (b : ℕ) → is_mark b ≡ true → nat_eq b 35 ≡ false
mark_no_hash b h = (mark_parts b h).2

pub mark_apart : (b : ℕ) → is_mark b ≡ true → is_separator b ≡ true → ⊥
mark_apart b m h = both_ways _ (mark_parts b m).3 h
