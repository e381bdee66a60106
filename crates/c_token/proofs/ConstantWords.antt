-- An integer constant is a word that begins with a digit.
use Rattle.std.proofs.Common.{Bool, List, [], ap, arith, cond, eqb-true, false, length, length-append, refl, subst, sym, true, ℕ, ⊎_elim, ◌<◌, ◌∙◌, ◌∷◌, ◌≡◌, ◌≤◌}
use Rattle.std.proofs.lemmas.Bool.{and_from, and_parts, cases_Bool, cond-false, cond-true, cond_both, or_cases}
use Rattle.std.proofs.lemmas.List.Folds.{list_all-append}
use Rattle.std.specs.Char.{is_ascii_digit}
use Rattle.std.specs.List.{list_all}
use Rattle.std.specs.Prelude.{nat_eq, ◌||◌}
use Rattle.c_token.specs.Bytes.{first, is_digit, is_word}
use Rattle.c_token.specs.Integers.{Constant, IsConstant, IsSuffix, base_of, digits_of, is_hexadecimal}
use Rattle.c_token.proofs.ConstantTokens.{base_of-le}
use Rattle.c_token.proofs.Digits.{digit_decimal, digits_words}
use Rattle.c_token.proofs.TokenLists.{first_front}

pub plain_base : (base : ℕ) (body : List ℕ) → base ≡ base_of body → is_hexadecimal body ≡ false
    → base ≤ 10
plain_base base body is plain =
    let e : base_of body ≡ cond (nat_eq (first body) 48) 8 10 = cond-false _ _ _ plain in
    let P : ℕ → Type 0 = λ n. n ≤ 10 in
    omega (arith, is, e, cond_both (nat_eq (first body) 48) 8 10 P (λ _. omega arith) (λ _. omega arith))

pub word_at : (a n : ℕ) → nat_eq a n ≡ true → is_word n ≡ true → is_word a ≡ true
word_at a n e h = subst (λ x. is_word x ≡ true) (sym (eqb-true a n e)) h

body_words : (base : ℕ) (body : List ℕ) → base ≤ 16
    → list_all (is_digit base) (digits_of body) ≡ true → list_all is_word body ≡ true
body_words base [] le h = refl
body_words base (a ∷ []) le h = digits_words base (a ∷ []) le h
body_words base (a ∷ b ∷ xs) le h =
    ⊎_elim
    (λ (e : is_hexadecimal (a ∷ b ∷ xs) ≡ true).
    let p = and_parts (nat_eq a 48) (nat_eq b 120 || nat_eq b 88) e in
    let all : list_all (is_digit base) xs ≡ true = ap (list_all (is_digit base)) (sym (cond-true _ _ _ e)) ∙ h in
    and_from (is_word a) _ (word_at a 48 p.0 refl)
    (and_from (is_word b) _ (⊎_elim (λ f. word_at b 120 f refl) (λ f. word_at b 88 f refl) (or_cases (nat_eq b 120) (nat_eq b 88) p.1)) (digits_words base xs le all)))
    (λ (e : is_hexadecimal (a ∷ b ∷ xs) ≡ false). digits_words base (a ∷ b ∷ xs) le (ap (list_all (is_digit base)) (sym (cond-false _ _ _ e)) ∙ h))
    (cases_Bool (is_hexadecimal (a ∷ b ∷ xs)))

suffix_words : (suffix : List ℕ) (suffixed : Bool) → IsSuffix suffix suffixed
    → list_all is_word suffix ≡ true
suffix_words [] suffixed h = refl
suffix_words (b ∷ []) suffixed h = and_from (is_word b) true (⊎_elim (λ f. word_at b 117 f refl) (λ f. word_at b 85 f refl) (or_cases (nat_eq b 117) (nat_eq b 85) h.0)) refl
suffix_words (b ∷ c ∷ xs) suffixed h = absurd h

body_digit : (base : ℕ) (body : List ℕ) → base ≡ base_of body → 0 < length (digits_of body)
    → list_all (is_digit base) (digits_of body) ≡ true
    → (0 < length body) × (is_ascii_digit (first body) ≡ true)
body_digit base [] is some all = absurd (omega (arith, some))
body_digit base (a ∷ []) is some all = (omega arith, digit_decimal base a (plain_base base (a ∷ []) is refl) (and_parts (is_digit base a) true all).0)
body_digit base (a ∷ b ∷ xs) is some all = (
  omega arith,
  ⊎_elim
      (λ (e : is_hexadecimal (a ∷ b ∷ xs) ≡ true). subst (λ x. is_ascii_digit x ≡ true) (sym (eqb-true a 48 (and_parts (nat_eq a 48) (nat_eq b 120 || nat_eq b 88) e).0)) refl)
      (λ (e : is_hexadecimal (a ∷ b ∷ xs) ≡ false).
      let every : list_all (is_digit base) (a ∷ b ∷ xs) ≡ true = ap (list_all (is_digit base)) (sym (cond-false _ _ _ e)) ∙ all in
      digit_decimal base a (plain_base base (a ∷ b ∷ xs) is e) (and_parts (is_digit base a) _ every).0)
      (cases_Bool (is_hexadecimal (a ∷ b ∷ xs))),
)

pub constant_words : (bytes : List ℕ) (c : Constant) → IsConstant bytes c
    → list_all is_word bytes ≡ true
constant_words bytes c k =
    ap (list_all is_word) k.parts ∙ list_all-append is_word k.body k.suffix
    ∙ and_from _ _ (body_words c.base k.body (omega (arith, k.base, (base_of-le k.body).1)) k.all_digits) (suffix_words k.suffix c.suffixed k.suffixed)

pub constant_digit : (bytes : List ℕ) (c : Constant) → IsConstant bytes c
    → (0 < length bytes) × (is_ascii_digit (first bytes) ≡ true)
constant_digit bytes c k =
    let body = body_digit c.base k.body k.base k.some_digit k.all_digits in
    let e : first bytes ≡ first k.body = ap first k.parts ∙ first_front k.body k.suffix body.0 in
    (omega (arith, ap length k.parts ∙ length-append k.body k.suffix, body.0), ap is_ascii_digit e ∙ body.1)
