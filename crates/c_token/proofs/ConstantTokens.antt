-- The integer constant of a word.
use Rattle.std.proofs.Common.{Bool, List, None, Option, Some, [], ap, append-nil, ap₂, arith, cond, drop, false, get_or, get_or-drop, length, length-append, length-drop, lt-ltb, ltb-true, refl, subst, subst₂, sym, take, take_all, take_at, true, ℕ, ⊎_elim, ◌++◌, ◌+◌, ◌-◌, ◌<◌, ◌∙◌, ◌∷◌, ◌≡◌, ◌≤◌}
use Rattle.std.proofs.lemmas.Bool.{and_from, and_parts, both_ways, cases_Bool, cond-false, cond-true, cond_both, true_from_ne_false}
use Rattle.std.proofs.lemmas.List.{get_or_at, take_more}
use Rattle.std.proofs.lemmas.List.Folds.{list_all_at}
use Rattle.std.specs.List.{list_all}
use Rattle.std.specs.Prelude.{Err, Ok, Result, nat_eq, nat_lt}
use Rattle.c_token.specs.Bytes.{first, is_digit, value_from}
use Rattle.c_token.specs.Integers.{Constant, IsConstant, IsSuffix, base_of, digits_of, is_hexadecimal, is_suffix, number_of}
use Rattle.c_token.specs.private.Numbers.{IsNumber, IsTyped, are_digits, body_of, is_suffixed}
use Rattle.c_token.specs.declared.number.Number.{Number}
use Rattle.c_token.specs.declared.number.NumberFault.{NumberFault}
use Rattle.c_token.proofs.Digits.{digit_no_suffix}
use Rattle.c_token.specs.declared.number.NumberFault.TheVariants.{Malformed, Large}

same_constant : (c d : Constant) → c.base ≡ d.base → c.suffixed ≡ d.suffixed → c.value ≡ d.value
    → c ≡ d
same_constant c d b s v i = record { base = b i; suffixed = s i; value = v i }

-- the last byte
abbrev pub last : List ℕ → ℕ
last xs = get_or xs (length xs - 1) 0

length_more : (xs : List ℕ) (b : ℕ) → length (xs ++ b ∷ []) - 1 ≡ length xs
length_more xs b = omega (arith, length-append xs (b ∷ []))

pub last-append : (xs : List ℕ) (b : ℕ) → last (xs ++ b ∷ []) ≡ b
last-append xs b = ap (λ n. get_or (xs ++ b ∷ []) n 0) (length_more xs b) ∙ get_or_at xs b [] 0 (length xs) refl

pub front-append : (xs : List ℕ) (b : ℕ) → take (length (xs ++ b ∷ []) - 1) (xs ++ b ∷ []) ≡ xs
front-append xs b = ap (λ n. take n (xs ++ b ∷ [])) (length_more xs b) ∙ take_at xs (b ∷ []) (length xs) refl

pub last_passes : (p : ℕ → Bool) (xs : List ℕ) → 0 < length xs → list_all p xs ≡ true
    → p (last xs) ≡ true
last_passes p xs some all = true_from_ne_false _ (λ f. both_ways _ (list_all_at p xs (length xs - 1) 0 (omega arith) f) all)

pub base_of-le : (body : List ℕ) → (1 ≤ base_of body) × (base_of body ≤ 16)
base_of-le body = elim (is_hexadecimal body) as (λ t. (1 ≤ cond t 16 (cond (nat_eq (first body) 48) 8 10)) × (cond t 16 (cond (nat_eq (first body) 48) 8 10) ≤ 16)) [
  | true ↦ (omega arith, omega arith)
  | false ↦ elim (nat_eq (first body) 48) as (λ t. (1 ≤ cond t 8 10) × (cond t 8 10 ≤ 16)) [ true ↦ (omega arith, omega arith) | false ↦ (omega arith, omega arith) ]
]

pub ruleset bases = (base_of-le)

last-drop : (body : List ℕ) → 0 < length (drop 2 body) → last (drop 2 body) ≡ last body
last-drop body some =
    let e : 2 + (length (drop 2 body) - 1) ≡ length body - 1 = omega (arith, length-drop 2 body) in
    get_or-drop 2 body (length (drop 2 body) - 1) 0 ∙ ap (λ i. get_or body i 0) e

pub last-digits : (body : List ℕ) → 0 < length (digits_of body) → last (digits_of body) ≡ last body
last-digits body some =
    let P : List ℕ → Type 0 = λ ds. 0 < length ds → last ds ≡ last body in
    cond_both (is_hexadecimal body) (drop 2 body) body P (λ _. last-drop body) (λ _ _. refl) some

-- a word, taken apart
parted : (word body suffix : List ℕ) (suffixed : Bool) → word ≡ body ++ suffix
    → IsSuffix suffix suffixed → is_suffix (last body) ≡ false
    → (body_of word ≡ body) × (is_suffixed word ≡ suffixed)
parted word body [] suffixed parts is plain =
    let e : word ≡ body = parts ∙ append-nil body in
    let f : is_suffixed word ≡ false = ap is_suffixed e ∙ plain in
    (cond-false _ _ _ f ∙ e, f ∙ sym is)
parted word body (b ∷ []) suffixed parts is plain =
    let f : is_suffixed word ≡ true = ap is_suffixed parts ∙ ap is_suffix (last-append body b) ∙ is.0 in
    (cond-true _ _ _ f ∙ ap (λ w. take (length w - 1) w) parts ∙ front-append body b, f ∙ sym is.1)
parted word body (b ∷ d ∷ xs) suffixed parts is plain = absurd is

-- the body of a constant is its word without its suffix
pub body_is : (word : List ℕ) (c : Constant) → (k : IsConstant word c)
    → (body_of word ≡ k.body) × (is_suffixed word ≡ c.suffixed)
body_is word c k =
    parted word k.body k.suffix c.suffixed k.parts k.suffixed
    (digit_no_suffix c.base (last k.body) (omega (arith, k.base, (base_of-le k.body).1))
    (subst (λ b. is_digit c.base b ≡ true) (last-digits k.body k.some_digit) (last_passes (is_digit c.base) (digits_of k.body) k.some_digit k.all_digits)))

abbrev pub constant_at : List ℕ → Constant
constant_at word = record { base = base_of (body_of word); suffixed = is_suffixed word; value = value_from (base_of (body_of word)) 0 (digits_of (body_of word)) }

abbrev pub has_constant : List ℕ → Bool
has_constant word = are_digits (base_of (body_of word)) (digits_of (body_of word))

-- a word's suffix
suffix_found : (word : List ℕ)
    → (suffix : List ℕ) × (word ≡ body_of word ++ suffix) × IsSuffix suffix (is_suffixed word)
suffix_found [] = ([], refl, refl)
suffix_found (x ∷ xs) =
    let word : List ℕ = x ∷ xs in
    ⊎_elim
    (λ (e : is_suffixed word ≡ true).
    let b : body_of word ≡ take (length word - 1) word = cond-true _ _ _ e in
    let n : length word ≡ (length word - 1) + 1 = omega arith in
    (last word ∷ [], sym (take_all (length word) word (omega arith)) ∙ ap (λ n. take n word) n ∙ take_more word (length word - 1) 0 (omega arith) ∙ ap (λ l. l ++ last word ∷ []) (sym b), (e, e)))
    (λ (e : is_suffixed word ≡ false).
    let b : body_of word ≡ word = cond-false _ _ _ e in
    ([], sym (append-nil (body_of word) ∙ b), e))
    (cases_Bool (is_suffixed word))

pub constant_found : (word : List ℕ) → has_constant word ≡ true → IsConstant word (constant_at word)
constant_found word has =
    let parts = and_parts (nat_lt 0 (length (digits_of (body_of word)))) (list_all (is_digit (base_of (body_of word))) (digits_of (body_of word))) has in
    let s = suffix_found word in
    record { body = body_of word; suffix = s.0; parts = s.1; suffixed = s.2; base = refl; some_digit = ltb-true _ _ parts.0; all_digits = parts.1; value = refl }

pub constant_is : (word : List ℕ) (c : Constant) → IsConstant word c
    → (has_constant word ≡ true) × (c ≡ constant_at word)
constant_is word c k =
    let e = body_is word c k in
    let b : c.base ≡ base_of (body_of word) = k.base ∙ ap base_of (sym e.0) in
    let v : c.value ≡ value_from (base_of (body_of word)) 0 (digits_of (body_of word)) = k.value ∙ ap₂ (λ u ds. value_from u 0 (digits_of ds)) b (sym e.0) in (
      and_from _ _ (subst (λ ds. nat_lt 0 (length (digits_of ds)) ≡ true) (sym e.0) (lt-ltb _ _ k.some_digit)) (subst₂ (λ u ds. list_all (is_digit u) (digits_of ds) ≡ true) b (sym e.0) k.all_digits),
      same_constant c (constant_at word) b (sym e.1) v,
    )

-- what a word is read as is the number
pub number_at : (word : List ℕ) (r : Result Number NumberFault) → has_constant word ≡ true
    → IsTyped (constant_at word) r → IsNumber word r
number_at word (Ok n) has is = (constant_at word, constant_found word has, is)
number_at word (Err Large) has is = (constant_at word, constant_found word has, is.0)
number_at word (Err Malformed) has is = cc is.1

pub number_none : (word : List ℕ) → has_constant word ≡ false → IsNumber word (Err Malformed)
number_none word has c k = both_ways _ has (constant_is word c k).0

module _ (word : List ℕ) {body digits : List ℕ} {base : ℕ} (body_is : body ≡ body_of word) (base_is : base ≡ base_of body) (digits_are : digits ≡ digits_of body) where
  base_at : base ≡ base_of (body_of word)
  base_at = base_is ∙ ap base_of body_is

  digits_at : digits ≡ digits_of (body_of word)
  digits_at = digits_are ∙ ap digits_of body_is

  pub same_test : are_digits base digits ≡ has_constant word
  same_test = ap₂ are_digits base_at digits_at

  pub typed_at : (suffixed : Bool) (r : Result Number NumberFault) → suffixed ≡ is_suffixed word
      → IsTyped (record { base = base; suffixed = suffixed; value = value_from base 0 digits }) r
      → IsTyped (constant_at word) r
  typed_at suffixed r s is = subst (λ k. IsTyped k r) (same_constant _ _ base_at s (ap₂ (λ u ds. value_from u 0 ds) base_at digits_at)) is

pub some_none : (n : Number) (o : Option Number) → o ≡ Some n → o ≡ None → ⊥
some_none n o a b = cc

pub same_value : (m n : Number) → ◌≡◌ {A = Option Number} (Some m) (Some n) → m ≡ n
same_value m n e = cc

pub same_number : (bytes : List ℕ) (c d : Constant) → IsConstant bytes c → IsConstant bytes d
    → number_of c ≡ number_of d
same_number bytes c d a b = ap number_of ((constant_is bytes c a).1 ∙ sym (constant_is bytes d b).1)
