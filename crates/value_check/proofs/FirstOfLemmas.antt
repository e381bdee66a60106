-- The first answer, question by question.
use Rattle.std.proofs.Common.{◌≡◌, ℕ, zero, suc, ◌+◌, ◌-◌, ◌<◌, Option, Some, None, refl, sym, ap, ◌∙◌, arith}
use Rattle.value_check.specs.FirstOf.{or_else, first_of}

module _ {A : Type 0} (f : ℕ → Option A) where
  pub first_of-zero : first_of f 0 ≡ None
  unfolding first_of
  first_of-zero = refl

  pub first_of-suc : (n : ℕ) → first_of f (suc n) ≡ or_else (first_of f n) (f n)
  unfolding first_of
  first_of-suc n = refl

  -- no answer so far, and none to the next question
  pub none-next : (n : ℕ) → first_of f n ≡ None → f n ≡ None → first_of f (n + 1) ≡ None
  none-next n e g =
      let next : n + 1 ≡ suc n = omega arith in
      ap (first_of f) next ∙ first_of-suc n ∙ ap (λ a. or_else a (f n)) e ∙ g

  -- no answer so far, and one to the next question
  pub some-next : (n : ℕ) (a : A) → first_of f n ≡ None → f n ≡ Some a → first_of f (suc n) ≡ Some a
  some-next n a e g = first_of-suc n ∙ ap (λ b. or_else b (f n)) e ∙ g

  -- an answer stays
  some-stays : (n more : ℕ) (a : A) → first_of f n ≡ Some a → first_of f (more + n) ≡ Some a
  some-stays n zero a e =
      let none : 0 + n ≡ n = omega arith in
      ap (first_of f) none ∙ e
  some-stays n (suc more) a e =
      let next : suc more + n ≡ suc (more + n) = omega arith in
      ap (first_of f) next ∙ first_of-suc (more + n)
      ∙ ap (λ b. or_else b (f (more + n))) (some-stays n more a e)

  -- the first answer is the first of them all
  pub some-first : (n below : ℕ) (a : A) → n < below → first_of f n ≡ None → f n ≡ Some a
      → first_of f below ≡ Some a
  some-first n below a h e g =
      let split : below - suc n + suc n ≡ below = omega (arith, h) in
      ap (first_of f) (sym split) ∙ some-stays (suc n) (below - suc n) a (some-next n a e g)

  -- without an answer to any question there is none
  pub none-of : (n : ℕ) → ((i : ℕ) → i < n → f i ≡ None) → first_of f n ≡ None
  none-of zero each = first_of-zero
  none-of (suc n) each =
      first_of-suc n ∙ ap (λ a. or_else a (f n)) (none-of n (λ i h. each i (omega (arith, h))))
      ∙ each n (omega arith)

-- the same answers have the same first
pub first_of-same : {A : Type 0} (f g : ℕ → Option A) (n : ℕ) → ((i : ℕ) → i < n → f i ≡ g i)
    → first_of f n ≡ first_of g n
first_of-same f g zero each = first_of-zero f ∙ sym (first_of-zero g)
first_of-same f g (suc n) each =
    first_of-suc f n
    ∙ ap (λ a. or_else a (f n)) (first_of-same f g n (λ i h. each i (omega (arith, h))))
    ∙ ap (or_else (first_of g n)) (each n (omega arith)) ∙ sym (first_of-suc g n)
