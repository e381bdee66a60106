-- The law of a loop: turns of a reader, each of which reads something.
use Rattle.std.proofs.Common.{◌≡◌, ◌<◌, ◌≤◌, ℕ, zero, suc, List, [], ◌∷◌, ◌++◌, length, Ok, Err, refl, sym, ap, arith, length-append, inl, inr, ◌⊎◌}
use Rattle.c_token.specs.declared.token.Token.{Token}
use Rattle.c_expr.specs.Leveled.{Leveled, tokens_of}
use Rattle.c_expr.specs.Next.{Outcome, ◌>>=◌, refuse}
use Rattle.c_expr.specs.private.ExpressionReading.{turn, turns}
use Rattle.c_expr.proofs.Law.{Cut, ended, Lawful, Some_of, bind_law, weaken, pure_law, end_law}

-- Turns. From each state something is left to be read, and a turn that is not the last reads some of it.
abbrev pub Turn : {A B : Type 0} → (A → List Leveled → B → List Token → Type 0) → A → List Leveled
    → A ⊎ B → List Token → Type 0
Turn {B = B} T x b (inl x') us = (0 < length b) × ((c : List Leveled) (y : B) (vs : List Token) → T x' c y vs → T x (b ++ c) y vs)
Turn T x b (inr y) us = T x b y us

pub tokens_length : (a : List Leveled) → length (tokens_of a) ≡ length a
tokens_length [] = refl
tokens_length (x ∷ a) = ap suc (tokens_length a)

module _ {A B : Type 0} (step' : A → List Token → Outcome (A ⊎ B))
    (empty : (x : A) → step' x [] ≡ refuse [])
    (shorter : (x y : A) (ts us : List Token) → step' x ts ≡ Ok (inl y, us) → length us < length ts) where
  enough_by : (n k : ℕ) (x : A) (ts : List Token) (o : Outcome (A ⊎ B)) → step' x ts ≡ o
      → length ts ≤ suc n → length ts ≤ suc k
      → ((y : A) (us : List Token) → length us ≤ n → length us ≤ k → turns step' n y us ≡ turns step' k y us)
      → (o >>= turn (turns step' n)) ≡ (o >>= turn (turns step' k))
  enough_by n k x ts (Ok (inl y, us)) e a b onward = let less = shorter x y ts us e in onward y us (omega arith) (omega arith)
  enough_by n k x ts (Ok (inr y, us)) e a b onward = refl
  enough_by n k x ts (Err f) e a b onward = refl

  -- as many turns as there are tokens are enough
  enough : (n k : ℕ) (x : A) (ts : List Token) → length ts ≤ n → length ts ≤ k
      → turns step' n x ts ≡ turns step' k x ts
  enough zero zero x ts a b = refl
  enough zero (suc k) x [] a b = sym (ap (λ o. o >>= turn (turns step' k)) (empty x))
  enough zero (suc k) x (t ∷ ts) a b = absurd (omega arith)
  enough (suc n) zero x [] a b = ap (λ o. o >>= turn (turns step' n)) (empty x)
  enough (suc n) zero x (t ∷ ts) a b = absurd (omega arith)
  enough (suc n) (suc k) x ts a b = enough_by n k x ts (step' x ts) refl a b (enough n k)

  abbrev onward' : A → List Token → Outcome B
  onward' y us = turns step' (length us) y us

  canon_by : (x : A) (t : Token) (b : List Token) (o : Outcome (A ⊎ B)) → step' x (t ∷ b) ≡ o
      → (o >>= turn (turns step' (length b))) ≡ (o >>= turn onward')
  canon_by x t b (Ok (inl y, us)) e = let less : length us < suc (length b) = shorter x y (t ∷ b) us e in enough (length b) (length us) y us (omega arith) (omega arith)
  canon_by x t b (Ok (inr y, us)) e = refl
  canon_by x t b (Err f) e = refl

  pub canon : (x : A) (b : List Token) → turns step' (length b) x b ≡ (step' x b >>= turn onward')
  canon x [] = sym (ap (λ o. o >>= turn onward') (empty x))
  canon x (t ∷ b) = canon_by x t b (step' x (t ∷ b)) refl

module _ {A B I : Type 0} (m : ℕ) (T : A → List Leveled → B → List Token → Type 0) (some : (x : A) → Some_of (T x)) (step' : I → A → List Token → Outcome (A ⊎ B)) (step : A → List Token → Outcome (A ⊎ B))
    (empty : (i : I) (x : A) → step' i x [] ≡ refuse [])
    (shorter : (i : I) (x y : A) (ts us : List Token) → step' i x ts ≡ Ok (inl y, us) → length us < length ts)
    (law : (x : A) (ts : List Token) → Lawful m (Turn T x) (λ i. step' i x) ts (step x ts)) where
  left : (n : ℕ) (ts rest : List Token) (a : List Leveled) → 0 < length a → length ts ≤ suc n
      → Cut ts a rest → length rest ≤ n
  left n ts rest a some most (inl e) = let none : length rest ≡ 0 = ap length e in omega arith
  left n ts rest a some most (inr e) = omega (arith, ap length e, length-append (tokens_of a) rest, tokens_length a)

  turns_next : (n : ℕ) (x : A) (ts : List Token) → length ts ≤ suc n
      → ((y : A) (us : List Token) → length us ≤ n
      → Lawful m (T y) (λ i b. turns (step' i) (length b) y b) us (turns step n y us))
      → (z : A ⊎ B) (rest : List Token) (a : List Leveled) → Turn T x a z rest → Cut ts a rest → Lawful m (λ b y us. T x (a ++ b) y us) (λ i b. turn (λ y us. turns (step' i) (length us) y us) (z, b)) rest (turn (turns step n) (z, rest))
  turns_next n x ts most onward (inl y) rest a h cut = weaken (λ b y us. T x (a ++ b) y us) (λ i b. turns (step' i) (length b) y b) h.1 (λ i b. refl) (onward y rest (left n ts rest a h.0 most cut))
  turns_next n x ts most onward (inr y) rest a h cut = pure_law y rest (ended (λ b y. T x b y rest) h)

  pub turns_law : (n : ℕ) (x : A) (ts : List Token) → length ts ≤ n
      → Lawful m (T x) (λ i b. turns (step' i) (length b) x b) ts (turns step n x ts)
  turns_law zero x [] most = end_law (λ i b. turns (step' i) (length b) x b) (some x) (λ i. refl)
  turns_law zero x (t ∷ ts) most = absurd (omega arith)
  turns_law (suc n) x ts most = weaken (T x) (λ i b. turns (step' i) (length b) x b) (λ b y us h. h) (λ i b. sym (canon (step' i) (empty i) (shorter i) x b))
      (bind_law (λ i. turn (λ y us. turns (step' i) (length us) y us)) (turn (turns step n)) (law x ts) (turns_next n x ts most (turns_law n)))
