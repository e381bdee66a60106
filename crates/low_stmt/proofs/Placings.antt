-- How often operations place a label.
use Rattle.std.proofs.Common.{◌≡◌, ◌≢◌, ℕ, ◌+◌, ◌<◌, ◌≤◌, ◌⊎◌, List, [], ◌∷◌, ◌++◌, refl, arith, ap, ◌==◌, ⊎_elim}
use Rattle.std.specs.Prelude.{Bool, if◌then◌else◌, nat_lt}
use Rattle.std.proofs.lemmas.Bool.Decides.{nat_tests}
use Rattle.rv_code.specs.declared.instr.Instr.{Instr}
use Rattle.low_labels.specs.Closed.{IsUnplaced, ArePlacedOnce}
use Rattle.low_labels.specs.Operation.{Operation}
use Rattle.low_labels.specs.Operation as op
use Rattle.low_expr.specs.CodePieces.{all_do}

abbrev pub one_if : Bool → ℕ
one_if b = if b then 1 else 0

abbrev pub placings : (label : ℕ) → List Operation → ℕ
placings label [] = 0
placings label (op.Mark other ∷ os) = one_if (label == other) + placings label os
placings label (o ∷ os) = placings label os

-- whether a label is among the first so many
abbrev pub among : (n label : ℕ) → ℕ
among n label = one_if (nat_lt label n)

module _ (label : ℕ) where
  pub placings-append : (xs ys : List Operation)
      → placings label (xs ++ ys) ≡ placings label xs + placings label ys
  placings-append [] ys = omega arith
  placings-append (op.Do i ∷ xs) ys = placings-append xs ys
  placings-append (op.Jump rd to ∷ xs) ys = placings-append xs ys
  placings-append (op.Branch t a b to ∷ xs) ys = placings-append xs ys
  placings-append (op.Mark other ∷ xs) ys = omega (arith, placings-append xs ys)

  pub placings_do : (xs : List Instr) → placings label (all_do xs) ≡ 0
  placings_do [] = refl
  placings_do (x ∷ xs) = placings_do xs

  -- the next label
  pub among_next : (n : ℕ) → one_if (label == n) + among n label ≡ among (n + 1) label
  among_next n = grind (arith, nat_tests)

  pub among_more : (n m : ℕ) → n ≤ m → among n label ≤ among m label
  among_more n m le = grind (arith, nat_tests)

  pub among_same : (n m : ℕ) → n ≡ m → among n label ≡ among m label
  among_same n m e = ap (λ k. among k label) e

  pub among_most : (n : ℕ) → among n label ≤ 1
  among_most n = grind (arith, nat_tests)

  -- a label that isn't between two numbers
  pub among_outside : (from to : ℕ) → from ≤ to → (label < from) ⊎ (to ≤ label)
      → among from label ≡ among to label
  among_outside from to le out =
      ⊎_elim (λ low. grind (arith, nat_tests)) (λ high. grind (arith, nat_tests)) out

  pub unplaced : (os : List Operation) → placings label os ≡ 0 → IsUnplaced label os
  unplaced [] none = tt
  unplaced (op.Do i ∷ os) none = unplaced os none
  unplaced (op.Jump rd to ∷ os) none = unplaced os none
  unplaced (op.Branch t a b to ∷ os) none = unplaced os none
  unplaced (op.Mark other ∷ os) none = (other_label, unplaced os (omega (arith, none)))
    where
      other_label : label ≢ other
      other_label = grind (arith, nat_tests, none)

same_label : (label : ℕ) → one_if (label == label) ≡ 1
same_label label = grind (arith, nat_tests)

-- what is placed at most once, each label
pub placed_once : (os : List Operation) → ((label : ℕ) → placings label os ≤ 1)
    → ArePlacedOnce os
placed_once [] once = tt
placed_once (op.Do i ∷ os) once = placed_once os once
placed_once (op.Jump rd to ∷ os) once = placed_once os once
placed_once (op.Branch t a b to ∷ os) once = placed_once os once
placed_once (op.Mark label ∷ os) once = (
  unplaced label os (omega (arith, once label, same_label label)),
  placed_once os (λ k. omega (arith, once k)),
)
