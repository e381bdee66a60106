-- The labels that code places, and labels that come before operations.
use Rattle.std.proofs.Common.{◌≡◌, ℕ, zero, suc, ◌+◌, ◌<◌, ◌≤◌, List, [], ◌∷◌, ◌++◌, length, None, Some, ap, sym, subst, ◌∙◌, refl, arith}
use Rattle.std.proofs.lemmas.List.{set-append_left, length-append}
use Rattle.rv_code.specs.declared.instr.Instr.{Instr}
use Rattle.low_labels.specs.Emission.{Emission, fresh, emit, emit_all}
use Rattle.low_labels.specs.Operation.{Operation, Do, Jump, Branch, Mark}
use Rattle.low_labels.proofs.EmissionLemmas.{length-placed}
use Rattle.low_expr.specs.CodePieces.{all_do}
use Rattle.low_expr.specs.Lowering.{fresh_by, lowered}
use Rattle.low_expr.proofs.Emitting.{emit_append, labels_same}

-- each label that is placed is among the first so many
abbrev pub MarksBelow : ℕ → List Operation → Type 0
MarksBelow n [] = Unit {0}
MarksBelow n (Mark label ∷ os) = (label < n) × MarksBelow n os
MarksBelow n (o ∷ os) = MarksBelow n os

pub marks_append : (n : ℕ) (xs ys : List Operation) → MarksBelow n xs → MarksBelow n ys
    → MarksBelow n (xs ++ ys)
marks_append n [] ys h g = g
marks_append n (Do i ∷ xs) ys h g = marks_append n xs ys h g
marks_append n (Jump rd l ∷ xs) ys h g = marks_append n xs ys h g
marks_append n (Branch t a b l ∷ xs) ys h g = marks_append n xs ys h g
marks_append n (Mark l ∷ xs) ys h g = (h.0, marks_append n xs ys h.1 g)

pub marks_more : (n m : ℕ) (xs : List Operation) → n ≤ m → MarksBelow n xs → MarksBelow m xs
marks_more n m [] le h = tt
marks_more n m (Do i ∷ xs) le h = marks_more n m xs le h
marks_more n m (Jump rd l ∷ xs) le h = marks_more n m xs le h
marks_more n m (Branch t a b l ∷ xs) le h = marks_more n m xs le h
marks_more n m (Mark l ∷ xs) le h = let low = h.0 in (omega arith, marks_more n m xs le h.1)

pub marks_do : (n : ℕ) (xs : List Instr) → MarksBelow n (all_do xs)
marks_do n [] = tt
marks_do n (x ∷ xs) = marks_do n xs

-- a label may come before operations that place only labels that are there
fresh_mark : (label : ℕ) (e : Emission) → label < length e.places
    → emit (Mark label) (fresh e) ≡ fresh (emit (Mark label) e)
fresh_mark label e h =
    ap (λ ps. record { lines = e.lines ++ []; places = ps }) (set-append_left e.places (None ∷ []) label (Some (length e.lines)) h)

marks_kept : (o : Operation) (os : List Operation) (e : Emission)
    → MarksBelow (length e.places) os → MarksBelow (length (emit o e).places) os
marks_kept o os e h = subst (λ n. MarksBelow n os) (sym (length-placed o (length e.lines) e.places)) h

pub fresh_first : (os : List Operation) (e : Emission) → MarksBelow (length e.places) os
    → emit_all os (fresh e) ≡ fresh (emit_all os e)
fresh_first [] e h = refl
fresh_first (Do i ∷ os) e h = fresh_first os (emit (Do i) e) (marks_kept (Do i) os e h)
fresh_first (Jump rd l ∷ os) e h = fresh_first os (emit (Jump rd l) e) (marks_kept (Jump rd l) os e h)
fresh_first (Branch t a b l ∷ os) e h =
    fresh_first os (emit (Branch t a b l) e) (marks_kept (Branch t a b l) os e h)
fresh_first (Mark l ∷ os) e h =
    ap (emit_all os) (fresh_mark l e h.0)
    ∙ fresh_first os (emit (Mark l) e) (marks_kept (Mark l) os e h.1)

pub fresh_length : (n : ℕ) (e : Emission) → length (fresh_by n e).places ≡ length e.places + n
fresh_length zero e = omega arith
fresh_length (suc n) e =
    let rest = fresh_length n (fresh e) in
    let one = length-append e.places (None ∷ []) in
    omega arith

-- as many labels as before and so many
pub lowered_length : (n : ℕ) (os : List Operation) (e : Emission)
    → length (lowered n os e).places ≡ length e.places + n
lowered_length n os e = labels_same os (fresh_by n e) ∙ fresh_length n e

pub fresh_add : (n m : ℕ) (e : Emission) → fresh_by m (fresh_by n e) ≡ fresh_by (n + m) e
fresh_add zero m e = let same : m ≡ 0 + m = omega arith in ap (λ k. fresh_by k e) same
fresh_add (suc n) m e = fresh_add n m (fresh e) ∙ ap (λ k. fresh_by k e) same
  where
    same : suc (n + m) ≡ suc n + m
    same = omega arith

fresh_by_first : (m : ℕ) (os : List Operation) (e : Emission) → MarksBelow (length e.places) os
    → fresh_by m (emit_all os e) ≡ emit_all os (fresh_by m e)
fresh_by_first zero os e h = refl
fresh_by_first (suc m) os e h =
    let more : MarksBelow (length (fresh e).places) os = marks_more (length e.places) (length (fresh e).places) os (omega (arith, length-append e.places (None ∷ []))) h in
    ap (fresh_by m) (sym (fresh_first os e h)) ∙ fresh_by_first m os (fresh e) more

-- labels and operations behind others
pub lowered_behind : (n m : ℕ) (xs ys : List Operation) (e : Emission)
    → MarksBelow (length e.places + n) xs
    → lowered m ys (lowered n xs e) ≡ lowered (n + m) (xs ++ ys) e
lowered_behind n m xs ys e h =
    let here = subst (λ k. MarksBelow k xs) (sym (fresh_length n e)) h in
    ap (emit_all ys) (fresh_by_first m xs (fresh_by n e) here ∙ ap (emit_all xs) (fresh_add n m e))
    ∙ sym (emit_append xs ys (fresh_by (n + m) e))

pub emitted_behind : (n : ℕ) (xs ys : List Operation) (e : Emission)
    → emit_all ys (lowered n xs e) ≡ lowered n (xs ++ ys) e
emitted_behind n xs ys e = sym (emit_append xs ys (fresh_by n e))
