-- In the words of operations each is at its place.
use Rattle.std.proofs.Common.{◌≡◌, ℕ, ◌+◌, ◌<◌, ◌≤◌, List, [], ◌∷◌, ◌++◌, length, Option, Some, None, ap, sym, subst, ◌∙◌, refl, arith, append_assoc, pos, ⊎_elim, refl}
use Rattle.std.specs.Prelude.{slice_index_or, All}
use Rattle.std.proofs.lemmas.Bool.{cases_lt}
use Rattle.std.proofs.lemmas.Grind.{common_steps}
use Rattle.std.proofs.lemmas.Int.{ints}
use Rattle.std.proofs.lemmas.List.{get_or-set_same, get_or_past, length-replicate}
use Rattle.std.proofs.lemmas.List.Elements.{All-head, All-get_or, All-replicate}
use Rattle.bop_bits.specs.declared.map.TheConstants.{CODE_WORDS}
use Rattle.rv_code.specs.Table.{IsInstr}
use Rattle.low_labels.specs.declared.line.Line.{Line}
use Rattle.low_labels.specs.declared.line.Line.TheVariants as line
use Rattle.low_labels.specs.declared.test.Test.{Test}
use Rattle.low_labels.specs.declared.test.Test.TheVariants as test
use Rattle.low_labels.specs.Closed.{at_or_first, distance, place_in, words_from, words_of, ArePlacedOnce}
use Rattle.low_labels.specs.Emission.{Emission, labelled, emit, emit_all, lines_of, IsOperation, AreOperations, IsWithin}
use Rattle.low_labels.specs.Operation.{Operation, Do, Jump, Branch, Mark, width, width_of, unless}
use Rattle.low_labels.specs.Placed.{HasAt, HasJump, Stands}
use Rattle.low_labels.proofs.ClosedLemmas.{word_here, jump_fits, jump_leads}
use Rattle.low_labels.proofs.EmissionLemmas.{all_lines, length-lines, lines_after, kept, near_after, still_valid}

-- the place of a label is within the code
near : (places : List (Option ℕ)) → All (IsWithin CODE_WORDS) places → (label : ℕ)
    → place_in places label ≤ CODE_WORDS
near places within label = found (slice_index_or places label None) (⊎_elim inside past (cases_lt label (length places)))
  where
    found : (p : Option ℕ) → IsWithin CODE_WORDS p → at_or_first p ≤ CODE_WORDS
    found None h = omega arith
    found (Some at) h = h

    inside : label < length places → IsWithin CODE_WORDS (slice_index_or places label None)
    inside h = All-get_or (IsWithin CODE_WORDS) places label None h within

    past : length places ≤ label → IsWithin CODE_WORDS (slice_index_or places label None)
    past h = subst (IsWithin CODE_WORDS) (sym (get_or_past places label None h)) tt

unless_fits : (t : Test) (rs1 rs2 : ℕ) → rs1 < 32 → rs2 < 32 → IsInstr (unless t rs1 rs2 (pos 8))
unless_fits test.Eq rs1 rs2 low1 low2 = grind (arith, common_steps, ints)
unless_fits test.Ne rs1 rs2 low1 low2 = grind (arith, common_steps, ints)
unless_fits test.Lt rs1 rs2 low1 low2 = grind (arith, common_steps, ints)
unless_fits test.Ge rs1 rs2 low1 low2 = grind (arith, common_steps, ints)
unless_fits test.LtU rs1 rs2 low1 low2 = grind (arith, common_steps, ints)
unless_fits test.GeU rs1 rs2 low1 low2 = grind (arith, common_steps, ints)

module _ (places : List (Option ℕ)) (within : All (IsWithin CODE_WORDS) places) where
  abbrev labels : ℕ → ℕ
  labels = place_in places

  abbrev words : List Line → List ℕ
  words = words_from labels 0

  -- a jump behind other words
  jump_here : (xs ys : List Line) (rd label : ℕ) → rd < 32 → length xs ≤ CODE_WORDS
      → HasJump (words (xs ++ line.Jump rd label ∷ ys)) labels (length xs) rd label
  jump_here xs ys rd label low short =
      let to = near places within label in (
        distance (length xs) (labels label),
        (jump_fits rd (length xs) (labels label) low short to, word_here labels xs (line.Jump rd label) ys),
        jump_leads (length xs) (labels label) short to,
      )

  -- what is behind an operation is behind its words
  behind : (o : Operation) (os : List Operation) (xs : List Line)
      → HasAt (words ((xs ++ lines_of o) ++ all_lines os)) labels (length (xs ++ lines_of o)) os
      → HasAt (words (xs ++ (lines_of o ++ all_lines os))) labels (length xs + width o) os
  behind o os xs h =
      subst (λ n. HasAt (words (xs ++ (lines_of o ++ all_lines os))) labels n os) (length-lines o xs)
      (subst (λ ys. HasAt (words ys) labels (length (xs ++ lines_of o)) os) (append_assoc xs (lines_of o) (all_lines os)) h)

  branch_here : (t : Test) (rs1 rs2 label : ℕ) (xs ys : List Line) → rs1 < 32 → rs2 < 32
      → length xs + 2 ≤ CODE_WORDS
      → Stands (words (xs ++ (lines_of (Branch t rs1 rs2 label) ++ ys))) labels (length xs) (Branch t rs1 rs2 label)
  branch_here t rs1 rs2 label xs ys low1 low2 short =
      let first = line.Do (unless t rs1 rs2 (pos 8)) in
      let second = line.Jump 0 label in
      let len = length-lines (Do (unless t rs1 rs2 (pos 8))) xs in
      let jump = jump_here (xs ++ first ∷ []) ys 0 label (omega arith) (omega arith) in (
        (unless_fits t rs1 rs2 low1 low2, word_here labels xs first (second ∷ ys)),
        subst (λ n. HasJump (words (xs ++ first ∷ (second ∷ ys))) labels n 0 label) len
            (subst (λ zs. HasJump (words zs) labels (length (xs ++ first ∷ [])) 0 label) (append_assoc xs (first ∷ []) (second ∷ ys)) jump),
      )

  -- each operation is at its place, behind what was there before
  pub standing : (os : List Operation) (e : Emission) → AreOperations (length e.places) os
      → ArePlacedOnce os → length e.lines + width_of os ≤ CODE_WORDS
      → places ≡ (emit_all os e).places
      → HasAt (words (e.lines ++ all_lines os)) labels (length e.lines) os
  standing [] e valid once short is = tt
  standing (Do i ∷ os) e valid once short is =
      let len = length-lines (Do i) e.lines in
      let rest = standing os (emit (Do i) e) (still_valid (Do i) os e valid) once (omega arith) is in
      ((All-head (IsOperation (length e.places)) (Do i) os valid, word_here labels e.lines (line.Do i) (all_lines os)), behind (Do i) os e.lines rest)
  standing (Jump rd label ∷ os) e valid once short is =
      let o = Jump rd label in
      let len = length-lines o e.lines in
      let rest = standing os (emit o e) (still_valid o os e valid) once (omega arith) is in
      let head = All-head (IsOperation (length e.places)) o os valid in
      (jump_here e.lines (all_lines os) rd label head.0 (omega arith), behind o os e.lines rest)
  standing (Branch t rs1 rs2 label ∷ os) e valid once short is =
      let o = Branch t rs1 rs2 label in
      let len = length-lines o e.lines in
      let rest = standing os (emit o e) (still_valid o os e valid) once (omega arith) is in
      let head = All-head (IsOperation (length e.places)) o os valid in
      (branch_here t rs1 rs2 label e.lines (all_lines os) head.0 head.1 (omega arith), behind o os e.lines rest)
  standing (Mark label ∷ os) e valid once short is =
      let o = Mark label in
      let len = length-lines o e.lines in
      let rest = standing os (emit o e) (still_valid o os e valid) once.1 (omega arith) is in
      let head = All-head (IsOperation (length e.places)) o os valid in
      let here = kept os (emit o e) label once.0 ∙ get_or-set_same e.places label (Some (length e.lines)) None head in
      (ap (λ ps. place_in ps label) is ∙ ap at_or_first here, behind o os e.lines rest)

-- the words of operations from the first word on
pub closed : (n : ℕ) (os : List Operation) → AreOperations n os → ArePlacedOnce os
    → width_of os ≤ CODE_WORDS
    → HasAt (words_of (emit_all os (labelled n))) (place_in (emit_all os (labelled n)).places) 0 os
closed n os valid once short =
    let e = labelled n in
    let f = emit_all os e in
    let fits : 0 + width_of os ≤ CODE_WORDS = omega arith in
    let within = near_after os e fits (All-replicate (IsWithin CODE_WORDS) n None tt) in
    let known = subst (λ k. AreOperations k os) (sym (length-replicate n None)) valid in
    subst (λ xs. HasAt (words_from (place_in f.places) 0 xs) (place_in f.places) 0 os) (sym (lines_after os e)) (standing f.places within os e known once fits refl)
