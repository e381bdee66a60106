-- Operations one after another.
use Rattle.std.proofs.Common.{◌≡◌, ℕ, ◌+◌, ◌≤◌, List, [], ◌∷◌, ◌++◌, length, Option, Some, None, ap, sym, subst, ◌∙◌, refl, arith, append_assoc}
use Rattle.std.specs.Prelude.{slice_index_or, All}
use Rattle.std.proofs.lemmas.List.{set-append_left, length-set, length-append, append-nil, get_or-set_other}
use Rattle.std.proofs.lemmas.List.Elements.{All-head, All-tail, All-set}
use Rattle.bop_bits.specs.declared.map.TheConstants.{CODE_WORDS}
use Rattle.low_labels.specs.declared.line.Line.{Line}
use Rattle.low_labels.specs.Closed.{IsUnplaced}
use Rattle.low_labels.specs.Emission.{Emission, fresh, emit, emit_all, lines_of, placed, IsOperation, AreOperations, IsWithin}
use Rattle.low_labels.specs.Operation.{Operation, Do, Jump, Branch, Mark, width, width_of}

pub length-placed : (o : Operation) (at : ℕ) (places : List (Option ℕ))
    → length (placed o at places) ≡ length places
length-placed (Do i) at places = refl
length-placed (Jump rd label) at places = refl
length-placed (Branch t rs1 rs2 label) at places = refl
length-placed (Mark label) at places = length-set places label (Some at)

emit_fresh : (o : Operation) (e : Emission) → IsOperation (length e.places) o
    → emit o (fresh e) ≡ fresh (emit o e)
emit_fresh (Do i) e valid = refl
emit_fresh (Jump rd label) e valid = refl
emit_fresh (Branch t rs1 rs2 label) e valid = refl
emit_fresh (Mark label) e valid =
    ap (λ ps. record { lines = e.lines ++ []; places = ps }) (set-append_left e.places (None ∷ []) label (Some (length e.lines)) valid)

-- operations stay valid behind another
pub still_valid : (o : Operation) (os : List Operation) (e : Emission)
    → AreOperations (length e.places) (o ∷ os) → AreOperations (length (emit o e).places) os
still_valid o os e valid =
    subst (λ n. AreOperations n os) (sym (length-placed o (length e.lines) e.places)) (All-tail (IsOperation (length e.places)) o os valid)

pub emit_all_fresh : (e : Emission) (ops : List Operation) → AreOperations (length e.places) ops
    → emit_all ops (fresh e) ≡ fresh (emit_all ops e)
emit_all_fresh e [] valid = refl
emit_all_fresh e (o ∷ os) valid =
    let rest = still_valid o os e valid in
    ap (emit_all os) (emit_fresh o e (All-head (IsOperation (length e.places)) o os valid)) ∙ emit_all_fresh (emit o e) os rest

-- the words of operations
abbrev pub all_lines : List Operation → List Line
all_lines [] = []
all_lines (o ∷ os) = lines_of o ++ all_lines os

pub lines_after : (os : List Operation) (e : Emission) → (emit_all os e).lines ≡ e.lines ++ all_lines os
lines_after [] e = sym (append-nil e.lines)
lines_after (o ∷ os) e = lines_after os (emit o e) ∙ append_assoc e.lines (lines_of o) (all_lines os)

-- a label that isn't placed keeps the place that it has
pub kept : (os : List Operation) (e : Emission) (label : ℕ) → IsUnplaced label os
    → slice_index_or (emit_all os e).places label None ≡ slice_index_or e.places label None
kept [] e label away = refl
kept (Do i ∷ os) e label away = kept os (emit (Do i) e) label away
kept (Jump rd to ∷ os) e label away = kept os (emit (Jump rd to) e) label away
kept (Branch t rs1 rs2 to ∷ os) e label away = kept os (emit (Branch t rs1 rs2 to) e) label away
kept (Mark other ∷ os) e label away =
    kept os (emit (Mark other) e) label away.1
    ∙ get_or-set_other e.places other label (Some (length e.lines)) None away.0

near_placed : (o : Operation) (at : ℕ) (places : List (Option ℕ)) → at ≤ CODE_WORDS
    → All (IsWithin CODE_WORDS) places → All (IsWithin CODE_WORDS) (placed o at places)
near_placed (Do i) at places here near = near
near_placed (Jump rd label) at places here near = near
near_placed (Branch t rs1 rs2 label) at places here near = near
near_placed (Mark label) at places here near = All-set (IsWithin CODE_WORDS) places label (Some at) here near

pub length-lines : (o : Operation) (lines : List Line)
    → length (lines ++ lines_of o) ≡ length lines + width o
length-lines (Do i) lines = length-append lines _
length-lines (Jump rd label) lines = length-append lines _
length-lines (Branch t rs1 rs2 label) lines = length-append lines _
length-lines (Mark label) lines = length-append lines _

-- no label is placed past the code
pub near_after : (os : List Operation) (e : Emission) → length e.lines + width_of os ≤ CODE_WORDS
    → All (IsWithin CODE_WORDS) e.places → All (IsWithin CODE_WORDS) (emit_all os e).places
near_after [] e short near = near
near_after (o ∷ os) e short near =
    let len = length-lines o e.lines in
    near_after os (emit o e) (omega arith) (near_placed o (length e.lines) e.places (omega arith) near)
