-- The words of code whose labels have their places.
use Rattle.std.specs.Prelude.{ℕ, ◌+◌, ◌*◌, ◌≢◌, List, [], ◌∷◌, Option, Some, None, ℤ, pos, ◌-ℤ◌, slice_index_or}
use Rattle.rv_code.specs.declared.instr.Instr.{Instr}
use Rattle.rv_code.specs.declared.instr.Instr.TheVariants.{Jal}
use Rattle.rv_code.specs.Table.{word_of}
use Rattle.low_labels.specs.declared.line.Line.{Line}
use Rattle.low_labels.specs.declared.line.Line.TheVariants as line
use Rattle.low_labels.specs.Emission.{Emission}
use Rattle.low_labels.specs.Operation.{Operation, Mark}

abbrev pub at_or_first : Option ℕ → ℕ
at_or_first None = 0
at_or_first (Some at) = at

-- the place of a label; one without a place is nowhere, and counts as the first word
abbrev pub place_in : List (Option ℕ) → ℕ → ℕ
place_in places label = at_or_first (slice_index_or places label None)

-- from one word to another, in bytes
abbrev pub distance : (from to : ℕ) → ℤ
distance from to = pos (4 * to) -ℤ pos (4 * from)

abbrev pub instr_of_line : (labels : ℕ → ℕ) → ℕ → Line → Instr
instr_of_line labels i (line.Do instr) = instr
instr_of_line labels i (line.Jump rd label) = Jal rd (distance i (labels label))

abbrev pub words_from : (labels : ℕ → ℕ) → ℕ → List Line → List ℕ
words_from labels i [] = []
words_from labels i (x ∷ xs) = word_of (instr_of_line labels i x) ∷ words_from labels (i + 1) xs

abbrev pub words_of : Emission → List ℕ
words_of e = words_from (place_in e.places) 0 e.lines

-- operations don't place a label
abbrev pub IsUnplaced : ℕ → List Operation → Type 0
IsUnplaced label [] = Unit {0}
IsUnplaced label (Mark other ∷ os) = (label ≢ other) × IsUnplaced label os
IsUnplaced label (o ∷ os) = IsUnplaced label os

-- operations place no label twice
abbrev pub ArePlacedOnce : List Operation → Type 0
ArePlacedOnce [] = Unit {0}
ArePlacedOnce (Mark label ∷ os) = IsUnplaced label os × ArePlacedOnce os
ArePlacedOnce (o ∷ os) = ArePlacedOnce os
