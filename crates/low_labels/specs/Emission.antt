-- Code as it grows.
use Rattle.std.specs.Prelude.{ℕ, ◌+◌, ◌<◌, ◌≤◌, List, [], ◌∷◌, ◌++◌, length, replicate, All, Option, Some, None, pos, slice_set}
use Rattle.bop_bits.specs.declared.map.TheConstants.{CODE_WORDS}
use Rattle.rv_code.specs.Table.{IsInstr}
use Rattle.low_labels.specs.declared.line.Line.{Line}
use Rattle.low_labels.specs.declared.line.Line.TheVariants as line
use Rattle.low_labels.specs.Operation.{Operation, Do, Jump, Branch, Mark, unless}

-- the words so far, and where the labels are
pub record Emission : Type 0 where
  pub lines : List Line
  pub places : List (Option ℕ)

abbrev pub nothing : Emission
nothing = record { lines = []; places = [] }

-- so many labels without a place, and no word
abbrev pub labelled : ℕ → Emission
labelled n = record { lines = []; places = replicate n None }

-- one label more
abbrev pub fresh : Emission → Emission
fresh e = record e { places = e.places ++ None ∷ [] }

abbrev pub lines_of : Operation → List Line
lines_of (Do i) = line.Do i ∷ []
lines_of (Jump rd label) = line.Jump rd label ∷ []
lines_of (Branch t rs1 rs2 label) = line.Do (unless t rs1 rs2 (pos 8)) ∷ (line.Jump 0 label ∷ [])
lines_of (Mark label) = []

abbrev pub placed : Operation → ℕ → List (Option ℕ) → List (Option ℕ)
placed (Mark label) at places = slice_set places label (Some at)
placed o at places = places

-- one operation more
abbrev pub emit : Operation → Emission → Emission
emit o e = record {
  lines = e.lines ++ lines_of o;
  places = placed o (length e.lines) e.places;
}

abbrev pub emit_all : List Operation → Emission → Emission
emit_all [] e = e
emit_all (o ∷ os) e = emit_all os (emit o e)

-- so many words more are more than the code may have
abbrev pub IsTooLong : ℕ → Emission → Type 0
IsTooLong more e = CODE_WORDS < length e.lines + more

-- registers and immediates are in range, and labels are among the first so many
abbrev pub IsOperation : ℕ → Operation → Type 0
IsOperation labels (Do i) = IsInstr i
IsOperation labels (Jump rd label) = (rd < 32) × (label < labels)
IsOperation labels (Branch t rs1 rs2 label) = (rs1 < 32) × (rs2 < 32) × (label < labels)
IsOperation labels (Mark label) = label < labels

abbrev pub AreOperations : ℕ → List Operation → Type 0
AreOperations labels = All (IsOperation labels)

abbrev pub IsLine : ℕ → Line → Type 0
IsLine labels (line.Do i) = IsInstr i
IsLine labels (line.Jump rd label) = (rd < 32) × (label < labels)

-- a label has no place past the first so many words
abbrev pub IsWithin : ℕ → Option ℕ → Type 0
IsWithin words None = Unit {0}
IsWithin words (Some at) = at ≤ words

-- code that an `Asm` can have
pub record IsEmission (lines : List Line) (places : List (Option ℕ)) : Type 0 where
  pub valid : All (IsLine (length places)) lines
  pub short : length lines ≤ CODE_WORDS
  pub within : All (IsWithin (length lines)) places
