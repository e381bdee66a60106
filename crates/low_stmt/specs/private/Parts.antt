-- What a part of a function adds to code, and what it takes for granted.
use Rattle.std.specs.Prelude.{◌≡◌, ℕ, ◌+◌, ◌<◌, ◌≤◌, ◌⊎◌, List, [], ◌∷◌, ◌++◌, length, Option}
use Rattle.c_tree.specs.Item.{Item}
use Rattle.c_semantics.specs.Meaning.{definition}
use Rattle.c_semantics.specs.Names.{Definition, Names}
use Rattle.c_resolve.specs.DeclaredNames.{blocks_in}
use Rattle.c_resolve.specs.Routines.{definitions_of}
use Rattle.low_labels.specs.Closed.{place_in, IsUnplaced}
use Rattle.low_labels.specs.declared.fault.AsmFault.{AsmFault}
use Rattle.low_labels.specs.declared.fault.AsmFault.TheVariants.{CodeTooLong}
use Rattle.low_labels.specs.Emission.{Emission, IsTooLong}
use Rattle.low_labels.specs.Operation.{Operation}
use Rattle.low_expr.specs.declared.names.Names.{Names as Labelled}
use Rattle.low_expr.specs.declared.piece.TheConstants.{SLOTS}
use Rattle.low_expr.specs.LabelledNames.{scope_in, AreFunctionsOf}
use Rattle.low_expr.specs.Lowering.{lowered}
use Rattle.low_stmt.specs.RegionEnds.{RegionEnd, with_ends}

-- labels, operations, which may depend on the definitions of the text, and ends of regions
pub record Part : Type 0 where
  pub labels : ℕ
  pub code : List Definition → List Operation
  pub ends : List RegionEnd

-- one part after the other
abbrev pub joined : Part → Part → Part
joined p q = record {
  labels = p.labels + q.labels;
  code = λ definitions. p.code definitions ++ q.code definitions;
  ends = p.ends ++ q.ends;
}

-- operations without labels of their own
abbrev pub operations : List Operation → Part
operations os = record { labels = 0; code = λ definitions. os; ends = [] }

-- labels alone
abbrev pub labels_alone : ℕ → Part
labels_alone n = record { labels = n; code = λ definitions. []; ends = [] }

-- A part that begins with the label `first` and ends before `last` places its own labels, and may
-- place those that were made for it before: from `from` up to `low`. This is no such label.
abbrev pub IsOther : (from low first last label : ℕ) → Type 0
IsOther from low first last label =
    (label < from) ⊎ (((low ≤ label) × (label < first)) ⊎ (last ≤ label))

-- the labels of ends are from one number on, and below another
abbrev pub AreEndsWithin : (low last : ℕ) → List RegionEnd → Type 0
AreEndsWithin low last [] = Unit {0}
AreEndsWithin low last (e ∷ es) = (low ≤ e.label) × (e.label < last) × AreEndsWithin low last es

-- a part is added to code
pub record IsAdded (from low : ℕ) (part : Part) (old new : Emission) : Type 0 where
  pub code : (definitions : List Definition)
      → new ≡ lowered part.labels (part.code definitions) old
  pub apart : (definitions : List Definition) (label : ℕ)
      → IsOther from low (length old.places) (length old.places + part.labels) label
      → IsUnplaced label (part.code definitions)
  pub within : AreEndsWithin low (length old.places + part.labels) part.ends

-- a part that places its own labels alone, by the first of them
abbrev pub Adds : (ℕ → Part) → (old new : Emission) → Type 0
Adds part old new =
    let first = length old.places in IsAdded first first (part first) old new

-- the addresses of the ends of a part are written
abbrev pub SetsEnds : (ℕ → Part) → (old new : Emission) → (before after : List ℕ) → Type 0
SetsEnds part old new before after =
    after ≡ with_ends (place_in new.places) (part (length old.places)).ends before

-- a part is added, and the addresses of its ends are written
pub record IsWritten (from low : ℕ) (part : Part) (old new : Emission)
    (before after : List ℕ) : Type 0 where
  pub added : IsAdded from low part old new
  pub ends : after ≡ with_ends (place_in new.places) part.ends before

abbrev pub Writes : (ℕ → Part) → (old new : Emission) → (before after : List ℕ) → Type 0
Writes part old new before after =
    let first = length old.places in IsWritten first first (part first) old new before after

-- code has at most so many words more
abbrev pub GrowsAtMost : (words : ℕ) → (old new : Emission) → Type 0
GrowsAtMost words old new = length new.lines ≤ length old.lines + words

-- code is refused for its length only where so many words more are too many
abbrev pub IsRefusal : (words : ℕ) → Emission → AsmFault → Type 0
IsRefusal words old = λ fault. fault ≡ CodeTooLong → IsTooLong words old

-- a part of a function of a text is ready, in a frame with so many slots, whose word number `top`
-- has the return address
pub record IsReadyHere (names : Labelled)
    (ready : (List ℕ → Option Definition) → (room top : ℕ) → Names → Type 0) : Type 0 where
  pub text : List Item
  pub room : ℕ
  pub top : ℕ
  pub functions : AreFunctionsOf text names
  pub small : room ≤ SLOTS
  pub holds : ready (definition text) room top (scope_in (definitions_of text) names)

-- the names in scope are made of those before, whatever functions they stand for
abbrev pub AreScope : (old new : Labelled) → (Names → Names) → Type 0
AreScope old new made = (definitions : List Definition)
    → scope_in definitions new ≡ made (scope_in definitions old)

-- the blocks are the same, and those round the innermost one are
abbrev pub IsSameScope : (old new : Labelled) → Type 0
IsSameScope old new = blocks_in new.known ≡ blocks_in old.known

abbrev pub IsKeptRound : (old new : Labelled) → Type 0
IsKeptRound old new = (blocks_in new.known).outer ≡ (blocks_in old.known).outer
