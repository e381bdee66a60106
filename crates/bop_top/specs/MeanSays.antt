-- What the outcome of a meaning says.
use Rattle.std.specs.Prelude.{◌≡◌, ℕ, List, Option, Some}
use Rattle.byte_lists.specs.Prefix.{IsPrefix}
use Rattle.c_tree.specs.Item.{Item}
use Rattle.c_tree.specs.Erase.{erased_text}
use Rattle.c_semantics.specs.Meaning.{Meaning, meant}
use Rattle.c_semantics.specs.Meaning as meaning
use Rattle.c_semantics.specs.Outcome as told
use Rattle.low_link.specs.Front.{IsSource}
use Rattle.bop_top.specs.declared.outcome.Outcome.{Outcome}
use Rattle.bop_top.specs.declared.outcome.Outcome.TheVariants.{Done, StackFull, Undefined, MoreSteps, WriteFault}
use Rattle.bop_top.specs.TextSays.{OfText, FileSays}

-- P holds of what the text means with this input within so many steps, where each marker is the
-- empty statement
abbrev pub Means : (text input : List ℕ) → (steps : ℕ) → (Meaning → Type 0) → Type 0
Means text input steps P =
    (ps : List Item) × IsSource text ps × P (meant (erased_text ps) input steps)

-- P holds of what the file's text means
abbrev pub Meant : (steps : ℕ) → (file : Option (List ℕ)) → (input : List ℕ)
    → (Meaning → Type 0) → Type 0
Meant steps file input P = OfText file (λ text. Means text input steps P)

-- what the outcome says of a meaning whose output was to be written, and of the bytes written
abbrev pub Puts : Outcome → (written : List ℕ) → Meaning → Type 0
Puts (Done exit) written m = m ≡ meaning.Done written exit
Puts StackFull written m = m ≡ meaning.StackFull' written
Puts (Undefined act at) written m = m ≡ meaning.Undefined' written act at
Puts MoreSteps written m = m ≡ meaning.More' written
Puts WriteFault written m = IsPrefix written (told.output_of m)
Puts _ written m = ⊥

-- what the outcome says of the program's file, where these bytes were taken and written
abbrev pub MeanSays : (steps : ℕ) → Outcome → (file : Option (List ℕ)) → (taken written : List ℕ)
    → Type 0
MeanSays steps (Done exit) file taken written = Meant steps file taken (Puts (Done exit) written)
MeanSays steps StackFull file taken written = Meant steps file taken (Puts StackFull written)
MeanSays steps (Undefined act at) file taken written =
    Meant steps file taken (Puts (Undefined act at) written)
MeanSays steps MoreSteps file taken written = Meant steps file taken (Puts MoreSteps written)
MeanSays steps WriteFault file taken written = Meant steps file taken (Puts WriteFault written)
MeanSays steps outcome file taken written = FileSays outcome file

-- how a command ends whose text has this meaning
abbrev pub meaning_outcome : Meaning → Outcome
meaning_outcome (meaning.Done output exit) = Done exit
meaning_outcome (meaning.StackFull' output) = StackFull
meaning_outcome (meaning.More' output) = MoreSteps
meaning_outcome (meaning.Undefined' output act at) = Undefined act at
