-- What is said of a program's file by what has become of its text before it was run or evaluated.
use Rattle.std.specs.Prelude.{◌≡◌, ◌≤◌, ◌<◌, length, ℕ, List, [], Option, Some, None}
use Rattle.std.specs.Io.KnownBytes.{IsAtEnd}
use Rattle.c_tree.specs.Item.{Item}
use Rattle.c_token.specs.declared.limits.TheConstants.{TEXT_BYTES}
use Rattle.low_link.specs.Front.{IsSource, Refuses}
use Rattle.low_link.specs.Refused.{IsRejection}
use Rattle.low_link.specs.declared.refused.Refused.{Refused}
use Rattle.low_link.specs.declared.refused.Refused.TheVariants as refused
use Rattle.rv_step.specs.declared.limits.TheConstants.{INPUT_BYTES}
use Rattle.bop_top.specs.declared.outcome.Outcome.{Outcome}
use Rattle.bop_top.specs.declared.outcome.Outcome.TheVariants.{Fine, LoadFault, ProgramTooLong, Rejected, ReadFault, InputTooLong, OutOfMemory}

-- there is a file, it is no longer than a text may be, and P holds of it
abbrev pub OfText : Option (List ℕ) → (List ℕ → Type 0) → Type 0
OfText file P = (text : List ℕ) × (file ≡ Some text) × (length text ≤ TEXT_BYTES) × P text

-- there is a file, and it is longer than a text may be
abbrev pub IsTooLong : Option (List ℕ) → Type 0
IsTooLong file = (text : List ℕ) × (file ≡ Some text) × (TEXT_BYTES < length text)

-- the compiler takes the text
abbrev pub IsFine : List ℕ → Type 0
IsFine text = (ps : List Item) × IsSource text ps

-- what an outcome says of the file that comes before a text is run or evaluated; another says
-- nothing of it
abbrev pub FileSays : Outcome → Option (List ℕ) → Type 0
FileSays Fine file = OfText file IsFine
FileSays InputTooLong file = OfText file IsFine
FileSays ReadFault file = OfText file IsFine
FileSays (Rejected refused) file = OfText file (λ text. Refuses text refused)
FileSays ProgramTooLong file = IsTooLong file
FileSays _ file = Unit {0}

-- how a command ends whose text is refused
abbrev pub refused_outcome : Refused → Outcome
refused_outcome refused.OutOfMemory = OutOfMemory
refused_outcome other = Rejected other

-- why no text was loaded, and that it was too long where the shelf tells
abbrev pub IsUnloaded : Outcome → Type 0 → Option (List ℕ) → Type 0
IsUnloaded LoadFault told file = Unit {0}
IsUnloaded OutOfMemory told file = Unit {0}
IsUnloaded ProgramTooLong told file = told → IsTooLong file
IsUnloaded _ told file = ⊥

-- why the input was not read to its end, of which these bytes were taken
abbrev pub IsUnread : Outcome → (taken : List ℕ) → Type 0
IsUnread ReadFault taken = Unit {0}
IsUnread OutOfMemory taken = Unit {0}
IsUnread InputTooLong taken = INPUT_BYTES < length taken
IsUnread _ taken = ⊥

-- why a text is neither run nor evaluated, where these bytes of the input were taken
abbrev pub IsUnready : Outcome → (text taken : List ℕ) → Type 0
IsUnready (Rejected refused) text taken = Refuses text refused × IsRejection refused × (taken ≡ [])
IsUnready InputTooLong text taken = IsFine text × (INPUT_BYTES < length taken)
IsUnready ReadFault text taken = IsFine text
IsUnready OutOfMemory text taken = Unit {0}
IsUnready _ text taken = ⊥

-- these bytes are the whole input, and nothing is left of it
pub record IsInput (taken : List ℕ) (left : Option (List ℕ)) : Type 0 where
  pub few : length taken ≤ INPUT_BYTES
  pub end : IsAtEnd left
