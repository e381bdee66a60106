-- What the outcome of a command says of the bytes that it takes and writes and of what it tells of
-- them, whatever the file.
use Rattle.std.specs.Prelude.{◌≡◌, ◌≤◌, ◌<◌, length, ℕ, List, [], Option, Some, None, IsSome}
use Rattle.bop_words.specs.WordRequests.{Request, Seq, Check, Mean}
use Rattle.low_link.specs.Refused.{IsRejection}
use Rattle.rv_step.specs.declared.limits.TheConstants.{INPUT_BYTES}
use Rattle.bop_top.specs.declared.ending.Figures.{Figures}
use Rattle.bop_top.specs.declared.outcome.Outcome.{Outcome}
use Rattle.bop_top.specs.declared.outcome.Outcome.TheVariants.{Done, Fine, LoadFault, ProgramTooLong, Rejected, ReadFault, InputTooLong, Budget, Trapped, StackFull, Undefined, MoreSteps, WriteFault, OutOfMemory, NotYetBuilt}
use Rattle.bop_top.specs.BuiltCommands.{IsBuilt}
use Rattle.bop_top.specs.TextSays.{IsInput}

-- the outcomes with which a request can end
abbrev pub CanEnd : Request → Outcome → Type 0
CanEnd request NotYetBuilt = IsBuilt request → ⊥
CanEnd request LoadFault = IsBuilt request
CanEnd request ProgramTooLong = IsBuilt request
CanEnd request (Rejected refused) = IsBuilt request × IsRejection refused
CanEnd request OutOfMemory = IsBuilt request
CanEnd (Check name) Fine = Unit {0}
CanEnd (Seq name budget) ReadFault = Unit {0}
CanEnd (Seq name budget) InputTooLong = Unit {0}
CanEnd (Seq name budget) (Done exit) = Unit {0}
CanEnd (Seq name budget) Budget = Unit {0}
CanEnd (Seq name budget) (Trapped trap pc) = Unit {0}
CanEnd (Seq name budget) StackFull = Unit {0}
CanEnd (Seq name budget) WriteFault = Unit {0}
CanEnd (Mean name steps) ReadFault = Unit {0}
CanEnd (Mean name steps) InputTooLong = Unit {0}
CanEnd (Mean name steps) (Done exit) = Unit {0}
CanEnd (Mean name steps) StackFull = Unit {0}
CanEnd (Mean name steps) (Undefined act at) = Unit {0}
CanEnd (Mean name steps) MoreSteps = Unit {0}
CanEnd (Mean name steps) WriteFault = Unit {0}
CanEnd request outcome = ⊥

-- what an outcome says of the bytes taken, of what is left of the input, and of the bytes written:
-- nothing is taken before the text is read, and nothing written before the input is
abbrev pub Moves : Outcome → (taken : List ℕ) → (left : Option (List ℕ)) → (written : List ℕ)
    → Type 0
Moves NotYetBuilt taken left written = (taken ≡ []) × (written ≡ [])
Moves LoadFault taken left written = (taken ≡ []) × (written ≡ [])
Moves ProgramTooLong taken left written = (taken ≡ []) × (written ≡ [])
Moves (Rejected refused) taken left written = (taken ≡ []) × (written ≡ [])
Moves Fine taken left written = (taken ≡ []) × (written ≡ [])
Moves InputTooLong taken left written = (INPUT_BYTES < length taken) × (written ≡ [])
Moves ReadFault taken left written = written ≡ []
Moves OutOfMemory taken left written = written ≡ []
Moves _ taken left written = IsInput taken left

-- nothing is told
abbrev pub no_figures : Figures
no_figures = record { steps = None; bytes = None }

-- the figures of a run that has written so many bytes
pub record TellsRun (count : ℕ) (told : Figures) : Type 0 where
  pub steps : IsSome told.steps
  pub bytes : told.bytes ≡ Some count

-- those of one whose output has failed: no more bytes than were written
pub record TellsBroken (count : ℕ) (told : Figures) : Type 0 where
  pub steps : IsSome told.steps
  pub bytes : ℕ
  pub told_bytes : told.bytes ≡ Some bytes
  pub most : bytes ≤ count

-- those of a meaning
abbrev pub bytes_alone : ℕ → Figures
bytes_alone count = record { steps = None; bytes = Some count }

-- what is told of a command that has written so many bytes
abbrev pub Tells : Request → Outcome → (count : ℕ) → Figures → Type 0
Tells (Seq name budget) (Done exit) count told = TellsRun count told
Tells (Seq name budget) Budget count told = TellsRun count told
Tells (Seq name budget) (Trapped trap pc) count told = TellsRun count told
Tells (Seq name budget) StackFull count told = TellsRun count told
Tells (Seq name budget) WriteFault count told = TellsBroken count told
Tells (Mean name steps) (Done exit) count told = told ≡ bytes_alone count
Tells (Mean name steps) StackFull count told = told ≡ bytes_alone count
Tells (Mean name steps) (Undefined act at) count told = told ≡ bytes_alone count
Tells (Mean name steps) MoreSteps count told = told ≡ bytes_alone count
Tells (Mean name steps) WriteFault count told = told ≡ bytes_alone 0
Tells request outcome count told = told ≡ no_figures

-- what a command did that has this outcome
pub record Transfers (request : Request) (outcome : Outcome) (told : Figures)
    (taken : List ℕ) (left : Option (List ℕ)) (written : List ℕ) : Type 0 where
  pub can : CanEnd request outcome
  pub moves : Moves outcome taken left written
  pub tells : Tells request outcome (length written) told
