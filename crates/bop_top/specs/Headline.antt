-- What the top call promises.
use Rattle.std.specs.Prelude.{◌≡◌, ◌⊎◌, ℕ, Bool, IsTrue, List, [], Option}
use Rattle.std.specs.Io.KnownBytes.{Appends, Consumes}
use Rattle.bop_top.specs.declared.ending.Figures.{Figures}
use Rattle.bop_top.specs.declared.outcome.Outcome.{Outcome}
use Rattle.bop_top.specs.declared.status.Status.{Status}
use Rattle.bop_top.specs.declared.status.Status.TheVariants.{BadWords, OutOfMemory}
use Rattle.bop_words.specs.WordRequests.{Request, Seq, Mean, AskNothing, IsRequest, program_of}
use Rattle.bop_top.specs.BuiltCommands.{file_named}
use Rattle.bop_top.specs.CommandFaults.{Faults, Counts}
use Rattle.bop_top.specs.CommandTransfers.{Transfers, no_figures}
use Rattle.bop_top.specs.MeanSays.{MeanSays}
use Rattle.bop_top.specs.Report.{Reported}
use Rattle.bop_top.specs.SeqSays.{SeqSays}
use Rattle.bop_top.specs.Statuses.{status_of}
use Rattle.bop_top.specs.TextSays.{FileSays}

-- what the outcome of a command says of the program's file
abbrev pub Says : Request → Outcome → Figures → (file : Option (List ℕ)) → (taken written : List ℕ)
    → Type 0
Says (Seq name budget) outcome told file taken written =
    SeqSays budget outcome told.steps file taken written
Says (Mean name steps) outcome told file taken written = MeanSays steps outcome file taken written
Says request outcome told file taken written = FileSays outcome file

-- the ends of a command at one moment: what the shelf, the input and the output tell, and how often
-- each has failed
pub record Ends : Type 0 where
  pub tells : Bool
  pub file : List ℕ → Option (List ℕ)
  pub input : Option (List ℕ)
  pub output : Option (List ℕ)
  pub faults : Faults

-- by what a shelf, an input and an output tell of themselves
module _ {H S K : Type 0} (tells : H → Bool) (file : H → List ℕ → Option (List ℕ))
    (shelf_faults : H → ℕ) (left : S → Option (List ℕ)) (input_faults : S → ℕ)
    (content : K → Option (List ℕ)) (output_faults : K → ℕ) where
  abbrev pub ends_of : H → S → K → Ends
  ends_of shelf input output = record {
    tells = tells shelf;
    file = file shelf;
    input = left input;
    output = content output;
    faults = record {
      shelf = shelf_faults shelf;
      input = input_faults input;
      output = output_faults output;
    };
  }

-- What a command has done, over what its input had and has left and its output held and holds: which
-- bytes it took and wrote and what it tells of that, and what all that says of the file where the
-- shelf tells it.
pub record HasDone (request : Request) (told_file : Type 0) (file : Option (List ℕ))
    (outcome : Outcome) (told : Figures) (input left old new : Option (List ℕ)) : Type 0 where
  pub taken : List ℕ
  pub written : List ℕ
  pub takes : Consumes input left taken
  pub writes : Appends old new written
  pub transfers : Transfers request outcome told taken left written
  pub says : told_file → Says request outcome told file taken written

-- the command of a request has ended with this outcome: what it has done, and which end has failed
pub record Ended (request : Request) (old new : Ends) (outcome : Outcome) (told : Figures)
    : Type 0 where
  pub done : HasDone request (IsTrue old.tells) (file_named old.file (program_of request)) outcome
      told old.input new.input old.output new.output
  pub counts : Counts outcome old.faults new.faults

-- the report at one moment
pub record Reporting : Type 0 where
  pub content : Option (List ℕ)
  pub faults : ℕ

-- why no command is begun: the words ask for nothing, or they ask for something, and there was no
-- memory for the names in them
abbrev pub IsCause : Status → List (List ℕ) → Type 0
IsCause BadWords words = AskNothing words
IsCause OutOfMemory words = AskNothing words → ⊥
IsCause _ words = ⊥

-- the words are turned away, and nothing is done: no byte is taken or written, and no end fails; that
-- is reported
pub record TurnsAway (words : List (List ℕ)) (old new : Ends) (before after : Reporting)
    (final : Status) : Type 0 where
  pub inner : Status
  pub cause : IsCause inner words
  pub takes : Consumes old.input new.input []
  pub writes : Appends old.output new.output []
  pub counts : new.faults ≡ old.faults
  pub reported : Reported inner final no_figures before.content after.content before.faults
      after.faults

-- a request is served: its command has ended, and that is reported
pub record Serves (request : Request) (old new : Ends) (before after : Reporting)
    (final : Status) : Type 0 where
  pub outcome : Outcome
  pub told : Figures
  pub ended : Ended request old new outcome told
  pub reported : Reported (status_of outcome) final told before.content after.content before.faults
      after.faults

-- the words are a request, and it is served
pub record ServesWords (words : List (List ℕ)) (old new : Ends) (before after : Reporting)
    (final : Status) : Type 0 where
  pub request : Request
  pub asked : IsRequest words request
  pub serves : Serves request old new before after final

-- the course of a call: its words are turned away, or what they ask for is served
abbrev pub Course : (words : List (List ℕ)) → (old new : Ends) → (before after : Reporting)
    → (final : Status) → Type 0
Course words old new before after final =
    TurnsAway words old new before after final ⊎ ServesWords words old new before after final
