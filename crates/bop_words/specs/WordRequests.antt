-- What the words of the command line ask for.
use Rattle.bop_words.specs.CommandTable.{StandsFor, need, word_of}
use Rattle.bop_words.specs.OptionTable.{Absent, Named, Number, Present, AreOnce, Given, IsName, IsWritten, Value, found, row_of, spelled}
use Rattle.bop_words.specs.declared.command.Command.{Command}
use Rattle.bop_words.specs.declared.command.Command.TheVariants as command
use Rattle.bop_words.specs.declared.option_name.OptionName.{OptionName}
use Rattle.bop_words.specs.declared.option_name.OptionName.TheVariants.{Workers, Group, Budget, Journal, Confirm, Seed, Regions, Schedule}
use Rattle.bop_words.specs.declared.request.Chosen.{Chosen as ChosenText}
use Rattle.bop_words.specs.declared.request.Chosen.TheVariants as chosen
use Rattle.bop_words.specs.declared.request.PlainRequest.{PlainRequest}
use Rattle.bop_words.specs.declared.request.PlainRequest.TheVariants as plain
use Rattle.bop_words.specs.declared.request.Request.{Request as RequestOfWords}
use Rattle.bop_words.specs.declared.request.Request.TheVariants as code
use Rattle.std.specs.Prelude.{◌≡◌, ℕ, Bool, true, false, List, [], ◌∷◌, ◌++◌, Option, None, Some, IfSome, option_map, string_bytes}
use Rattle.std.specs.List.{All}

-- the text of a race: that of a file, or the one that is made of a seed and so many regions
pub data Chosen : Type 0 where
  File : (name : List ℕ) → Chosen
  Made : (seed regions : ℕ) → Chosen

pub data Request : Type 0 where
  Race : (program : Chosen) (workers group budget : ℕ) (journal : Option (List ℕ)) (confirm : Bool) → Request
  Seq : (program : List ℕ) (budget : ℕ) → Request
  Mean : (program : List ℕ) (budget : ℕ) → Request
  Check : (program : List ℕ) → Request
  Replay : (program schedule : List ℕ) (group budget : ℕ) → Request
  Text : (seed regions : ℕ) → Request

abbrev pub command_for : Request → Command
command_for (Race (File name) workers group budget journal confirm) = command.Run
command_for (Race (Made seed regions) workers group budget journal confirm) = command.Demo
command_for (Seq program budget) = command.Seq
command_for (Mean program budget) = command.Mean
command_for (Check program) = command.Check
command_for (Replay program schedule group budget) = command.Replay
command_for (Text seed regions) = command.Source

-- the file of the program, where the request has one
abbrev pub program_of : Request → Option (List ℕ)
program_of (Race (File name) workers group budget journal confirm) = Some name
program_of (Seq program budget) = Some program
program_of (Mean program budget) = Some program
program_of (Check program) = Some program
program_of (Replay program schedule group budget) = Some program
program_of _ = None

abbrev pub program_words : Option (List ℕ) → List (List ℕ)
program_words None = []
program_words (Some name) = name ∷ []

abbrev pub optional_name : Option (List ℕ) → Value
optional_name None = Absent
optional_name (Some name) = Named name

abbrev pub presence : Bool → Value
presence false = Absent
presence true = Present

-- the seed and the number of regions of a text that is made
abbrev pub made_of : Chosen → OptionName → Value
made_of (Made seed regions) Seed = Number seed
made_of (Made seed regions) Regions = Number regions
made_of _ _ = Absent

-- what each option stands for in a request
abbrev pub value_of : Request → OptionName → Value
value_of (Race program workers group budget journal confirm) Workers = Number workers
value_of (Race program workers group budget journal confirm) Group = Number group
value_of (Race program workers group budget journal confirm) Budget = Number budget
value_of (Race program workers group budget journal confirm) Journal = optional_name journal
value_of (Race program workers group budget journal confirm) Confirm = presence confirm
value_of (Race program workers group budget journal confirm) option = made_of program option
value_of (Seq program budget) Budget = Number budget
value_of (Mean program budget) Budget = Number budget
value_of (Replay program schedule group budget) Schedule = Named schedule
value_of (Replay program schedule group budget) Group = Number group
value_of (Replay program schedule group budget) Budget = Number budget
value_of (Text seed regions) Seed = Number seed
value_of (Text seed regions) Regions = Number regions
value_of _ _ = Absent

-- the request of the code
abbrev pub chosen_of : ChosenText → Chosen
chosen_of (chosen.File name) = File (string_bytes name)
chosen_of (chosen.Made seed regions) = Made seed regions

abbrev pub request_of : RequestOfWords → Request
request_of (code.Race race) =
    Race (chosen_of race.program) race.workers race.group race.budget
    (option_map string_bytes race.journal) race.confirm
request_of (code.Plain (plain.Seq program budget)) = Seq (string_bytes program) budget
request_of (code.Plain (plain.Mean program budget)) = Mean (string_bytes program) budget
request_of (code.Plain (plain.Check program)) = Check (string_bytes program)
request_of (code.Plain (plain.Replay program schedule group budget)) =
    Replay (string_bytes program) (string_bytes schedule) group budget
request_of (code.Plain (plain.Text seed regions)) = Text seed regions

-- an option is given as its row says
abbrev pub IsRight : Given → Type 0
IsRight given = IsWritten (row_of given.option).kind given.behind given.value

-- the words ask for this: the word of the command, the name of the program where it has one, and
-- options in any order, each at most once
pub record IsRequest (words : List (List ℕ)) (request : Request) : Type 0 where
  pub given : List Given
  pub written : words
      ≡ word_of (command_for request) ∷ (program_words (program_of request) ++ spelled given)
  pub program : IfSome (program_of request) IsName
  pub right : All IsRight given
  pub once : AreOnce given
  pub options : (option : OptionName)
      → StandsFor (need (command_for request) option) (found given option) (value_of request option)

-- they ask for nothing
abbrev pub AskNothing : List (List ℕ) → Type 0
AskNothing words = (request : Request) → IsRequest words request → ⊥
