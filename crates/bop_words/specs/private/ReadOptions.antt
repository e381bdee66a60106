-- Options read so far.
use Rattle.bop_words.specs.CommandTable.{Refused, need}
use Rattle.bop_words.specs.OptionTable.{Absent, Number, AreOnce, Given, IsName, Value, found, row_of, spelled}
use Rattle.bop_words.specs.WordRequests.{AskNothing, IsRequest, IsRight, optional_name, presence, program_words, request_of}
use Rattle.bop_words.specs.declared.command.Command.{Command}
use Rattle.bop_words.specs.declared.command.Command.TheVariants as command
use Rattle.bop_words.specs.declared.option_name.OptionName.{OptionName}
use Rattle.bop_words.specs.declared.option_name.OptionName.TheVariants.{Workers, Group, Budget, Journal, Confirm, Seed, Regions, Schedule}
use Rattle.bop_words.specs.declared.options.Options.{Options}
use Rattle.bop_words.specs.declared.request.Request.{Request as RequestOfWords}
use Rattle.bop_words.specs.declared.request.WordFault.{WordFault}
use Rattle.bop_words.specs.declared.request.WordFault.TheVariants as fault
use Rattle.std.specs.Prelude.{◌≡◌, ◌≢◌, ℕ, List, [], ◌∷◌, ◌++◌, if◌then◌else◌, Bool, true, false, Option, None, Some, IfSome, Result, Ok, Err, option_copied}
use Rattle.std.specs.List.{All}
use Rattle.std.specs.Str.{bytes_eq}

abbrev pub optional_number : Option ℕ → Value
optional_number None = Absent
optional_number (Some number) = Number number

-- the values of the options that were read
abbrev pub values_of : Options → OptionName → Value
values_of options Workers = optional_number options.workers
values_of options Group = optional_number options.group
values_of options Budget = optional_number options.budget
values_of options Journal = optional_name (option_copied options.journal)
values_of options Confirm = presence options.confirm
values_of options Seed = optional_number options.seed
values_of options Regions = optional_number options.regions
values_of options Schedule = optional_name (option_copied options.schedule)

-- a command takes the option
abbrev pub Takes : Command → OptionName → Type 0
Takes command option = need command option ≢ Refused

-- these are options of a command
pub record AreOptions (command : Command) (given : List Given) : Type 0 where
  pub right : All IsRight given
  pub once : AreOnce given
  pub taken : All (λ g. Takes command g.option) given

-- of these words the options of a command were read, with these values, up to the rest
pub record IsReadUpTo (command : Command) (words rest : List (List ℕ)) (values : OptionName → Value) : Type 0 where
  pub given : List Given
  pub written : words ≡ spelled given ++ rest
  pub options : AreOptions command given
  pub agree : (option : OptionName) → found given option ≡ values option

-- these words aren't options of the command
abbrev pub AreNoOptions : Command → List (List ℕ) → Type 0
AreNoOptions command words = (given : List Given) → words ≡ spelled given → AreOptions command given → ⊥

-- the values with that of one option more
abbrev pub with_value : (OptionName → Value) → OptionName → Value → OptionName → Value
with_value values name value option =
    if bytes_eq (row_of name).name (row_of option).name then value else values option

-- one option more is read, of what stands behind its name, up to the rest
pub record ReadsOne (name : OptionName) (behind rest : List (List ℕ)) (old new : OptionName → Value) : Type 0 where
  pub words : List (List ℕ)
  pub value : Value
  pub written : behind ≡ words ++ rest
  pub right : IsRight (record { option = name; behind = words; value = value })
  pub agree : (option : OptionName) → new option ≡ with_value old name value option

-- what stands behind its name gives the option no value
abbrev pub GivesNoValue : OptionName → List (List ℕ) → Type 0
GivesNoValue name behind =
    (words rest : List (List ℕ)) (value : Value) → behind ≡ words ++ rest
    → IsRight (record { option = name; behind = words; value = value }) → ⊥

-- the options with one more, of which this word is the value
abbrev pub IsWith : (old new : Options) (word : List ℕ) (name : OptionName) → Type 0
IsWith old new word name =
    (value : Value) × IsRight (record { option = name; behind = word ∷ []; value = value })
    × ((option : OptionName) → values_of new option ≡ with_value (values_of old) name value option)

-- a command with the name of a file
abbrev pub has_file : Command → Bool
has_file command.Demo = false
has_file command.Source = false
has_file _ = true

-- the words behind that of the command are the name of a file, where the command has one, and
-- options with these values
pub record AreRead (command : Command) (words : List (List ℕ)) (program : Option (List ℕ)) (values : OptionName → Value) : Type 0 where
  pub options : List (List ℕ)
  pub written : words ≡ program_words program ++ options
  pub named : IfSome program IsName
  pub read : IsReadUpTo command options [] values

-- what is answered to these words
abbrev pub Answers : List (List ℕ) → Result RequestOfWords WordFault → Type 0
Answers words (Ok request) = IsRequest words (request_of request)
Answers words (Err fault.BadWords) = AskNothing words
Answers words (Err fault.OutOfMemory) = AskNothing words → ⊥
