-- The options: a row each, and how one is given.
use Rattle.bop_words.specs.declared.option_name.OptionName.{OptionName}
use Rattle.bop_words.specs.declared.option_name.OptionName.TheVariants.{Workers, Group, Budget, Journal, Confirm, Seed, Regions, Schedule}
use Rattle.bop_words.specs.declared.limits.TheConstants.{NUMBER_DIGITS, REGIONS_LIMIT, WORKERS_LIMIT}
use Rattle.rv_step.specs.declared.limits.TheConstants.{BUDGET_LIMIT, GROUP_LIMIT}
use Rattle.std.specs.Prelude.{◌≡◌, ◌≢◌, ◌≤◌, ℕ, List, [], ◌∷◌, ◌++◌, if◌then◌else◌, length, codes, slice_index}
use Rattle.std.specs.Char.{IsAsciiDigit}
use Rattle.std.specs.List.{All}
use Rattle.std.specs.Str.{bytes_eq}
use Rattle.std.specs.Str.Parse.{digits_value}

-- what stands behind the name of an option: a number in a range, a name, or nothing
pub data Kind : Type 0 where
  Within : (least most : ℕ) → Kind
  AnyName : Kind
  Alone : Kind

pub record Row : Type 0 where
  pub name : List ℕ
  pub kind : Kind

abbrev pub row : List ℕ → Kind → Row
row name kind = record { name = name; kind = kind }

abbrev pub row_of : OptionName → Row
row_of Workers = row (codes "--workers") (Within 1 WORKERS_LIMIT)
row_of Group = row (codes "--group") (Within 1 GROUP_LIMIT)
row_of Budget = row (codes "--budget") (Within 1 BUDGET_LIMIT)
row_of Journal = row (codes "--journal") AnyName
row_of Confirm = row (codes "--confirm") Alone
row_of Seed = row (codes "--seed") (Within 0 4294967295)
row_of Regions = row (codes "--regions") (Within 1 REGIONS_LIMIT)
row_of Schedule = row (codes "--schedule") AnyName

-- a name isn't empty, and doesn't begin with `-`
abbrev pub IsName : List ℕ → Type 0
IsName name = (name ≢ []) × (slice_index name 0 ≢ 45)

-- a number in decimal digits, of which the first may be zeros
pub record IsNumber (least most : ℕ) (digits : List ℕ) (number : ℕ) : Type 0 where
  pub digit : All IsAsciiDigit digits
  pub some : 1 ≤ length digits
  pub few : length digits ≤ NUMBER_DIGITS
  pub value : number ≡ digits_value 10 digits
  pub above : least ≤ number
  pub below : number ≤ most

-- what an option stands for: nothing, where it isn't given; a number; a name; that it is given
pub data Value : Type 0 where
  Absent : Value
  Number : ℕ → Value
  Named : List ℕ → Value
  Present : Value

-- the words behind the name of an option of this kind give it this value
abbrev pub IsWritten : Kind → List (List ℕ) → Value → Type 0
IsWritten (Within least most) (word ∷ []) (Number number) = IsNumber least most word number
IsWritten AnyName (word ∷ []) (Named name) = (word ≡ name) × IsName name
IsWritten Alone [] Present = Unit {0}
IsWritten _ _ _ = ⊥

-- an option that is given, with the words behind its name and the value that they give
pub record Given : Type 0 where
  pub option : OptionName
  pub behind : List (List ℕ)
  pub value : Value

-- the words of the options that are given
abbrev pub spelled : List Given → List (List ℕ)
spelled [] = []
spelled (given ∷ others) =
    (row_of given.option).name ∷ (given.behind ++ spelled others)

-- the value of an option among those that are given
abbrev pub found : List Given → OptionName → Value
found [] option = Absent
found (given ∷ others) option =
    if bytes_eq (row_of given.option).name (row_of option).name then given.value
    else found others option

-- each is given at most once
abbrev pub AreOnce : List Given → Type 0
AreOnce [] = Unit {0}
AreOnce (given ∷ others) = (found others given.option ≡ Absent) × AreOnce others
