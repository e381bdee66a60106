-- The commands: a word each, and what each says of the options.
use Rattle.bop_words.specs.OptionTable.{Absent, Number, Value}
use Rattle.bop_words.specs.declared.command.Command.{Command}
use Rattle.bop_words.specs.declared.command.Command.TheVariants.{Run, Demo, Seq, Mean, Check, Replay, Source}
use Rattle.bop_words.specs.declared.option_name.OptionName.{OptionName}
use Rattle.bop_words.specs.declared.option_name.OptionName.TheVariants.{Workers, Group, Budget, Journal, Confirm, Seed, Regions, Schedule}
use Rattle.bop_words.specs.declared.limits.TheConstants.{USUAL_BUDGET, USUAL_GROUP, USUAL_WORKERS}
use Rattle.std.specs.Prelude.{◌≡◌, ◌≢◌, ℕ, List, codes}

abbrev pub word_of : Command → List ℕ
word_of Run = codes "run"
word_of Demo = codes "demo"
word_of Seq = codes "seq"
word_of Mean = codes "mean"
word_of Check = codes "check"
word_of Replay = codes "replay"
word_of Source = codes "source"

-- an option of a command is one that it doesn't take, one that must be given, one that may be given,
-- or one that may be given and else is this number
pub data Need : Type 0 where
  Refused : Need
  Required : Need
  Optional : Need
  Usually : ℕ → Need

abbrev pub need : Command → OptionName → Need
need Run Workers = Usually USUAL_WORKERS
need Run Group = Usually USUAL_GROUP
need Run Budget = Usually USUAL_BUDGET
need Run Journal = Optional
need Run Confirm = Optional
need Demo Seed = Required
need Demo Regions = Required
need Demo Workers = Usually USUAL_WORKERS
need Demo Group = Usually USUAL_GROUP
need Demo Budget = Usually USUAL_BUDGET
need Seq Budget = Usually USUAL_BUDGET
need Mean Budget = Usually USUAL_BUDGET
need Replay Schedule = Required
need Replay Group = Usually USUAL_GROUP
need Replay Budget = Usually USUAL_BUDGET
need Source Seed = Required
need Source Regions = Required
need _ _ = Refused

-- an option with this need stands for this value, where it was found with that one
abbrev pub StandsFor : Need → (found value : Value) → Type 0
StandsFor Refused found value = (found ≡ Absent) × (value ≡ Absent)
StandsFor Required found value = (found ≢ Absent) × (value ≡ found)
StandsFor Optional found value = value ≡ found
StandsFor (Usually usual) Absent value = value ≡ Number usual
StandsFor (Usually usual) found value = value ≡ found
