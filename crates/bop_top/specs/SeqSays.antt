-- What the outcome of a sequential run says.
use Rattle.std.specs.Prelude.{◌≡◌, ◌≤◌, ℕ, List, Option, Some, None, Result, Ok, Err}
use Rattle.byte_lists.specs.Prefix.{IsPrefix}
use Rattle.rv_code.specs.declared.stop.Stop.{Stop}
use Rattle.rv_code.specs.declared.stop.Stop.TheVariants as stop
use Rattle.rv_code.specs.State.{Machine, state_of, stop_of, output_of}
use Rattle.rv_code.specs.SequentialRun.{seq}
use Rattle.c_tree.specs.Item.{Item}
use Rattle.low_stmt.specs.TextProgram.{program_of}
use Rattle.low_link.specs.Front.{IsSource}
use Rattle.low_link.specs.SourceSimulation.{IsSimulated}
use Rattle.bop_top.specs.declared.outcome.Outcome.{Outcome}
use Rattle.bop_top.specs.declared.outcome.Outcome.TheVariants.{Done, Budget, Trapped, StackFull, WriteFault}
use Rattle.bop_top.specs.TextSays.{OfText, FileSays}

-- how many steps a machine has taken
abbrev pub count_of : Machine → ℕ
count_of m = (state_of m).count

-- The file's text is a source, whose program does what is meant by it; and P holds of the machine
-- that runs the program on these bytes, after any number of steps.
abbrev pub Ran : (budget : ℕ) → (file : Option (List ℕ)) → (taken : List ℕ)
    → ((ℕ → Machine) → Type 0) → Type 0
Ran budget file taken P = OfText file (λ text. (ps : List Item) × IsSource text ps
    × IsSimulated ps taken budget × P (seq (program_of ps) taken))

-- After as many steps as the budget has, the machine has stopped so, or not; what it has put out was
-- written, and its steps are told.
pub record HasRun (budget : ℕ) (how : Option Stop) (written : List ℕ) (steps : Option ℕ)
    (machine : ℕ → Machine) : Type 0 where
  pub stop : stop_of (machine budget) ≡ how
  pub whole : written ≡ output_of (machine budget)
  pub told : steps ≡ Some (count_of (machine budget))

-- a prefix of it was written, and the steps are told that the machine had taken by then
pub record HasBroken (budget : ℕ) (written : List ℕ) (steps : Option ℕ)
    (machine : ℕ → Machine) : Type 0 where
  pub part : IsPrefix written (output_of (machine budget))
  pub taken : ℕ
  pub within : taken ≤ budget
  pub told : steps ≡ Some (count_of (machine taken))

-- what the outcome says of the program's file, where these bytes were taken and written and these
-- steps are told
abbrev pub SeqSays : (budget : ℕ) → Outcome → (steps : Option ℕ) → (file : Option (List ℕ))
    → (taken written : List ℕ) → Type 0
SeqSays budget (Done exit) steps file taken written =
    Ran budget file taken (HasRun budget (Some (stop.Exit exit)) written steps)
SeqSays budget StackFull steps file taken written =
    Ran budget file taken (HasRun budget (Some stop.StackFull) written steps)
SeqSays budget (Trapped trap pc) steps file taken written =
    Ran budget file taken (HasRun budget (Some (stop.Trap trap pc)) written steps)
SeqSays budget Budget steps file taken written =
    Ran budget file taken (HasRun budget None written steps)
SeqSays budget WriteFault steps file taken written =
    Ran budget file taken (HasBroken budget written steps)
SeqSays budget outcome steps file taken written = FileSays outcome file

-- how a run ends whose machine has stopped so, or not
abbrev pub stop_outcome : Option Stop → Outcome
stop_outcome None = Budget
stop_outcome (Some (stop.Exit exit)) = Done exit
stop_outcome (Some stop.StackFull) = StackFull
stop_outcome (Some (stop.Trap trap pc)) = Trapped trap pc

-- and where its output has failed
abbrev pub run_outcome : {E : Type 0} → Result (Unit {0}) E → Option Stop → Outcome
run_outcome (Ok x) how = stop_outcome how
run_outcome (Err e) how = WriteFault
