-- What has become of a run in place.
use Rattle.std.specs.Prelude.{◌≡◌, ◌≤◌, ℕ, List, Option, Result, OnOk, OnErr, length}
use Rattle.std.specs.Io.KnownBytes.{Appends}
use Rattle.byte_lists.specs.Prefix.{IsPrefix}
use Rattle.rv_code.specs.declared.program.Program.{Program}
use Rattle.rv_code.specs.SequentialRun.{seq}
use Rattle.rv_step.specs.declared.state.State.{State}
use Rattle.rv_step.specs.InPlace.{machine_of}
use Rattle.bop_top.specs.declared.run.RunResult.{RunResult}

-- Bytes were written; the state is that of the machine after so many steps, which has put out all of
-- them: just these where no append has failed, and then it has come to the end of its budget.
pub record HasPassed (program : Program) (input : List ℕ) (budget : ℕ) (state : State) (run : RunResult)
    (old new : Option (List ℕ)) : Type 0 where
  pub written : List ℕ
  pub output : List ℕ
  pub writes : Appends old new written
  pub stands : machine_of state output ≡ seq program input state.count
  pub within : state.count ≤ budget
  pub over : OnOk run.end (seq program input budget ≡ seq program input state.count)
  pub whole : OnOk run.end ((written ≡ output) × (run.bytes ≡ length written))
  pub part : OnErr run.end (IsPrefix written output × (run.bytes ≤ length written))
