-- A state in place, as a machine of the definition.
use Rattle.std.specs.Prelude.{ℕ, List, Option, Some, None}
use Rattle.rv_code.specs.declared.stop.Stop.{Stop}
use Rattle.rv_code.specs.State as machine
use Rattle.rv_code.specs.State.{Machine, Running, Stopped}
use Rattle.rv_step.specs.declared.state.State.{State}
use Rattle.rv_step.specs.Stepping.{state_of}

abbrev pub stopped_by : Option Stop → machine.State → Machine
stopped_by None s = Running s
stopped_by (Some how) s = Stopped s how

-- the machine that a state is, where it has put out these bytes
abbrev pub machine_of : State → (output : List ℕ) → Machine
machine_of state output =
    stopped_by state.stop
    (state_of (record { cpu = state.cpu; image = state.image }) state.count output)
