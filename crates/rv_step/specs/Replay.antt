-- Agreement, merge, and the replay law.
use Rattle.std.specs.Prelude.{◌≡◌, ℕ, ◌+◌, ◌<◌, Bool, true, List, ◌++◌, length, None, if◌then◌else◌}
use Rattle.access_log.specs.declared.spot.Spot.{Spot}
use Rattle.rv_code.specs.State.{State, Machine, Running, state_of, stop_of, output_of}
use Rattle.rv_code.specs.SequentialRun.{run}
use Rattle.rv_step.specs.Footprint.{content}
use Rattle.rv_step.specs.RunThings.{first, wrote}

-- two states have one pc, as many registers and bytes, and agree in these things
pub record Agree (s t : State) (things : Spot → Bool) : Type 0 where
  pub pc : s.pc ≡ t.pc
  pub registers : length s.registers ≡ length t.registers
  pub memory : length s.memory ≡ length t.memory
  pub at : (x : Spot) → things x ≡ true → content s x ≡ content t x

-- a machine is a state with the written things taken from another's end, with its pc and stop, so
-- many steps later, and with these bytes more put out
pub record IsMerge (t : State) (end : Machine) (written : Spot → Bool) (steps : ℕ) (more : List ℕ) (m : Machine) : Type 0 where
  pub pc : (state_of m).pc ≡ (state_of end).pc
  pub stop : stop_of m ≡ stop_of end
  pub count : (state_of m).count ≡ t.count + steps
  pub output : output_of m ≡ t.output ++ more
  pub registers : length (state_of m).registers ≡ length t.registers
  pub memory : length (state_of m).memory ≡ length t.memory
  pub at : (x : Spot) → content (state_of m) x
      ≡ (if written x then content (state_of end) x else content t x)

-- none of the steps begins in a stopped machine
abbrev pub NoneStopped : (code input : List ℕ) → Machine → (steps : ℕ) → Type 0
NoneStopped code input m steps = (j : ℕ) → j < steps → stop_of (run code input j m) ≡ None

-- two runs have one log
pub record SameThings (shared : ℕ → Bool) (code input : List ℕ) (m n : Machine) (steps : ℕ) : Type 0 where
  pub first_same : (x : Spot) → first shared code input m steps x ≡ first shared code input n steps x
  pub wrote_same : (x : Spot) → wrote shared code input m steps x ≡ wrote shared code input n steps x

-- what a run from `start` tells of one from another state
pub record Replays (shared : ℕ → Bool) (code input : List ℕ) (start t : State) (steps : ℕ) (more : List ℕ) : Type 0 where
  pub merge : IsMerge t (run code input steps (Running start))
      (wrote shared code input (Running start) steps) steps more (run code input steps (Running t))
  pub going : NoneStopped code input (Running t) steps
  pub things : SameThings shared code input (Running start) (Running t) steps

-- the replay law: where the true state agrees with a run's start in what the run first touches, the
-- run's steps from the true state give the merge, put out the same bytes, and touch the same things
abbrev pub ReplayLaw : Type 0
ReplayLaw = (shared : ℕ → Bool) (code input : List ℕ) (start t : State) (steps : ℕ) (more : List ℕ)
    → NoneStopped code input (Running start) steps
    → Agree start t (first shared code input (Running start) steps)
    → output_of (run code input steps (Running start)) ≡ start.output ++ more
    → Replays shared code input start t steps more
