-- A valid record: its end, stop and output are what its steps give from its start, and its log is
-- that of these steps. What a record holds besides can't be known from it.
use Rattle.std.specs.Prelude.{◌≡◌, ℕ, ◌≤◌, ◌||◌, Bool, true, false, List, [], length, Option, Some, None, is_some}
use Rattle.std.specs.Option.{ForSome}
use Rattle.bop_bits.specs.BitSets.{is_in}
use Rattle.bop_bits.specs.Pages.{page_of}
use Rattle.bop_bits.specs.declared.class.Classes.{Classes}
use Rattle.bop_bits.specs.declared.map.TheConstants.{MEMORY_BYTES}
use Rattle.access_log.specs.declared.log.Log.{Log}
use Rattle.access_log.specs.declared.spot.Spot.{Spot}
use Rattle.access_log.specs.declared.spot.Spot.TheVariants.{Register, Cursor, Byte}
use Rattle.access_log.specs.Held.{has}
use Rattle.access_log.specs.Things.{IsSpot, shared_by}
use Rattle.rv_code.specs.declared.stop.Stop.{Stop}
use Rattle.rv_code.specs.State.{State, Machine, Running}
use Rattle.rv_code.specs.SequentialRun.{run}
use Rattle.rv_step.specs.Footprint.{content}
use Rattle.rv_step.specs.InPlace.{stopped_by}
use Rattle.rv_step.specs.Replay.{NoneStopped, Replays}
use Rattle.rv_step.specs.RunThings.{first, wrote, wrote_from}
use Rattle.rv_step.specs.Stepping.{Core, state_of}

-- the machine at a start, which counts its own steps and its own output
abbrev pub machine_at : Core → Machine
machine_at start = Running (state_of start 0 [])

-- a byte of a page that was installed after the fork
abbrev pub is_late : Option ℕ → (late : List ℕ) → Spot → Bool
is_late (Some fork) late (Byte at) = is_in late (page_of at)
is_late (Some fork) late (Register r) = false
is_late (Some fork) late Cursor = false
is_late None late x = false

-- the log of some steps from a machine, by the classes of the pages
pub record IsLogOf (classes : Classes) (code input : List ℕ) (m : Machine) (steps : ℕ) (fork : Option ℕ) (late : List ℕ) (log : Log) : Type 0 where
  pub classes_are : log.classes ≡ classes
  pub forked : log.forked ≡ is_some fork
  pub first_is : (x : Spot) → IsSpot x
      → has log.first x ≡ first (shared_by classes) code input m steps x
  pub wrote_is : (x : Spot) → IsSpot x
      → has log.wrote x ≡ wrote (shared_by classes) code input m steps x
  pub after_fork_is : (x : Spot) → IsSpot x
      → has log.after_fork x
      ≡ (wrote_from (shared_by classes) fork code input m steps x || is_late fork late x)

pub record IsValid (classes : Classes) (code input : List ℕ) (start end : Core) (steps : ℕ) (stop : Option Stop) (output : List ℕ) (log : Log) (fork : Option ℕ) (late : List ℕ) : Type 0 where
  pub going : NoneStopped code input (machine_at start) steps
  pub end_is : run code input steps (machine_at start) ≡ stopped_by stop (state_of end steps output)
  pub fork_is : ForSome fork (λ f. f ≤ steps)
  pub log_is : IsLogOf classes code input (machine_at start) steps fork late log

-- a state with 32 registers and the whole memory
pub record IsWhole (s : State) : Type 0 where
  pub registers : length s.registers ≡ 32
  pub memory : length s.memory ≡ MEMORY_BYTES

-- a true state agrees with a record's start: in the pc, and in what its log says it first touched
pub record AgreesWith (start t : State) (log : Log) : Type 0 where
  pub pc : start.pc ≡ t.pc
  pub at : (x : Spot) → IsSpot x → has log.first x ≡ true → content start x ≡ content t x

-- the replay law of a valid record
abbrev pub RecordsReplay : Type 0
RecordsReplay = (classes : Classes) (code input : List ℕ) (start end : Core) (steps : ℕ)
    (stop : Option Stop) (output : List ℕ) (log : Log) (fork : Option ℕ) (late : List ℕ) (t : State)
    → IsValid classes code input start end steps stop output log fork late
    → IsWhole (state_of start 0 []) → IsWhole t → AgreesWith (state_of start 0 []) t log
    → Replays (shared_by classes) code input (state_of start 0 []) t steps output
