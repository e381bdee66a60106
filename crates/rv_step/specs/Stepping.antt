-- What a step answers, by the machine of the definition.
use Rattle.std.specs.Prelude.{◌≡◌, ℕ, ◌+◌, List, [], ◌∷◌, ◌++◌}
use Rattle.rv_code.specs.State.{State, Machine, Running, Stopped}
use Rattle.page_image.specs.OwnedBytes.{OwnedBytes}
use Rattle.rv_step.specs.declared.cpu.Cpu.{Cpu}
use Rattle.rv_step.specs.declared.stepped.Stepped.{Stepped}
use Rattle.rv_step.specs.declared.stepped.Stepped.TheVariants.{Plain, Put, Marked, Ended, NoMemory}

-- what a step changes of a state
pub record Core : Type 0 where
  pub cpu : Cpu
  pub image : OwnedBytes

-- the state of the definition
abbrev pub state_of : Core → (count : ℕ) (output : List ℕ) → State
state_of core count output =
    record {
      registers = core.cpu.x;
      pc = core.cpu.pc;
      memory = core.image.bytes;
      cursor = core.cpu.cursor;
      count = count;
      output = output;
    }

-- the machine after a step, by its answer; without memory no step was made
abbrev pub Leads : Stepped → (old new : Core) (count : ℕ) (output : List ℕ) (after : Machine) → Type 0
Leads Plain old new count output after = after ≡ Running (state_of new (count + 1) output)
Leads (Put byte) old new count output after =
    after ≡ Running (state_of new (count + 1) (output ++ byte ∷ []))
Leads (Marked event) old new count output after =
    after ≡ Running (state_of new (count + 1) output)
Leads (Ended how) old new count output after = after ≡ Stopped (state_of new (count + 1) output) how
Leads NoMemory old new count output after = (new.cpu ≡ old.cpu) × (new.image ≡ old.image)
