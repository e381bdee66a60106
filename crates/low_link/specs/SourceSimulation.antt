-- What the run of a text's program has to do with what the text means.
use Rattle.std.specs.Prelude.{◌≡◌, ℕ, ◌*◌, ◌≤◌, List, Option, Some, None}
use Rattle.byte_lists.specs.Prefix.{IsPrefix}
use Rattle.rv_code.specs.declared.stop.Stop.{Stop}
use Rattle.rv_code.specs.declared.stop.Stop.TheVariants as stop
use Rattle.rv_code.specs.State.{Machine, stop_of, output_of}
use Rattle.rv_code.specs.SequentialRun.{seq}
use Rattle.c_tree.specs.Erase.{erased_text}
use Rattle.c_tree.specs.Item.{Item}
use Rattle.c_semantics.specs.Meaning.{Meaning, Done, StackFull', Undefined', meant}
use Rattle.c_semantics.specs.Outcome as told
use Rattle.low_stmt.specs.TextProgram.{program_of}

-- it has no undefined act
abbrev pub IsDefined : Meaning → Type 0
IsDefined (Undefined' output act at) = ⊥
IsDefined _ = Unit {0}

-- A machine that has exited has put out all that is meant, and that with its value; one that found no
-- room on the stack is meant to; and none has trapped.
abbrev pub StopsAs : Option Stop → (output : List ℕ) → Meaning → Type 0
StopsAs None output m = Unit {0}
StopsAs (Some (stop.Exit exit)) output m = m ≡ Done output exit
StopsAs (Some stop.StackFull) output m = m ≡ StackFull' output
StopsAs (Some (stop.Trap trap pc)) output m = ⊥

-- a machine does what is meant, as far as it has come
pub record DoesAsMeant (machine : Machine) (m : Meaning) : Type 0 where
  pub output : IsPrefix (output_of machine) (told.output_of m)
  pub stops : StopsAs (stop_of machine) (output_of machine) m

-- a machine has come to the end that is meant
abbrev pub HasEnded : Machine → Meaning → Type 0
HasEnded machine (Done output exit) =
    (stop_of machine ≡ Some (stop.Exit exit)) × (output_of machine ≡ output)
HasEnded machine (StackFull' output) =
    (stop_of machine ≡ Some stop.StackFull) × (output_of machine ≡ output)
HasEnded machine _ = Unit {0}

-- Of the program of a text on an input, within a budget, where each marker is the empty statement:
-- without an undefined act within so many steps of the meaning, the machine does what is meant; and
-- an end that is meant within some steps comes by 256 instructions for each.
pub record IsSimulated (ps : List Item) (input : List ℕ) (budget : ℕ) : Type 0 where
  pub sound : (let m = meant (erased_text ps) input budget in
      IsDefined m → DoesAsMeant (seq (program_of ps) input budget) m)
  pub complete : (n : ℕ) → 256 * n ≤ budget
      → HasEnded (seq (program_of ps) input budget) (meant (erased_text ps) input n)
