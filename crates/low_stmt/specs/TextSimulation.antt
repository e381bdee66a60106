-- The program of a text does what the text means.
use Rattle.std.specs.Prelude.{◌≡◌, ℕ, ◌+◌, ◌*◌, ◌^◌, ◌<◌, ◌≤◌, List, length, Option, All}
use Rattle.bop_bits.specs.declared.map.TheConstants.{CODE_WORDS}
use Rattle.rv_code.specs.declared.program.Program.{Program}
use Rattle.rv_code.specs.declared.stop.Stop.TheVariants as stop
use Rattle.rv_code.specs.State.{State, Running, Stopped}
use Rattle.rv_code.specs.SequentialRun.{seq}
use Rattle.c_tree.specs.Arithmetic.{signed}
use Rattle.c_tree.specs.Declarators.{count_of}
use Rattle.c_tree.specs.Item.{Item}
use Rattle.c_semantics.specs.Run.{Ended, Goes, StackFull, More, Undef}
use Rattle.c_semantics.specs.Meaning.{Meaning, Done, StackFull', More', Undefined', meant, run_of}
use Rattle.low_labels.specs.Placed.{HasAt}
use Rattle.low_stmt.specs.TextCode.{text_code}
use Rattle.low_stmt.specs.TextProgram.{program_with}

-- Where the meaning with n steps comes to an end, the machine from its start comes to the same, by
-- 1 to 256 instructions for each of the steps that were counted; of what comes after an undefined
-- act nothing is said.
abbrev pub ComesTo : Program → (input : List ℕ) → (n : ℕ) → Ended (Option ℕ) → Type 0
ComesTo program input n (Goes v store left) =
    (j : ℕ) × (s : State) × (n ≤ j + left) × (j + 256 * left ≤ 256 * n)
    × (seq program input j ≡ Stopped s (stop.Exit (signed (count_of v))))
    × (s.output ≡ store.output)
ComesTo program input n (StackFull output) =
    (j : ℕ) × (s : State) × (j ≤ 256 * n) × (seq program input j ≡ Stopped s stop.StackFull)
    × (s.output ≡ output)
ComesTo program input n (More output) =
    (j : ℕ) × (s : State) × (n ≤ j) × (j ≤ 256 * n) × (seq program input j ≡ Running s)
    × (s.output ≡ output)
ComesTo program input n (Undef output act at) = Unit {0}

-- Whatever words have the code of the text, and whatever the input, this holds at each moment,
-- since the number of steps is any.
abbrev pub IsSimulatedText : List Item → Type 0
IsSimulatedText text =
    (code input : List ℕ) (labels : ℕ → ℕ) → length code ≤ CODE_WORDS → All (λ b. b < 2 ^ 8) input
    → HasAt code labels 0 (text_code text) → (n : ℕ)
    → ComesTo (program_with code labels text) input n (run_of text input n)

-- The same by what the text means within n steps: the machine exits with its value, or stops since
-- the stack has no room, in at most 256 n steps; or it still runs after n to 256 n steps. What it
-- has put out by then is the meaning's output.
abbrev pub DoesAs : Program → (input : List ℕ) → (n : ℕ) → Meaning → Type 0
DoesAs program input n (Done output exit) =
    (j : ℕ) × (s : State) × (j ≤ 256 * n) × (seq program input j ≡ Stopped s (stop.Exit exit))
    × (s.output ≡ output)
DoesAs program input n (StackFull' output) =
    (j : ℕ) × (s : State) × (j ≤ 256 * n) × (seq program input j ≡ Stopped s stop.StackFull)
    × (s.output ≡ output)
DoesAs program input n (More' output) =
    (j : ℕ) × (s : State) × (n ≤ j) × (j ≤ 256 * n) × (seq program input j ≡ Running s)
    × (s.output ≡ output)
DoesAs program input n (Undefined' output act at) = Unit {0}

abbrev pub DoesWhatIsMeant : List Item → Type 0
DoesWhatIsMeant text =
    (code input : List ℕ) (labels : ℕ → ℕ) → length code ≤ CODE_WORDS → All (λ b. b < 2 ^ 8) input
    → HasAt code labels 0 (text_code text) → (n : ℕ)
    → DoesAs (program_with code labels text) input n (meant text input n)
