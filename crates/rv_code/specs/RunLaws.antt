-- Laws of runs.
use Rattle.std.specs.Prelude.{◌≡◌, ℕ, ◌+◌, ◌≤◌, List, IsSome}
use Rattle.byte_lists.specs.Prefix.{IsPrefix}
use Rattle.rv_code.specs.declared.program.Program.{Program}
use Rattle.rv_code.specs.State.{stop_of, output_of}
use Rattle.rv_code.specs.SequentialRun.{run, seq}

-- some steps and then some more are the sum of both
abbrev pub RunsAdd : Type 0
RunsAdd = (program : Program) (input : List ℕ) (j k : ℕ)
    → seq program input (j + k) ≡ run program.code input k (seq program input j)

-- a machine that has stopped stays as it is
abbrev pub StoppedStays : Type 0
StoppedStays = (program : Program) (input : List ℕ) (k n : ℕ) → k ≤ n
    → IsSome (stop_of (seq program input k)) → seq program input n ≡ seq program input k

-- the output after some steps is a prefix of the output after more
abbrev pub OutputGrows : Type 0
OutputGrows = (program : Program) (input : List ℕ) (k n : ℕ) → k ≤ n
    → IsPrefix (output_of (seq program input k)) (output_of (seq program input n))
