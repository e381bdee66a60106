-- Laws of runs: they add up, and a machine that has stopped stays.
use Rattle.std.proofs.Common.{◌≡◌, ℕ, zero, suc, ◌+◌, ◌-◌, ◌≤◌, List, refl, sym, ◌∙◌, ap, add-zero, add-suc, add-one, arith}
use Rattle.std.specs.Prelude.{IsSome}
use Rattle.rv_code.specs.declared.program.Program.{Program}
use Rattle.rv_code.specs.declared.stop.Stop.{Stop}
use Rattle.rv_code.specs.State.{State, Machine, Running, Stopped, start, stop_of}
use Rattle.rv_code.specs.Step.{step}
use Rattle.rv_code.specs.SequentialRun.{run, seq}

pub run-zero : (code input : List ℕ) (m : Machine) → run code input 0 m ≡ m
unfolding run
run-zero code input m = refl

pub run-suc : (code input : List ℕ) (k : ℕ) (m : Machine)
    → run code input (suc k) m ≡ step code input (run code input k m)
unfolding run
run-suc code input k m = refl

pub run-one : (code input : List ℕ) (k : ℕ) (m : Machine)
    → run code input (k + 1) m ≡ step code input (run code input k m)
run-one code input k m = rw add-one (run-suc code input k m)

-- some steps, and then some more
pub run-add : (code input : List ℕ) (j k : ℕ) (m : Machine)
    → run code input (j + k) m ≡ run code input k (run code input j m)
run-add code input j zero m = rw add-zero (sym (run-zero code input (run code input j m)))
run-add code input j (suc k) m =
    rw (add-suc, run-suc code input (j + k) m, run-add code input j k m) (sym (run-suc code input k (run code input j m)))

pub run-stopped : (code input : List ℕ) (k : ℕ) (s : State) (how : Stop)
    → run code input k (Stopped s how) ≡ Stopped s how
run-stopped code input zero s how = run-zero code input (Stopped s how)
run-stopped code input (suc k) s how = rw (run-suc code input k (Stopped s how), run-stopped code input k s how) refl

pub seq-zero : (program : Program) (input : List ℕ) → seq program input 0 ≡ Running (start program)
unfolding seq
seq-zero program input = run-zero program.code input (Running (start program))

pub seq-one : (program : Program) (input : List ℕ) (k : ℕ)
    → seq program input (k + 1) ≡ step program.code input (seq program input k)
unfolding seq
seq-one program input k = run-one program.code input k (Running (start program))

pub seq-add : (program : Program) (input : List ℕ) (j k : ℕ)
    → seq program input (j + k) ≡ run program.code input k (seq program input j)
unfolding seq
seq-add program input j k = run-add program.code input j k (Running (start program))

-- what has stopped after k steps is the same after more
pub seq-stopped : (program : Program) (input : List ℕ) (k n : ℕ) (s : State) (how : Stop) → k ≤ n
    → seq program input k ≡ Stopped s how → seq program input n ≡ Stopped s how
seq-stopped program input k n s how h stopped =
    let e : k + (n - k) ≡ n = omega arith in
    ap (seq program input) (sym e) ∙ seq-add program input k (n - k) ∙ ap (run program.code input (n - k)) stopped
    ∙ run-stopped program.code input (n - k) s how

pub seq-stays : (program : Program) (input : List ℕ) (k n : ℕ) → k ≤ n
    → IsSome (stop_of (seq program input k)) → seq program input n ≡ seq program input k
seq-stays program input k n h = stays (seq program input k) refl
  where
    stays : (m : Machine) → seq program input k ≡ m → IsSome (stop_of m) → seq program input n ≡ m
    stays (Running s) e some = cc
    stays (Stopped s how) e some = seq-stopped program input k n s how h e
