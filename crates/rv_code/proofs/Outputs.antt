-- The output of a run only grows.
use Rattle.std.proofs.Common.{◌≡◌, ℕ, zero, suc, ◌+◌, ◌-◌, ◌≤◌, List, [], ◌∷◌, Bool, true, false, Option, Some, None, sym, ◌∙◌, ap, arith}
use Rattle.std.specs.Prelude.{◌==◌, ◌%◌, slice_get}
use Rattle.bop_bits.specs.MemoryNumbers.{is_in_memory}
use Rattle.byte_lists.specs.Prefix.{IsPrefix}
use Rattle.byte_lists.proofs.Prefixes.{IsPrefix-refl, IsPrefix-trans, IsPrefix-append}
use Rattle.rv_code.specs.declared.call.TheConstants.{A0}
use Rattle.rv_code.specs.declared.effect.Call.{Call}
use Rattle.rv_code.specs.declared.effect.Call.TheVariants as call
use Rattle.rv_code.specs.declared.effect.Effect.{Effect}
use Rattle.rv_code.specs.declared.effect.Effect.TheVariants.{Sets, Loads, Stores, Jumps, Links, Proceeds, Breaks, Calls}
use Rattle.rv_code.specs.declared.instr.Instr.{Instr}
use Rattle.rv_code.specs.declared.program.Program.{Program}
use Rattle.rv_code.specs.Decode.{instr_of}
use Rattle.rv_code.specs.State.{State, Machine, Running, Stopped, register, output_of}
use Rattle.rv_code.specs.Step.{gets, calls, loads, stores, jumps, links, performs, asks, acts, executes, fetch, step}
use Rattle.rv_code.specs.SequentialRun.{run, seq}
use Rattle.rv_code.proofs.SequentialRunLemmas.{run-zero, run-suc, seq-add}

gets-grows : (s : State) (byte : Option ℕ) → IsPrefix s.output (output_of (gets s byte))
gets-grows s None = IsPrefix-refl s.output
gets-grows s (Some byte) = IsPrefix-refl s.output

calls-grows : (input : List ℕ) (s : State) (which : Call)
    → IsPrefix s.output (output_of (calls input s which))
calls-grows input s call.Exit = IsPrefix-refl s.output
calls-grows input s call.Get = gets-grows s (slice_get input s.cursor)
calls-grows input s call.Put = IsPrefix-append s.output (register s.registers A0 % 256 ∷ [])
calls-grows input s call.Begin = IsPrefix-refl s.output
calls-grows input s call.End = IsPrefix-refl s.output
calls-grows input s call.Post = IsPrefix-refl s.output
calls-grows input s call.Wait = IsPrefix-refl s.output
calls-grows input s call.StackFull = IsPrefix-refl s.output
calls-grows input s call.Unknown = IsPrefix-refl s.output

loads-grows : (s : State) (rd at size : ℕ) (signed aligned inside : Bool)
    → IsPrefix s.output (output_of (loads s rd at size signed aligned inside))
loads-grows s rd at size signed false inside = IsPrefix-refl s.output
loads-grows s rd at size signed true false = IsPrefix-refl s.output
loads-grows s rd at size signed true true = IsPrefix-refl s.output

stores-grows : (s : State) (at size value : ℕ) (aligned inside : Bool)
    → IsPrefix s.output (output_of (stores s at size value aligned inside))
stores-grows s at size value false inside = IsPrefix-refl s.output
stores-grows s at size value true false = IsPrefix-refl s.output
stores-grows s at size value true true = IsPrefix-refl s.output

jumps-grows : (s : State) (to : ℕ) (aligned : Bool)
    → IsPrefix s.output (output_of (jumps s to aligned))
jumps-grows s to false = IsPrefix-refl s.output
jumps-grows s to true = IsPrefix-refl s.output

links-grows : (s : State) (rd to : ℕ) (aligned : Bool)
    → IsPrefix s.output (output_of (links s rd to aligned))
links-grows s rd to false = IsPrefix-refl s.output
links-grows s rd to true = IsPrefix-refl s.output

performs-grows : (input : List ℕ) (s : State) (effect : Effect)
    → IsPrefix s.output (output_of (performs input s effect))
performs-grows input s (Sets rd value) = IsPrefix-refl s.output
performs-grows input s (Loads rd at size signed) =
    loads-grows s rd at size signed (at % size == 0) (is_in_memory at)
performs-grows input s (Stores at size value) =
    stores-grows s at size value (at % size == 0) (is_in_memory at)
performs-grows input s (Jumps to) = jumps-grows s to (to % 4 == 0)
performs-grows input s (Links rd to) = links-grows s rd to (to % 4 == 0)
performs-grows input s Proceeds = IsPrefix-refl s.output
performs-grows input s Breaks = IsPrefix-refl s.output
performs-grows input s (Calls which) = calls-grows input s which

acts-grows : (input : List ℕ) (s : State) (i : Option Instr)
    → IsPrefix s.output (output_of (acts input s i))
acts-grows input s None = IsPrefix-refl s.output
acts-grows input s (Some i) = performs-grows input s (asks i s.registers s.pc)

executes-grows : (input : List ℕ) (s : State) (word : Option ℕ)
    → IsPrefix s.output (output_of (executes input s word))
executes-grows input s None = IsPrefix-refl s.output
executes-grows input s (Some word) = acts-grows input s (instr_of word)

step-grows : (code input : List ℕ) (m : Machine)
    → IsPrefix (output_of m) (output_of (step code input m))
step-grows code input (Running s) = executes-grows input s (fetch code s.pc)
step-grows code input (Stopped s how) = IsPrefix-refl s.output

pub run-grows : (code input : List ℕ) (k : ℕ) (m : Machine)
    → IsPrefix (output_of m) (output_of (run code input k m))
run-grows code input zero m = rw (run-zero code input m) (IsPrefix-refl (output_of m))
run-grows code input (suc k) m =
    rw (run-suc code input k m)
    (IsPrefix-trans _ _ _ (run-grows code input k m) (step-grows code input (run code input k m)))

-- the output after fewer steps is a prefix
pub seq-grows : (program : Program) (input : List ℕ) (k n : ℕ) → k ≤ n
    → IsPrefix (output_of (seq program input k)) (output_of (seq program input n))
seq-grows program input k n h =
    let e : k + (n - k) ≡ n = omega arith in
    let later : seq program input n ≡ run program.code input (n - k) (seq program input k) = ap (seq program input) (sym e) ∙ seq-add program input k (n - k) in
    rw later (run-grows program.code input (n - k) (seq program input k))
