-- One step at a place of the code whose word is known.
use Rattle.std.proofs.Common.{◌≡◌, ℕ, List, ◌∙◌, ap, arith, Some}
use Rattle.std.specs.Prelude.{slice_get}
use Rattle.std.proofs.lemmas.Bool.Decides.{nat_tests}
use Rattle.rv_code.specs.declared.instr.Instr.{Instr}
use Rattle.rv_code.specs.Table.{IsInstr, word_of}
use Rattle.rv_code.specs.State.{State, Running}
use Rattle.rv_code.specs.Step.{address_of, fetch, acts, executes, step}
use Rattle.rv_code.proofs.DecodeLemmas.{instr_of-word_of}

pub fetch-address_of : (code : List ℕ) (place : ℕ)
    → fetch code (address_of place) ≡ slice_get code place
fetch-address_of code place = grind (arith, nat_tests)

pub step-at : (code input : List ℕ) (s : State) (place : ℕ) (i : Instr) → s.pc ≡ address_of place
    → IsInstr i
    → slice_get code place ≡ Some (word_of i) → step code input (Running s) ≡ acts input s (Some i)
step-at code input s place i here fits word =
    ap (executes input s) (ap (fetch code) here ∙ fetch-address_of code place ∙ word)
    ∙ ap (acts input s) (instr_of-word_of i fits)
