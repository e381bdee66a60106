-- A jump that keeps the next address in register 1.
use Rattle.std.proofs.Common.{◌≡◌, ℕ, ◌+◌, ◌%◌, List, length, refl, ap, ◌∙◌, arith}
use Rattle.rv_code.specs.declared.instr.Instr.TheVariants.{Jal}
use Rattle.rv_code.specs.declared.effect.Effect.TheVariants.{Links}
use Rattle.rv_code.specs.Word.{sum, word}
use Rattle.rv_code.specs.State.{State, register, with_register}
use Rattle.rv_code.specs.Step.{address_of, performs, links}
use Rattle.c_semantics.specs.Run.{Store}
use Rattle.low_labels.specs.Placed.{HasJump}
use Rattle.low_expr.specs.Agreement.{Agrees}
use Rattle.low_expr.specs.Following.{Comes}
use Rattle.low_expr.proofs.PlainCode.{with_env, one, eq_true, with_is, length-with_register}
use Rattle.low_expr.proofs.BranchLemmas.{aligned_place}

unfoldable pub linked : State → (pc : ℕ) → State
linked s pc = record s {
  registers = with_register s.registers 1 (sum s.pc 4);
  pc = pc;
  count = s.count + 1;
}

pub link_agrees : (store : Store) (s : State) (pc : ℕ) → Agrees store s → Agrees store (linked s pc)
unfolding linked
link_agrees store s pc a =
    let w = with_is s.registers 1 (sum s.pc 4) (omega arith) (omega (arith, a.registers)) in
    record {
      bytes = a.bytes;
      small = a.small;
      stack = ap (λ e. e 2) w ∙ a.stack;
      cursor = a.cursor;
      output = a.output;
      memory = a.memory;
      registers = length-with_register s.registers 1 (sum s.pc 4) (omega arith) ∙ a.registers;
      cells = a.cells;
    }

pub link_fields : (s : State) (pc : ℕ) → length s.registers ≡ 32
    → ((linked s pc).memory ≡ s.memory) × ((linked s pc).pc ≡ pc)
    × (register (linked s pc).registers ≡ with_env 1 (sum s.pc 4) (register s.registers))
unfolding linked
link_fields s pc len = (refl, refl, with_is s.registers 1 (sum s.pc 4) (omega arith) (omega arith))

pub link_comes : (code input : List ℕ) (labels : ℕ → ℕ) (i label : ℕ) (s : State)
    → s.pc ≡ address_of i → HasJump code labels i 1 label
    → Comes code input 1 s (linked s (address_of (labels label)))
unfolding linked
link_comes code input labels i label s pc h =
    let to : sum s.pc (word h.0) ≡ address_of (labels label) = ap (λ p. sum p (word h.0)) pc ∙ h.2 in
    record {
      is = one code input labels s i (Jal 1 h.0) pc h.1
          ∙ ap (λ z. performs input s (Links 1 z)) to
          ∙ ap (links s 1 (address_of (labels label)))
          (eq_true (address_of (labels label) % 4) 0 (aligned_place (labels label)));
    }
