-- Branches and jumps, and the instruction that does nothing.
use Rattle.std.proofs.Common.{◌≡◌, ℕ, ◌+◌, ◌*◌, ◌%◌, ◌<◌, ◌≤◌, List, [], ◌∷◌, length, refl, sym, ap, ◌∙◌, arith}
use Rattle.std.specs.Prelude.{Bool, true, false, not, ◌==◌, nat_lt, ℤ, pos}
use Rattle.bop_bits.specs.declared.map.TheConstants.{CODE_WORDS}
use Rattle.bop_bits.specs.MemoryNumbers.{byte_at, number_at}
use Rattle.rv_code.specs.declared.instr.Instr.TheVariants.{Jal}
use Rattle.rv_code.specs.declared.effect.Effect.TheVariants.{Links}
use Rattle.rv_code.specs.Word.{sum, word, signed_less}
use Rattle.rv_code.specs.Effects.{branches}
use Rattle.rv_code.specs.State.{State, Running, register}
use Rattle.rv_code.specs.Step.{address_of, performs, jumps, links}
use Rattle.c_semantics.specs.Run.{Store, pure}
use Rattle.low_labels.specs.Operation.{Operation, unless}
use Rattle.low_labels.specs.Operation as op
use Rattle.low_labels.specs.declared.test.Test.{Test}
use Rattle.low_labels.specs.declared.test.Test.TheVariants as test
use Rattle.low_labels.specs.Placed.{HasWord, HasJump, HasAt, Stands}
use Rattle.low_expr.specs.CodePieces.{nothing}
use Rattle.low_expr.specs.Agreement.{Agrees}
use Rattle.low_expr.specs.Following.{Comes}
use Rattle.low_expr.proofs.PlainCode.{effect_in, one, then_comes, eq_true, is_place_of}
use Rattle.low_expr.proofs.Composing.{own}
use Rattle.low_expr.proofs.KeptValues.{next_place}
use Rattle.low_expr.proofs.ValueNodes.{Act}

-- a state at another place; the instructions that led there are counted
unfoldable pub moved : State → (pc k : ℕ) → State
moved s pc k = record s { pc = pc; count = s.count + k }

pub agrees_moved : (store : Store) (s : State) (pc k : ℕ) → Agrees store s
    → Agrees store (moved s pc k)
unfolding moved
agrees_moved store s pc k a = record {
  bytes = a.bytes;
  small = a.small;
  stack = a.stack;
  cursor = a.cursor;
  output = a.output;
  memory = a.memory;
  registers = a.registers;
  cells = a.cells;
}

pub moved_same : (s : State) (pc k : ℕ)
    → ((moved s pc k).memory ≡ s.memory) × ((moved s pc k).pc ≡ pc)
    × ((moved s pc k).registers ≡ s.registers)
unfolding moved
moved_same s pc k = (refl, refl, refl)

-- what a branch tests
abbrev pub holds_of : Test → ℕ → ℕ → Bool
holds_of test.Eq a b = a == b
holds_of test.Ne a b = not (a == b)
holds_of test.Lt a b = signed_less a b
holds_of test.Ge a b = not (signed_less a b)
holds_of test.LtU a b = nat_lt a b
holds_of test.GeU a b = not (nat_lt a b)

twice_not : (b : Bool) → not (not b) ≡ b
twice_not true = refl
twice_not false = refl

-- the instruction that is there tests the opposite
unless_is : (t : Test) (a b : ℕ) (imm : ℤ) (x : ℕ → ℕ) (pc : ℕ)
    → effect_in (unless t a b imm) x pc
    ≡ branches (not (holds_of t (x a) (x b))) (sum pc (word imm))
unless_is test.Eq a b imm x pc = refl
unless_is test.Ne a b imm x pc =
    ap (λ c. branches c (sum pc (word imm))) (sym (twice_not (x a == x b)))
unless_is test.Lt a b imm x pc = refl
unless_is test.Ge a b imm x pc =
    ap (λ c. branches c (sum pc (word imm))) (sym (twice_not (signed_less (x a) (x b))))
unless_is test.LtU a b imm x pc = refl
unless_is test.GeU a b imm x pc =
    ap (λ c. branches c (sum pc (word imm))) (sym (twice_not (nat_lt (x a) (x b))))

-- addresses of places are aligned
pub aligned_place : (i : ℕ) → address_of i % 4 ≡ 0
aligned_place i = omega arith

module _ (code input : List ℕ) (short : length code ≤ CODE_WORDS) (labels : ℕ → ℕ) where
  -- a jump that keeps no address
  pub jump_goes : (i label : ℕ) (s : State) → s.pc ≡ address_of i → HasJump code labels i 0 label
      → Comes code input 1 s (moved s (address_of (labels label)) 1)
  unfolding moved
  jump_goes i label s pc h =
      let to : sum s.pc (word h.0) ≡ address_of (labels label) = ap (λ p. sum p (word h.0)) pc ∙ h.2 in
      let al = aligned_place (labels label) in
      record {
        is = one code input labels s i (Jal 0 h.0) pc h.1
            ∙ ap (λ z. performs input s (Links 0 z)) to
            ∙ ap (links s 0 (address_of (labels label)))
            (eq_true (address_of (labels label) % 4) 0 al);
      }

  -- a branch whose test doesn't hold goes on after its two words
  pub branch_passed : (i : ℕ) (t : Test) (a b label : ℕ) (s : State) → s.pc ≡ address_of i
      → Stands code labels i (op.Branch t a b label)
      → holds_of t (register s.registers a) (register s.registers b) ≡ false
      → Comes code input 1 s (moved s (address_of (i + 2)) 1)
  unfolding moved
  branch_passed i t a b label s pc h unmet =
      let place = is_place_of code i _ h.0.1 in
      let to : sum s.pc (word (pos 8)) ≡ address_of (i + 2) = ap (λ p. sum p (word (pos 8))) pc ∙ omega (arith, place, short) in
      let al = aligned_place (i + 2) in
      record {
        is = one code input labels s i (unless t a b (pos 8)) pc h.0
            ∙ ap (performs input s) (unless_is t a b (pos 8) (register s.registers) s.pc ∙ ap
            (λ c. branches (not c) (sum s.pc (word (pos 8)))) unmet)
            ∙ ap (λ z. jumps s z (z % 4 == 0)) to
            ∙ ap (jumps s (address_of (i + 2))) (eq_true (address_of (i + 2) % 4) 0 al);
      }

  into_jump : (i : ℕ) (t : Test) (a b label : ℕ) (s : State) → s.pc ≡ address_of i
      → Stands code labels i (op.Branch t a b label)
      → holds_of t (register s.registers a) (register s.registers b) ≡ true
      → Comes code input 1 s (moved s (address_of (i + 1)) 1)
  unfolding moved
  into_jump i t a b label s pc h met =
      let place = is_place_of code i _ h.0.1 in
      let next = next_place i s.pc (omega (arith, place, short)) pc in
      record {
        is = one code input labels s i (unless t a b (pos 8)) pc h.0
            ∙ ap (performs input s) (unless_is t a b (pos 8) (register s.registers) s.pc ∙ ap
            (λ c. branches (not c) (sum s.pc (word (pos 8)))) met)
            ∙ ap (λ p. Running (moved s p 1)) next;
      }

  -- one whose test holds goes to the label
  pub branch_taken : (i : ℕ) (t : Test) (a b label : ℕ) (s : State) → s.pc ≡ address_of i
      → Stands code labels i (op.Branch t a b label)
      → holds_of t (register s.registers a) (register s.registers b) ≡ true
      → Comes code input 2 s (moved (moved s (address_of (i + 1)) 1) (address_of (labels label)) 1)
  branch_taken i t a b label s pc h met =
      let s1 = moved s (address_of (i + 1)) 1 in
      then_comes code input 1 1 s s1 (moved s1 (address_of (labels label)) 1)
      (into_jump i t a b label s pc h met)
      (jump_goes (i + 1) label s1 (moved_same s (address_of (i + 1)) 1).1 h.1)

  -- an instruction that does nothing
  pub nothing_goes : (i : ℕ) (s : State) → s.pc ≡ address_of i → HasWord code labels i nothing
      → Comes code input 1 s (moved s (address_of (i + 1)) 1)
  unfolding moved
  nothing_goes i s pc has =
      let place = is_place_of code i _ has.1 in
      let next = next_place i s.pc (omega (arith, place, short)) pc in
      record {
        is = one code input labels s i nothing pc has ∙ ap
            (λ p. Running (moved s p 1)) next;
      }

  -- a node that leaves the value as it is
  pub nothing_acts : (frame slots slot i : ℕ) → slot < slots
      → HasAt code labels i (op.Do nothing ∷ [])
      → Act code input short labels frame slots slot i (i + 1) (λ x. pure x)
  nothing_acts frame slots slot i lt has x store n n1 s en pc a f hx =
      let m = moved_same s (address_of (i + 1)) 1 in
      let s1 = moved s (address_of (i + 1)) 1 in
      own x 1 s1 en (omega arith) (omega arith) (nothing_goes i s pc has.0) m.1
      (agrees_moved store s (address_of (i + 1)) 1 a) refl refl
      (record { by = λ at ge dead off. ap (λ l. byte_at l at) m.0 })
      (ap (λ l. number_at l (frame + 4 * slot) 4) m.0 ∙ hx)
