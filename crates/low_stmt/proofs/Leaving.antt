-- A function is left: the stack pointer is as it was, and the code goes on at the return address.
use Rattle.std.proofs.Common.{◌≡◌, ℕ, ◌+◌, ◌*◌, ◌/◌, ◌%◌, ◌^◌, ◌<◌, ◌≤◌, List, [], ◌∷◌, ◌++◌, length, refl, ap, ◌∙◌, subst, arith, length-append}
use Rattle.std.specs.Prelude.{pos}
use Rattle.bop_bits.specs.declared.map.TheConstants.{CODE_WORDS, STACK_TO}
use Rattle.bop_bits.specs.MemoryNumbers.{number_at}
use Rattle.rv_code.specs.declared.effect.Effect.TheVariants.{Links}
use Rattle.rv_code.specs.declared.instr.Instr.{Instr}
use Rattle.rv_code.specs.declared.instr.Instr.TheVariants as instr
use Rattle.rv_code.specs.Word.{sum, word}
use Rattle.rv_code.specs.State.{State, register}
use Rattle.rv_code.specs.Step.{address_of, performs, links}
use Rattle.c_semantics.specs.Run.{Store}
use Rattle.low_labels.specs.Operation.{Operation}
use Rattle.low_labels.specs.Operation as op
use Rattle.low_labels.specs.Placed.{HasAt, HasWord}
use Rattle.low_expr.specs.CodePieces.{all_do, constant, take_slot}
use Rattle.low_expr.specs.Agreement.{Agrees, Framed, InSlot}
use Rattle.low_expr.specs.Following.{Comes}
use Rattle.low_expr.proofs.PlainCode.{with_env, Went, went, one, then_comes, eq_true}
use Rattle.low_expr.proofs.CodePiecesLemmas.{Takes, takes_append, constant_takes, slot_takes}
use Rattle.low_expr.proofs.CodeLengths.{number_length, slot_length}
use Rattle.low_expr.proofs.KeptValues.{has_front, has_after}
use Rattle.low_expr.proofs.BranchLemmas.{aligned_place, moved, moved_same, agrees_moved}
use Rattle.low_stmt.specs.FunCode.{last_word, leave_code}
use Rattle.low_stmt.proofs.StackChanges.{with_stack, stack_agrees}

-- the stack pointer as it was
abbrev pub higher : ℕ → Store → Store
higher size store = with_stack (store.sp + size) store

pub record Left (code input : List ℕ) (size back j : ℕ) (store : Store) (s s' : State) : Type 0 where
  pub few : j ≤ 8
  pub comes : Comes code input j s s'
  pub pc : s'.pc ≡ address_of back
  pub agrees : Agrees (higher size store) s'
  pub memory : s'.memory ≡ s.memory
  pub value : register s'.registers 10 ≡ register s.registers 10

module _ (code input : List ℕ) (short : length code ≤ CODE_WORDS) (labels : ℕ → ℕ) where
  -- a jump to the address in register 1
  return_goes : (i back : ℕ) (s : State) → back < CODE_WORDS → s.pc ≡ address_of i
      → register s.registers 1 ≡ address_of back
      → HasWord code labels i (instr.Jalr 0 1 (pos 0))
      → Comes code input 1 s (moved s (address_of back) 1)
  unfolding moved
  return_goes i back s near pc is has =
      let to : sum (register s.registers 1) (word (pos 0)) / 2 * 2 ≡ address_of back =
      ap (λ q. sum q (word (pos 0)) / 2 * 2) is ∙ omega arith in
      record {
        is = one code input labels s i (instr.Jalr 0 1 (pos 0)) pc has
            ∙ ap (λ q. performs input s (Links 0 q)) to
            ∙ ap (links s 0 (address_of back))
            (eq_true (address_of back % 4) 0 (aligned_place back));
      }

  pub left : (size frame i back : ℕ) (store : Store) (s : State) → size ≤ 2 ^ 16 → back < CODE_WORDS
      → Framed frame (last_word size + 1) store → frame + size ≤ STACK_TO → s.pc ≡ address_of i
      → Agrees store s → InSlot frame (last_word size) (address_of back) s
      → HasAt code labels i (leave_code size)
      → (j : ℕ) × (s' : State) × Left code input size back j store s s'
  left size frame i back store s small near f within pc a link has =
      let top = last_word size in
      let take = take_slot 1 top in
      let c = constant 5 size in
      let add : List Instr = instr.Add 2 2 5 ∷ [] in
      let xs : List Instr = take ++ (c ++ add) in
      let jump : List Operation = op.Do (instr.Jalr 0 1 (pos 0)) ∷ [] in
      let env0 = register s.registers in
      let env1 = with_env 1 (number_at s.memory (frame + 4 * top) 4) env0 in
      let env2 = with_env 5 size env1 in
      let env3 = with_env 2 (store.sp + size) env2 in
      let stack = a.stack ∙ f.is in
      let more : sum (env2 2) (env2 5) ≡ store.sp + size = ap (λ q. sum q size) a.stack ∙ omega (arith, f.is) in
      let takes1 = slot_takes s.memory frame (top + 1) i 1 top store env0 f (omega arith) stack (omega arith) (omega arith) (omega arith) in
      let takes2 = constant_takes s.memory (i + length take) 5 size env1 refl (omega arith) (omega arith) (omega arith) in
      let takes3 : Takes s.memory (i + length take + length c) add env2 env3 = (((omega arith, omega arith), tt), ap (λ q. with_env 2 q env2) more) in
      let t = takes_append s.memory take (c ++ add) i env0 env1 env3 takes1 (takes_append s.memory c add (i + length take) env1 env2 env3 takes2 takes3) in
      let g = went code input short labels xs i env0 s refl pc a.registers (has_front code labels i (all_do xs) jump has) t.0 in
      let w = subst (λ e. Went code input (length xs) i e s g.0) t.1 g.1 in
      let s1 = g.0 in
      let k = i + length xs in
      let back1 = has_after code labels i xs jump has in
      let a1 = stack_agrees code input (store.sp + size) (length xs) i env3 store s s1 a w refl in
      let is : register s1.registers 1 ≡ address_of back = ap (λ e. e 1) w.is ∙ link in
      let s2 = moved s1 (address_of back) 1 in
      let same = moved_same s1 (address_of back) 1 in (
        length xs + 1,
        s2,
        record {
          few = omega (arith, length-append take (c ++ add), length-append c add, slot_length 1 top, number_length 5 size);
          comes = then_comes code input (length xs) 1 s s1 s2 w.comes (return_goes k back s1 near w.pc is back1.0);
          pc = same.1;
          agrees = agrees_moved (higher size store) s1 (address_of back) 1 a1;
          memory = same.0 ∙ w.memory;
          value = ap (λ l. register l 10) same.2 ∙ ap (λ e. e 10) w.is;
        },
      )
