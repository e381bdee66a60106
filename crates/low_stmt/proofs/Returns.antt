-- `return`: the value goes into a0, and a jump follows.
use Rattle.std.proofs.Common.{◌≡◌, ℕ, ◌+◌, ◌^◌, ◌<◌, ◌≤◌, List, [], ◌∷◌, ◌++◌, length, refl, ap, ◌∙◌, subst, arith, Option, Some, None, length-append, append_assoc}
use Rattle.std.specs.Prelude.{pos}
use Rattle.rv_code.specs.declared.instr.Instr.{Instr}
use Rattle.rv_code.specs.declared.instr.Instr.TheVariants as instr
use Rattle.rv_code.specs.Word.{sum, word}
use Rattle.rv_code.specs.State.{State, register}
use Rattle.rv_code.specs.Step.{address_of}
use Rattle.c_tree.specs.Arithmetic.{converted}
use Rattle.c_tree.specs.Expr.{Expr}
use Rattle.c_tree.specs.Ty.{Ty}
use Rattle.c_tree.specs.Ty as ty
use Rattle.c_semantics.specs.declared.flow.Flow.TheVariants.{AtReturn}
use Rattle.c_semantics.specs.Run.{Store, Goes, pure}
use Rattle.c_semantics.specs.Names.{Names, Definition}
use Rattle.c_semantics.specs.Eval.{Calls, eval}
use Rattle.c_semantics.specs.Exec.{return_flow}
use Rattle.low_labels.specs.Operation.{Operation, width_of}
use Rattle.low_labels.specs.Operation as op
use Rattle.low_labels.specs.Placed.{HasAt}
use Rattle.low_expr.specs.CodePieces.{all_do, take_slot}
use Rattle.low_expr.specs.Operators.{cast_code}
use Rattle.low_expr.specs.Agreement.{Agrees, Framed, InSlot}
use Rattle.low_expr.specs.Following.{Comes}
use Rattle.low_expr.specs.ExprSimulation.{HasFunctions}
use Rattle.low_expr.proofs.PlainCode.{with_env, then_comes}
use Rattle.low_expr.proofs.CodePiecesLemmas.{takes_append}
use Rattle.low_expr.proofs.Composing.{few_before}
use Rattle.low_expr.proofs.KeptValues.{has_front, has_back, reached}
use Rattle.low_expr.proofs.CodeLengths.{slot_length}
use Rattle.low_expr.proofs.ValueNodes.{slot_taken, slot_fits}
use Rattle.low_expr.proofs.OperatorsLemmas.{cast_computes}
use Rattle.low_expr.proofs.AboveOperands.{slots_positive}
use Rattle.low_expr.proofs.BranchLemmas.{moved, moved_same, agrees_moved, jump_goes}
use Rattle.low_stmt.specs.StmtCode.{Targets, value_code, return_slot, return_code}
use Rattle.low_stmt.specs.StmtReadiness.{IsReadyReturn}
use Rattle.low_stmt.specs.StmtSimulation.{IsDone, IsFrame, FlowLeft, flow_end, for_statement}
use Rattle.low_stmt.proofs.StatementParts.{with_credit, pure_follows, then_does}
use Rattle.low_stmt.proofs.DeclaredLocals.{value_done}

cast_length : (t : Ty) → length (cast_code t) ≤ 1
cast_length ty.Int = omega arith
cast_length ty.Unsigned = omega arith
cast_length ty.Char = omega arith
cast_length ty.Void = omega arith
cast_length (ty.Pointer t) = omega arith
cast_length (ty.Array t n) = omega arith

pub return_length : (t : Ty) → length (return_slot t) ≤ 5
return_length t =
    omega (
      arith,
      length-append (take_slot 5 0) (cast_code t ++ instr.Addi 10 5 (pos 0) ∷ []),
      length-append (cast_code t) (instr.Addi 10 5 (pos 0) ∷ []),
      slot_length 5 0,
      cast_length t,
    )

module _ (functions : List ℕ → ℕ) (defined : List ℕ → Option Definition) (code input : List ℕ)
    (labels : ℕ → ℕ) (calls : Calls) (frame room top m : ℕ)
    (h : HasFunctions code input labels functions defined calls m) (fr : IsFrame frame room top)
    (result : Ty) where
  -- the value in the first slot as that of the function
  pub record Given (i v : ℕ) (last : List Operation) (store : Store) (s : State) : Type 0 where
    pub state : State
    pub comes : Comes code input (length (return_slot result)) s state
    pub pc : state.pc ≡ address_of (i + length (return_slot result))
    pub memory : state.memory ≡ s.memory
    pub agrees : Agrees store state
    pub value : register state.registers 10 ≡ converted result v
    pub fits : converted result v < 2 ^ 32
    pub next : HasAt code labels (i + length (return_slot result)) last

  given : (i v : ℕ) (last : List Operation) (store : Store) (s : State) → 0 < room
      → HasAt code labels i (all_do (return_slot result) ++ last) → s.pc ≡ address_of i
      → Agrees store s → Framed frame room store → InSlot frame 0 v s → Given i v last store s
  given i v last store s positive has pc ag f hv =
      let t0 = take_slot 5 0 in
      let cast = cast_code result in
      let move : List Instr = instr.Addi 10 5 (pos 0) ∷ [] in
      let env0 = register s.registers in
      let env1 = with_env 5 v env0 in
      let stack = ag.stack ∙ f.is in
      let fits = slot_fits frame 0 v s ag.small hv in
      let c = cast_computes s.memory (i + length t0) env1 result fits in
      let env3 = with_env 10 (sum (c.left 5) (word (pos 0))) c.left in
      let takes0 = slot_taken code input h.short labels frame room 5 0 i v s store env0 f positive (omega arith) (omega arith) stack hv in
      let takes1 = takes_append s.memory cast move (i + length t0) env1 c.left env3 c.takes (((omega arith, omega arith), tt), refl) in
      let takes = takes_append s.memory t0 (cast ++ move) i env0 env1 env3 takes0 takes1 in
      let r = reached code input h.short labels i (return_slot result) last env3 store s ag pc has takes (c.stack_still ∙ ag.stack) in
      let w = r.went in
      let same : sum (c.left 5) (word (pos 0)) ≡ converted result v = ap (λ z. sum z (word (pos 0))) c.value ∙ omega (arith, c.fits) in
      record {
        state = r.state;
        comes = w.comes;
        pc = w.pc;
        memory = w.memory;
        agrees = r.agrees;
        value = ap (λ e. e 10) w.is ∙ same;
        fits = c.fits;
        next = r.next;
      }

  moved_value : (s : State) (v pc k : ℕ) → register s.registers 10 ≡ v
      → register (moved s pc k).registers 10 ≡ v
  moved_value s v pc k e = ap (λ l. register l 10) (moved_same s pc k).2 ∙ e

  -- after the step of the statement
  pub return_done : (names : Names) (to : Targets) (label i end : ℕ) (value : Option Expr)
      → IsReadyReturn defined room top result names value
      → HasAt code labels i (return_code functions result names label value ++ op.Jump 0 to.at_return ∷ [])
      → IsDone (with_credit 255) code input frame room top m i (flow_end labels to end)
      (FlowLeft result) (return_flow input calls result names value)
  return_done names to label i end None ready has = λ store n s le pc ag f.
      let at = address_of (labels to.at_return) in
      let s1 = moved s at 1 in
      let same = moved_same s at 1 in
      few_before (Goes (AtReturn None) store n) 1 (omega arith) (omega arith)
      (jump_goes code input h.short labels i to.at_return s pc has.0) same.0
      (pure_follows code input h.short labels frame room top m {t = for_statement} (AtReturn None) store s1
      (omega arith) same.1 (agrees_moved store s at 1 ag) ready)
  return_done names to label i end (Some e) ready has =
      let c = value_code functions names label e in
      let mid = i + width_of c in
      let all : List Operation = op.Jump 0 to.at_return ∷ [] in
      let split = append_assoc c (all_do (return_slot result)) all in
      let has1 : HasAt code labels i (c ++ (all_do (return_slot result) ++ all)) = subst (HasAt code labels i) split has in
      let positive = slots_positive e in
      then_does code input h.short labels frame room top m i (eval input calls names e)
      (λ v. pure (AtReturn (Some (converted result v)))) (omega arith) (omega arith)
      (value_done functions defined code input labels calls frame room top m h fr names e label i ready
      (has_front code labels i c _ has1))
      (λ v store n s le pc ag f hv.
      let g = given mid v all store s (omega (arith, ready.1, positive)) (has_back code labels i c _ has1) pc ag f hv in
      let at = address_of (labels to.at_return) in
      let k = mid + length (return_slot result) in
      let s2 = moved g.state at 1 in
      let same = moved_same g.state at 1 in
      let next = g.next in (
        for_statement,
        length (return_slot result) + 1,
        s2,
        record { slack = omega (arith, return_length result); over = omega (arith, return_length result) },
        then_comes code input (length (return_slot result)) 1 s g.state s2 g.comes
            (jump_goes code input h.short labels k to.at_return g.state g.pc next.0),
        same.0 ∙ g.memory,
        pure_follows code input h.short labels frame room top m (AtReturn (Some (converted result v)))
            store s2 (omega arith) same.1 (agrees_moved store g.state at 1 g.agrees)
            (moved_value g.state (converted result v) at 1 g.value, g.fits),
      ))
