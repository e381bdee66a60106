-- Tests, what follows a statement, and `if`.
use Rattle.std.proofs.Common.{◌≡◌, ℕ, ◌+◌, ◌<◌, ◌≤◌, List, [], ◌∷◌, ◌++◌, length, refl, ap, ◌∙◌, subst, arith, ◌⊎◌, inl, inr, Some, None}
use Rattle.std.specs.Prelude.{Bool, true, false, ◌==◌, if◌then◌else◌}
use Rattle.bop_bits.specs.declared.map.TheConstants.{CODE_WORDS}
use Rattle.rv_code.specs.declared.instr.Instr.{Instr}
use Rattle.rv_code.specs.State.{State}
use Rattle.rv_code.specs.Step.{address_of}
use Rattle.c_tree.specs.Ty.{Ty}
use Rattle.c_semantics.specs.declared.flow.Flow.{Flow}
use Rattle.c_semantics.specs.declared.flow.Flow.TheVariants.{Normal, AtBreak, AtContinue, AtReturn}
use Rattle.c_semantics.specs.Run.{Store, Run, pure, ◌>>=◌}
use Rattle.c_semantics.specs.Exec.{next}
use Rattle.c_semantics.proofs.RunLemmas.{then_pure}
use Rattle.low_labels.specs.Operation.{Operation, width_of}
use Rattle.low_labels.specs.Operation as op
use Rattle.low_labels.specs.declared.test.Test.{Test}
use Rattle.low_labels.specs.declared.test.Test.TheVariants as test
use Rattle.low_labels.specs.Placed.{HasAt, HasJump}
use Rattle.low_expr.specs.CodePieces.{all_do, take_slot}
use Rattle.low_expr.specs.Agreement.{Agrees, Framed, InSlot}
use Rattle.low_expr.specs.Following.{Follows}
use Rattle.low_expr.specs.ExprSimulation.{IsFollowed}
use Rattle.low_expr.proofs.KeptValues.{all_width, width-append, has_back}
use Rattle.low_expr.proofs.BranchLemmas.{moved, holds_of}
use Rattle.low_expr.proofs.LogicNodes.{tested}
use Rattle.low_stmt.specs.StmtCode.{Targets, test_code}
use Rattle.low_stmt.specs.StmtSimulation.{IsDone, FlowLeft, flow_end, for_statement}
use Rattle.low_stmt.proofs.StatementParts.{with_credit, weaker, pure_follows, expression_done, then_does, then_directly, jump_does}

-- of a test nothing is left
abbrev pub Anything : {A : Type 0} → A → State → Type 0
Anything v s = Unit {0}

-- where the code of a test goes on
abbrev pub test_end : (labels : ℕ → ℕ) → Test → (label end x : ℕ) → ℕ
test_end labels t label end x = if holds_of t x 0 then labels label else end

-- what is left after a statement isn't touched by a jump
pub left_moved : (result : Ty) (flow : Flow) (s : State) (pc k : ℕ) → FlowLeft result flow s
    → FlowLeft result flow (moved s pc k)
unfolding moved
left_moved result Normal s pc k h = h
left_moved result AtBreak s pc k h = h
left_moved result AtContinue s pc k h = h
left_moved result (AtReturn None) s pc k h = h
left_moved result (AtReturn (Some v)) s pc k h = h

module _ (code input : List ℕ) (short : length code ≤ CODE_WORDS) (labels : ℕ → ℕ)
    (frame room top m : ℕ) where
  -- the value of an expression is tested
  pub test_does : (t : Test) (label i : ℕ) (c : List Operation) (r : Run ℕ) → room ≤ top → 0 < room
      → HasAt code labels i (test_code t label c)
      → IsFollowed code input frame room 0 m i (i + width_of c) (InSlot frame 0) r
      → IsDone for_statement code input frame room top m i
      (test_end labels t label (i + width_of (test_code t label c))) Anything r
  test_does t label i c r le pos has a store n s few pc ag fr =
      subst (Follows code input for_statement store 0 top n ends s Anything) (then_pure (r store n))
      (then_does code input short labels frame room top m i r pure (omega arith) (omega arith)
      (expression_done code input short labels frame room top m i mid le a)
      (λ x store1 n1 s1 few1 pc1 ag1 fr1 hx.
      let w = tested code input short labels frame room 0 mid label t [] x (holds_of t x 0) store1 s1 pos pc1 ag1 fr1 hx refl tail in
      let five = w.few in (
        for_statement,
        w.count,
        w.state,
        record { slack = omega arith; over = omega arith },
        w.comes,
        w.memory,
        pure_follows code input short labels frame room top m x store1 w.state (omega arith)
            (w.pc ∙ at_end (holds_of t x 0)) w.agrees tt,
      ))
      store n s few pc ag fr)
    where
      t5 : List Instr
      t5 = take_slot 5 0

      mid : ℕ
      mid = i + width_of c

      ends : ℕ → ℕ
      ends = test_end labels t label (i + width_of (test_code t label c))

      branch : List Operation
      branch = op.Branch t 5 0 label ∷ []

      tail : HasAt code labels mid (all_do t5 ++ branch)
      tail = has_back code labels i c (all_do t5 ++ branch) has

      meet : mid + length t5 + 2 ≡ i + width_of (test_code t label c)
      meet =
          omega (
            arith,
            width-append c (all_do t5 ++ branch),
            width-append (all_do t5) branch,
            all_width t5,
          )

      at_end : (b : Bool)
          → address_of (if b then labels label else mid + length t5 + 2)
          ≡ address_of (if b then labels label else i + width_of (test_code t label c))
      at_end true = refl
      at_end false = ap address_of meet

  -- what follows a statement
  pub next_does : (to : Targets) (result : Ty) (i mid end : ℕ) (r q : Run Flow)
      → IsDone for_statement code input frame room top m i (flow_end labels to mid) (FlowLeft result) r
      → IsDone for_statement code input frame room top m mid (flow_end labels to end) (FlowLeft result)
      q
      → IsDone for_statement code input frame room top m i (flow_end labels to end) (FlowLeft result)
      (r >>= λ f. next f q)
  next_does to result i mid end r q a b =
      then_directly code input short labels frame room top m for_statement i r (λ f. next f q)
      (omega arith) (omega arith) (record { slack = omega arith; over = omega arith }) a go_on
    where
      go_on : (f : Flow) (store : Store) (n : ℕ) (s : State) → n ≤ m
          → s.pc ≡ address_of (flow_end labels to mid f) → Agrees store s → Framed frame room store
          → FlowLeft result f s
          → Follows code input for_statement store 0 top n (flow_end labels to end) s
          (FlowLeft result) (next f q store n)
      go_on Normal store n s le pc ag fr w = b store n s le pc ag fr
      go_on AtBreak store n s le pc ag fr w =
          pure_follows code input short labels frame room top m AtBreak store s (omega arith) pc ag w
      go_on AtContinue store n s le pc ag fr w =
          pure_follows code input short labels frame room top m AtContinue store s (omega arith) pc ag w
      go_on (AtReturn v) store n s le pc ag fr w =
          pure_follows code input short labels frame room top m (AtReturn v) store s (omega arith) pc ag w

  -- `if`, by its parts; the branch that is executed where the test holds ends with a jump
  pub if_does : (to : Targets) (result : Ty) (label i first over other end : ℕ) (rc : Run ℕ)
      (rs ro : Run Flow)
      → labels label ≡ other → labels (label + 1) ≡ end → HasJump code labels over 0 (label + 1)
      → IsDone for_statement code input frame room top m i (test_end labels test.Eq label first)
      Anything rc
      → IsDone for_statement code input frame room top m first (flow_end labels to over)
      (FlowLeft result) rs
      → IsDone for_statement code input frame room top m other (flow_end labels to end)
      (FlowLeft result) ro
      → IsDone (with_credit 255) code input frame room top m i (flow_end labels to end)
      (FlowLeft result) (rc >>= λ x. if x == 0 then ro else rs)
  if_does to result label i first over other end rc rs ro here meet jump a b c =
      then_directly code input short labels frame room top m (with_credit 1) i rc
      (λ x. if x == 0 then ro else rs)
      (omega arith) (omega arith) (record { slack = omega arith; over = omega arith }) a
      (λ x store n s le pc ag fr w. decided (x == 0) store n s le pc ag fr)
    where
      ends_too : (f : Flow)
          → (flow_end labels to over f ≡ flow_end labels to end f)
          ⊎ ((flow_end labels to over f ≡ over) × (labels (label + 1) ≡ flow_end labels to end f))
      ends_too Normal = inr (refl, meet)
      ends_too AtBreak = inl refl
      ends_too AtContinue = inl refl
      ends_too (AtReturn v) = inl refl

      decided : (b : Bool) (store : Store) (n : ℕ) (s : State) → n ≤ m
          → s.pc ≡ address_of (if b then labels label else first) → Agrees store s
          → Framed frame room store
          → Follows code input (with_credit 1) store 0 top n (flow_end labels to end) s
          (FlowLeft result) ((if b then ro else rs) store n)
      decided true store n s le pc ag fr =
          weaker (ro store n) (omega arith) (omega arith) (omega arith) (omega arith) (λ f. refl)
          (λ f s1 h. h) (c store n s le (pc ∙ ap address_of here) ag fr)
      decided false store n s le pc ag fr =
          jump_does code input short labels frame room top m 0 first over (label + 1) rs jump
          ends_too (left_moved result) b store n s le pc ag fr
