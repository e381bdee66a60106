-- Loops follow their turns.
use Rattle.std.proofs.Common.{◌≡◌, ℕ, zero, suc, ◌+◌, ◌<◌, ◌≤◌, List, length, ap, ◌∙◌, arith}
use Rattle.std.specs.Prelude.{Bool, true, false, ◌==◌, if◌then◌else◌}
use Rattle.bop_bits.specs.declared.map.TheConstants.{CODE_WORDS}
use Rattle.rv_code.specs.State.{State}
use Rattle.rv_code.specs.Step.{address_of}
use Rattle.c_tree.specs.Ty.{Ty}
use Rattle.c_semantics.specs.declared.flow.Flow.{Flow}
use Rattle.c_semantics.specs.declared.flow.Flow.TheVariants.{Normal, AtBreak, AtContinue, AtReturn}
use Rattle.c_semantics.specs.Run.{Store, Run, pure, count, ◌>>=◌, ◌>>◌}
use Rattle.c_semantics.specs.Exec.{after_turn, turns, loop}
use Rattle.low_labels.specs.Placed.{HasWord}
use Rattle.low_expr.specs.CodePieces.{nothing}
use Rattle.low_expr.specs.Agreement.{Agrees, Framed}
use Rattle.low_expr.specs.Following.{Terms, Follows}
use Rattle.low_stmt.specs.StmtCode.{Targets, in_loop}
use Rattle.low_stmt.specs.StmtSimulation.{IsDone, FlowLeft, flow_end, for_statement}
use Rattle.low_stmt.proofs.StatementParts.{with_credit, pure_follows, then_directly, counted_below}
use Rattle.low_stmt.proofs.Conditions.{Anything}

-- with fewer steps the same is done
pub still_done : {A : Type 0} (t : Terms) (code input : List ℕ) (frame room top m b from : ℕ)
    (ends : A → ℕ) (V : A → State → Type 0) (r : Run A) → b ≤ m
    → IsDone t code input frame room top m from ends V r
    → IsDone t code input frame room top b from ends V r
still_done t code input frame room top m b from ends V r le a store n s few pc ag fr =
    a store n s (omega arith) pc ag fr

-- A loop's code: its test begins at a place, the instruction of a turn is at another and the body
-- after it, which ends before what follows a turn; and the loop ends at a place.
pub record HasTurns (code input : List ℕ) (labels : ℕ → ℕ) (frame room top m : ℕ) (to : Targets)
    (result : Ty) (label start turn after out : ℕ) (test : Run ℕ) (body : Run Flow)
    (step : Run (Unit {0})) : Type 0 where
  pub tests : IsDone for_statement code input frame room top m start
      (λ x. if x == 0 then out else turn) Anything test
  pub own : HasWord code labels turn nothing
  pub executes : IsDone for_statement code input frame room top m (turn + 1)
      (flow_end labels (in_loop label to) after) (FlowLeft result) body
  pub steps : IsDone (with_credit 1) code input frame room top m after (λ u. start) Anything step
  pub continues : labels (label + 1) ≡ after
  pub breaks : labels (label + 2) ≡ out

module _ (code input : List ℕ) (short : length code ≤ CODE_WORDS) (labels : ℕ → ℕ)
    (frame room top m : ℕ) (to : Targets) (result : Ty) (label start turn after out : ℕ)
    (test : Run ℕ) (body : Run Flow) (step : Run (Unit {0}))
    (h : HasTurns code input labels frame room top m to result label start turn after out test body
    step) where
  -- a turn, and what is done then
  pub turn_does : (b : ℕ) (rest : Run Flow) → b ≤ m
      → ((c : ℕ) → c < b → IsDone for_statement code input frame room top c start
      (flow_end labels to out) (FlowLeft result) rest)
      → IsDone for_statement code input frame room top b turn (flow_end labels to out)
      (FlowLeft result) (count >> (body >>= λ f. after_turn f (step >> rest)))
  turn_does b rest le ih =
      counted_below code input short labels frame room top b turn
      (body >>= λ f. after_turn f (step >> rest)) h.own
      (λ c lt.
      then_directly code input short labels frame room top c (with_credit 255) (turn + 1) body
      (λ f. after_turn f (step >> rest)) (omega arith) (omega arith)
      (record { slack = omega arith; over = omega arith })
      (still_done for_statement code input frame room top m c (turn + 1)
      (flow_end labels (in_loop label to) after) (FlowLeft result) body (omega arith) h.executes)
      (go_on c lt))
    where
      again : (c : ℕ) → c < b → IsDone (with_credit 255) code input frame room top c after
          (flow_end labels to out) (FlowLeft result) (step >> rest)
      again c lt =
          then_directly code input short labels frame room top c for_statement after step
          (λ u. rest) (omega arith) (omega arith)
          (record { slack = omega arith; over = omega arith })
          (still_done (with_credit 1) code input frame room top m c after (λ u. start) Anything step
          (omega arith) h.steps)
          (λ u store n s few pc ag fr w. ih c lt store n s few pc ag fr)

      go_on : (c : ℕ) → c < b → (f : Flow) (store : Store) (n : ℕ) (s : State) → n ≤ c
          → s.pc ≡ address_of (flow_end labels (in_loop label to) after f) → Agrees store s
          → Framed frame room store → FlowLeft result f s
          → Follows code input (with_credit 255) store 0 top n (flow_end labels to out) s
          (FlowLeft result) (after_turn f (step >> rest) store n)
      go_on c lt Normal store n s few pc ag fr w = again c lt store n s few pc ag fr
      go_on c lt AtBreak store n s few pc ag fr w =
          pure_follows code input short labels frame room top m Normal store s (omega arith)
          (pc ∙ ap address_of h.breaks) ag tt
      go_on c lt AtContinue store n s few pc ag fr w =
          again c lt store n s few (pc ∙ ap address_of h.continues) ag fr
      go_on c lt (AtReturn v) store n s few pc ag fr w =
          pure_follows code input short labels frame room top m (AtReturn v) store s (omega arith) pc
          ag w

  -- as many turns as there may be
  pub turns_do : (k b : ℕ) → b < k → b ≤ m → IsDone for_statement code input frame room top b start
      (flow_end labels to out) (FlowLeft result) (turns k test body step)
  turns_do zero b lt le = absurd (omega arith)
  turns_do (suc k) b lt le =
      let next = turn_does b (turns k test body step) le (λ c less. turns_do k c (omega arith) (omega arith)) in
      then_directly code input short labels frame room top b for_statement start test
      (λ x. if x == 0 then pure Normal
      else (count >> (body >>= λ f. after_turn f (step >> turns k test body step))))
      (omega arith) (omega arith) (record { slack = omega arith; over = omega arith })
      (still_done for_statement code input frame room top m b start
      (λ x. if x == 0 then out else turn) Anything test le h.tests)
      (λ x store n s few pc ag fr w.
      decided (turns k test body step) b (x == 0) next store n s few pc ag fr)
    where
      decided : (rest : Run Flow) (b : ℕ) (c : Bool)
          → IsDone for_statement code input frame room top b turn (flow_end labels to out)
          (FlowLeft result) (count >> (body >>= λ f. after_turn f (step >> rest)))
          → (store : Store) (n : ℕ) (s : State) → n ≤ b
          → s.pc ≡ address_of (if c then out else turn) → Agrees store s → Framed frame room store
          → Follows code input for_statement store 0 top n (flow_end labels to out) s
          (FlowLeft result)
          ((if c then pure Normal
          else (count >> (body >>= λ f. after_turn f (step >> rest)))) store n)
      decided rest b true next store n s few pc ag fr =
          pure_follows code input short labels frame room top m Normal store s (omega arith) pc ag tt
      decided rest b false next store n s few pc ag fr = next store n s few pc ag fr

  pub loop_does : IsDone for_statement code input frame room top m start (flow_end labels to out)
      (FlowLeft result) (loop test body step)
  loop_does store n s le pc ag fr =
      turns_do (suc n) n (omega arith) le store n s (omega arith) pc ag fr
