-- `if` and loops by the codes of their parts.
use Rattle.std.proofs.Common.{◌≡◌, ℕ, ◌+◌, ◌≤◌, List, [], ◌∷◌, ◌++◌, length, refl, subst, arith, inr}
use Rattle.std.specs.Prelude.{Bool, true, false, not, ◌==◌, if◌then◌else◌}
use Rattle.bop_bits.specs.declared.map.TheConstants.{CODE_WORDS}
use Rattle.rv_code.specs.State.{State}
use Rattle.c_tree.specs.Ty.{Ty}
use Rattle.c_semantics.specs.declared.flow.Flow.{Flow}
use Rattle.c_semantics.specs.declared.flow.Flow.TheVariants.{Normal}
use Rattle.c_semantics.specs.Run.{Run, pure, count, ◌>>=◌, ◌>>◌}
use Rattle.c_semantics.specs.Exec.{after_turn, loop}
use Rattle.low_labels.specs.Operation.{Operation, width_of}
use Rattle.low_labels.specs.Operation as op
use Rattle.low_labels.specs.declared.test.Test.TheVariants as test
use Rattle.low_labels.specs.Placed.{HasAt}
use Rattle.low_expr.specs.Following.{Terms}
use Rattle.low_expr.proofs.KeptValues.{width-append, has_front, has_back}
use Rattle.low_stmt.specs.StmtCode.{Targets, counted, if_code, loop_code, do_code, in_loop}
use Rattle.low_stmt.specs.StmtSimulation.{IsDone, FlowLeft, flow_end, for_statement}
use Rattle.low_stmt.proofs.StatementParts.{with_credit, weaker, pure_follows, then_directly, jump_does}
use Rattle.low_stmt.proofs.Conditions.{Anything, test_end, if_does}
use Rattle.low_stmt.proofs.Loops.{HasTurns, still_done, turn_does, loop_does}

module _ (code input : List ℕ) (short : length code ≤ CODE_WORDS) (labels : ℕ → ℕ)
    (frame room top m : ℕ) (to : Targets) (result : Ty) where
  -- a part by its code, wherever that is
  abbrev pub Coded : {A : Type 0} → Terms → List Operation → ((end : ℕ) → A → ℕ)
      → (A → State → Type 0) → Run A → Type 0
  Coded t ops ends V r =
      (j : ℕ) → HasAt code labels j ops
      → IsDone t code input frame room top m j (ends (j + width_of ops)) V r

  -- the same end by another name
  pub at_end : {t : Terms} (i end end' : ℕ) (r : Run Flow) → end ≡ end'
      → IsDone t code input frame room top m i (flow_end labels to end) (FlowLeft result) r
      → IsDone t code input frame room top m i (flow_end labels to end') (FlowLeft result) r
  at_end {t = t} i end end' r e a =
      subst (λ z. IsDone t code input frame room top m i (flow_end labels to z) (FlowLeft result) r) e a

  -- what is done and ends normally
  pub normal_does : {t : Terms} (i end : ℕ) (r : Run (Unit {0})) → t.slack ≤ t.credit
      → t.over ≤ t.credit
      → IsDone for_statement code input frame room top m i (λ u. end) Anything r
      → IsDone t code input frame room top m i (flow_end labels to end) (FlowLeft result)
      (r >> pure Normal)
  normal_does i end r slack over a =
      then_directly code input short labels frame room top m for_statement i r (λ u. pure Normal)
      (omega arith) (omega arith) (record { slack = omega arith; over = omega arith }) a
      (λ u store n s le pc ag fr w.
      pure_follows code input short labels frame room top m Normal store s (omega arith) pc ag tt)

  pub if_code_does : (label i : ℕ) (c s other : List Operation) (rc : Run ℕ) (rs ro : Run Flow)
      → HasAt code labels i (if_code label c s other)
      → Coded for_statement c (test_end labels test.Eq label) Anything rc
      → Coded for_statement s (flow_end labels to) (FlowLeft result) rs
      → Coded for_statement other (flow_end labels to) (FlowLeft result) ro
      → IsDone (with_credit 255) code input frame room top m i
      (flow_end labels to (i + width_of (if_code label c s other))) (FlowLeft result)
      (rc >>= λ x. if x == 0 then ro else rs)
  if_code_does label i c s other rc rs ro has hc hs ho =
      at_end i (right + width_of other) (i + width_of (if_code label c s other))
      (rc >>= λ x. if x == 0 then ro else rs) ends_at
      (if_does code input short labels frame room top m to result label i first over right
      (right + width_of other) rc rs ro tail3.1.0 tail5.0 tail3.0
      (hc i (has_front code labels i c last1 has)) (hs first (has_front code labels first s last2 tail2))
      (ho right (has_front code labels right other last3 tail4)))
    where
      last3 : List Operation
      last3 = op.Mark (label + 1) ∷ []

      last2 : List Operation
      last2 = op.Jump 0 (label + 1) ∷ op.Mark label ∷ (other ++ last3)

      last1 : List Operation
      last1 = s ++ last2

      first : ℕ
      first = i + width_of c

      over : ℕ
      over = first + width_of s

      right : ℕ
      right = over + 1

      tail2 : HasAt code labels first (s ++ last2)
      tail2 = has_back code labels i c last1 has

      tail3 : HasAt code labels over last2
      tail3 = has_back code labels first s last2 tail2

      tail4 : HasAt code labels right (other ++ last3)
      tail4 = let e : right + 0 ≡ right = omega arith in
          subst (λ z. HasAt code labels z (other ++ last3)) e tail3.1.1

      tail5 : HasAt code labels (right + width_of other) last3
      tail5 = has_back code labels right other last3 tail4

      ends_at : right + width_of other ≡ i + width_of (if_code label c s other)
      ends_at = omega (arith, width-append c last1, width-append s last2, width-append other last3)

  pub loop_code_does : (label i : ℕ) (c s step : List Operation) (rc : Run ℕ) (rs : Run Flow)
      (rd : Run (Unit {0})) → HasAt code labels i (loop_code label c s step)
      → ((j : ℕ) → HasAt code labels j c → IsDone for_statement code input frame room top m j
      (test_end labels test.Eq (label + 2) (j + width_of c)) Anything rc)
      → ((j : ℕ) → HasAt code labels j s → IsDone for_statement code input frame room top m j
      (flow_end labels (in_loop label to) (j + width_of s)) (FlowLeft result) rs)
      → ((j : ℕ) → HasAt code labels j step → IsDone for_statement code input frame room top m j
      (λ u. j + width_of step) Anything rd)
      → IsDone for_statement code input frame room top m i
      (flow_end labels to (i + width_of (loop_code label c s step))) (FlowLeft result)
      (loop rc rs rd)
  loop_code_does label i c s step rc rs rd has hc hs hd =
      at_end i (labels (label + 2)) (i + width_of (loop_code label c s step)) (loop rc rs rd) ends_at
      (loop_does code input short labels frame room top m to result label i turn after
      (labels (label + 2)) rc rs rd parts)
    where
      last3 : List Operation
      last3 = op.Jump 0 label ∷ op.Mark (label + 2) ∷ []

      last2 : List Operation
      last2 = op.Mark (label + 1) ∷ (step ++ last3)

      last1 : List Operation
      last1 = s ++ last2

      turn : ℕ
      turn = i + width_of c

      after : ℕ
      after = turn + 1 + width_of s

      jump : ℕ
      jump = after + width_of step

      tail1 : HasAt code labels i (c ++ (counted ++ last1))
      tail1 = let e : i + 0 ≡ i = omega arith in
          subst (λ z. HasAt code labels z (c ++ (counted ++ last1))) e has.1

      tail2 : HasAt code labels turn (counted ++ last1)
      tail2 = has_back code labels i c (counted ++ last1) tail1

      tail3 : HasAt code labels after last2
      tail3 = has_back code labels (turn + 1) s last2 tail2.1

      tail4 : HasAt code labels after (step ++ last3)
      tail4 = let e : after + 0 ≡ after = omega arith in
          subst (λ z. HasAt code labels z (step ++ last3)) e tail3.1

      tail5 : HasAt code labels jump last3
      tail5 = has_back code labels after step last3 tail4

      ends_at : labels (label + 2) ≡ i + width_of (loop_code label c s step)
      ends_at =
          omega (
            arith,
            tail5.1.0,
            width-append c (counted ++ last1),
            width-append s last2,
            width-append step last3,
          )

      parts : HasTurns code input labels frame room top m to result label i turn after
          (labels (label + 2)) rc rs rd
      parts = record {
        tests = hc i (has_front code labels i c (counted ++ last1) tail1);
        own = tail2.0;
        executes = hs (turn + 1) (has_front code labels (turn + 1) s last2 tail2.1);
        steps = jump_does code input short labels frame room top m 0 after jump label rd tail5.0
            (λ u. inr (refl, has.0)) (λ u s1 pc k w. tt)
            (hd after (has_front code labels after step last3 tail4));
        continues = tail3.0;
        breaks = refl;
      }

  pub do_code_does : (label i : ℕ) (s c : List Operation) (rs : Run Flow) (rc : Run ℕ)
      → HasAt code labels i (do_code label s c)
      → ((j : ℕ) → HasAt code labels j s → IsDone for_statement code input frame room top m j
      (flow_end labels (in_loop label to) (j + width_of s)) (FlowLeft result) rs)
      → ((j : ℕ) → HasAt code labels j c → IsDone for_statement code input frame room top m j
      (test_end labels test.Ne label (j + width_of c)) Anything rc)
      → IsDone for_statement code input frame room top m i
      (flow_end labels to (i + width_of (do_code label s c))) (FlowLeft result)
      (count >> (rs >>= λ f. after_turn f (loop rc rs (pure tt))))
  do_code_does label i s c rs rc has hs hc =
      at_end i out (i + width_of (do_code label s c))
      (count >> (rs >>= λ f. after_turn f (loop rc rs (pure tt)))) ends_at
      (turn_does code input short labels frame room top m to result label after i after out rc rs
      (pure tt) parts m (loop rc rs (pure tt)) (omega arith)
      (λ b lt. still_done for_statement code input frame room top m b after (flow_end labels to out)
      (FlowLeft result) (loop rc rs (pure tt)) (omega arith)
      (loop_does code input short labels frame room top m to result label after i after out rc rs
      (pure tt) parts)))
    where
      last2 : List Operation
      last2 = op.Mark (label + 1) ∷ (c ++ op.Mark (label + 2) ∷ [])

      last3 : List Operation
      last3 = op.Mark (label + 2) ∷ []

      after : ℕ
      after = i + 1 + width_of s

      out : ℕ
      out = after + width_of c

      tail1 : HasAt code labels i (counted ++ (s ++ last2))
      tail1 = let e : i + 0 ≡ i = omega arith in
          subst (λ z. HasAt code labels z (counted ++ (s ++ last2))) e has.1

      tail2 : HasAt code labels after last2
      tail2 = has_back code labels (i + 1) s last2 tail1.1

      tail3 : HasAt code labels after (c ++ last3)
      tail3 = let e : after + 0 ≡ after = omega arith in
          subst (λ z. HasAt code labels z (c ++ last3)) e tail2.1

      tail4 : HasAt code labels out last3
      tail4 = has_back code labels after c last3 tail3

      ends_at : out ≡ i + width_of (do_code label s c)
      ends_at = omega (arith, width-append s last2, width-append c last3)

      turned : (b : Bool) → (if not b then labels label else out) ≡ (if b then out else i)
      turned true = refl
      turned false = has.0

      parts : HasTurns code input labels frame room top m to result label after i after out rc rs
          (pure tt)
      parts = record {
        tests = λ store n s1 le pc ag fr.
            weaker (rc store n) (omega arith) (omega arith) (omega arith) (omega arith)
            (λ x. turned (x == 0)) (λ x s2 w. w)
            (hc after (has_front code labels after c last3 tail3) store n s1 le pc ag fr);
        own = tail1.0;
        executes = hs (i + 1) (has_front code labels (i + 1) s last2 tail1.1);
        steps = λ store n s1 le pc ag fr.
            pure_follows code input short labels frame room top m tt store s1 (omega arith) pc ag tt;
        continues = tail2.0;
        breaks = tail4.0;
      }
