-- Each turn of a loop takes a step, so the bound on a loop's tests is never met: a loop is a turn, and then the loop again.
use Rattle.std.proofs.Common.{◌≡◌, ℕ, zero, suc, ◌+◌, ◌-◌, ◌≤◌, Bool, true, false, sym, arith}
use Rattle.std.specs.Prelude.{if◌then◌else◌, ◌==◌}
use Rattle.c_semantics.specs.declared.flow.Flow.{Flow}
use Rattle.c_semantics.specs.declared.flow.Flow.TheVariants.{Normal, AtBreak, AtContinue, AtReturn}
use Rattle.c_semantics.specs.Run.{Store, Run, pure, ◌>>=◌, ◌>>◌, count}
use Rattle.c_semantics.specs.Exec.{after_turn, turns, loop}
use Rattle.c_semantics.proofs.Spends.{Spends, Like, like_itself, like_lower, like_pure, like_then, like_count}

-- a test and, where it holds, a turn with what follows it
abbrev pub turn : Run ℕ → Run Flow → Run (Unit {0}) → Run Flow → Run Flow
turn test body step rest = do
  x ← test
  if x == 0 then pure Normal else (do
    count
    f ← body
    after_turn f (step >> rest))

like_where : {A : Type 0} {below : ℕ} (b : Bool) (v : A) {r q : Run A} → Like below r q
    → Like below (if b then pure v else r) (if b then pure v else q)
like_where true v h = like_pure v
like_where false v h = h

like_after : {below : ℕ} (f : Flow) {r q : Run Flow} → Like below r q
    → Like below (after_turn f r) (after_turn f q)
like_after Normal h = h
like_after AtBreak h = like_pure Normal
like_after AtContinue h = h
like_after (AtReturn v) h = like_pure (AtReturn v)

module _ (test : Run ℕ) (body : Run Flow) (step : Run (Unit {0})) (t : Spends test) (b : Spends body) (s : Spends step) where
  like_turn : (below : ℕ) {r q : Run Flow} → Like below r q
      → Like (suc below) (turn test body step r) (turn test body step q)
  like_turn below h =
      like_then (like_itself t) (λ x. like_where (x == 0) Normal
      (like_count (like_then (like_itself b) (λ f. like_after f (like_then (like_itself s) (λ _. h))))))

  turns_spend : (n : ℕ) → Spends (turns n test body step)
  turns_spend zero = record { leaves = λ store left. tt }
  turns_spend (suc n) = record { leaves = λ store. (like_turn 0 (like_itself (turns_spend n)) store).leaves }

  like_turns : (i j below : ℕ) → below ≤ i → below ≤ j
      → Like below (turns i test body step) (turns j test body step)
  like_turns zero j below le also = λ store. record { leaves = λ left. tt; same = λ left lt. absurd (omega arith) }
  like_turns (suc i) zero below le also = λ store. record { leaves = (turns_spend (suc i)).leaves store; same = λ left lt. absurd (omega arith) }
  like_turns (suc i) (suc j) below le also =
      like_lower below (suc (below - 1)) (omega arith) (like_turn (below - 1) (like_turns i j (below - 1) (omega arith) (omega arith)))

  like_loop : (n : ℕ) → Like n (turns n test body step) (loop test body step)
  like_loop n store = record {
    leaves = (turns_spend n).leaves store;
    same = λ left lt. (like_turns n (suc left) (suc left) (omega arith) (omega arith) store).same left (omega arith);
  }

  -- a bound that is above the steps makes no difference
  pub turns_stay : (k : ℕ) (store : Store) (left : ℕ)
      → turns (suc left + k) test body step store left ≡ turns (suc left) test body step store left
  turns_stay k store left = (like_turns (suc left) (suc left + k) (suc left) (omega arith) (omega arith) store).same left (omega arith)

  pub loop_spends : Spends (loop test body step)
  loop_spends = record { leaves = λ store left. (turns_spend (suc left)).leaves store left }

  -- a loop is one turn, and then the loop
  pub loop_turns : (store : Store) (left : ℕ)
      → loop test body step store left ≡ turn test body step (loop test body step) store left
  loop_turns store left = sym ((like_turn left (like_loop left) store).same left (omega arith))
