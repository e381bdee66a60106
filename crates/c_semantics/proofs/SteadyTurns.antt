-- Loops are steady where their parts are.
use Rattle.std.proofs.Common.{ℕ, zero, suc, ◌+◌, ◌-◌, ◌≤◌, Bool, true, false, arith}
use Rattle.std.specs.Prelude.{if◌then◌else◌, ◌==◌}
use Rattle.byte_lists.proofs.Prefixes.{IsPrefix-refl}
use Rattle.c_semantics.specs.declared.flow.Flow.{Flow}
use Rattle.c_semantics.specs.declared.flow.Flow.TheVariants.{Normal, AtBreak, AtContinue, AtReturn}
use Rattle.c_semantics.specs.Run.{Run, pure}
use Rattle.c_semantics.specs.Exec.{after_turn, next, turns, loop}
use Rattle.c_semantics.proofs.Appends.{Appends, appends_pure, appends_then, appends_count}
use Rattle.c_semantics.proofs.Steady.{Steady, steady_then, steady_count, steady_lower, steady_more, steady_pure, steady_where}
use Rattle.c_semantics.proofs.TurnLemmas.{turn}

appends_where : {A : Type 0} (b : Bool) (v : A) {r : Run A} → Appends r
    → Appends (if b then pure v else r)
appends_where true v a = appends_pure v
appends_where false v a = a

appends_after : (f : Flow) {r : Run Flow} → Appends r → Appends (after_turn f r)
appends_after Normal a = a
appends_after AtBreak a = appends_pure Normal
appends_after AtContinue a = a
appends_after (AtReturn v) a = appends_pure (AtReturn v)

turns_append : (test : Run ℕ) (body : Run Flow) (step : Run (Unit {0})) → Appends test
    → Appends body → Appends step → (n : ℕ) → Appends (turns n test body step)
turns_append test body step t b s zero = λ store. record { grows = λ left. IsPrefix-refl store.output }
turns_append test body step t b s (suc n) =
    let rest = turns_append test body step t b s n in
    appends_then t (λ x. appends_where (x == 0) Normal (appends_count (appends_then b (λ f. appends_after f (appends_then s (λ _. rest))))))

pub steady_after : {k below : ℕ} (f : Flow) {r q : Run Flow} → Steady k below r q
    → Steady k below (after_turn f r) (after_turn f q)
steady_after Normal s = s
steady_after AtBreak s = steady_pure Normal
steady_after AtContinue s = s
steady_after (AtReturn v) s = steady_pure (AtReturn v)

pub steady_next : {k below : ℕ} (f : Flow) {r q : Run Flow} → Steady k below r q
    → Steady k below (next f r) (next f q)
steady_next Normal s = s
steady_next AtBreak s = steady_pure AtBreak
steady_next AtContinue s = steady_pure AtContinue
steady_next (AtReturn v) s = steady_pure (AtReturn v)

module _ {k most : ℕ} {test test' : Run ℕ} {body body' : Run Flow} {step step' : Run (Unit {0})}
    (t : Steady k most test test') (b : Steady k most body body') (s : Steady k most step step') where
  steady_turn : (below : ℕ) {r q : Run Flow} → below ≤ most → Steady k (below - 1) r q
      → Steady k below (turn test body step r) (turn test' body' step' q)
  steady_turn below le h =
      let few = below - 1 in
      steady_then (steady_lower below most le t) (λ x.
      steady_where (x == 0) (steady_pure Normal)
      (steady_lower below (suc few) (omega arith) (steady_count
      (steady_then (steady_lower few most (omega arith) b) (λ f.
      steady_after f (steady_then (steady_lower few most (omega arith) s) (λ _. h)))))))

  steady_turns : (i j below : ℕ) → below ≤ i → i ≤ j → below ≤ most
      → Steady k below (turns i test body step) (turns j test' body' step')
  steady_turns zero j below le wider few =
      steady_lower below 0 le (steady_more (turns_append test' body' step' (λ at. (t at).behind) (λ at. (b at).behind) (λ at. (s at).behind) j))
  steady_turns (suc i) zero below le wider few = absurd (omega arith)
  steady_turns (suc i) (suc j) below le wider few = steady_turn below few (steady_turns i j (below - 1) (omega arith) (omega arith) (omega arith))

  pub steady_loop : Steady k most (loop test body step) (loop test' body' step')
  steady_loop store = record {
    like = record {
      leaves = λ left. (steady_turns (suc left) (suc left) 0 (omega arith) (omega arith) (omega arith) store).like.leaves left;
      same = λ left lt. (steady_turns (suc left) (suc left) (suc left) (omega arith) (omega arith) (omega arith) store).like.same left (omega arith);
    };
    lasts = λ left. (steady_turns (suc left) (suc (left + k)) 0 (omega arith) (omega arith) (omega arith) store).lasts left;
    behind = record { grows = λ left. (steady_turns (suc left) (suc left) 0 (omega arith) (omega arith) (omega arith) store).behind.grows left };
  }
