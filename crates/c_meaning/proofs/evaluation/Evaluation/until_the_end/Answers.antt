use Rattle.std.proofs.Common.{◌≡◌, ◌<◌, ◌⊎◌, ◌∙◌, ℕ, false, List, [], ◌∷◌, length, Err, inl, inr, refl, sym, ap, arith}
use Rattle.std.proofs.lemmas.Result.{err_from_is_err_and}
use Rattle.std.specs.Prelude.{◌==◌}
use Rattle.c_meaning.specs.declared.pending.Work.{Work}
use Rattle.c_meaning.proofs.evaluation.Evaluation.until_the_end.Invariants.{rounds}
use Rattle.c_meaning.proofs.evaluation.Evaluation.until_the_end.Goals as goal

-- a round that leaves work takes a step
fewer_rounds : (old new : List Work) (left fewer : ℕ) → false ≡ (length old == 0)
    → (new ≡ []) ⊎ (fewer < left) → rounds new fewer < rounds old left
fewer_rounds [] new left fewer some on = absurd (cc some)
fewer_rounds (w ∷ ws) [] left fewer some on = omega arith
fewer_rounds (w ∷ ws) (v ∷ vs) left fewer some (inl none) = absurd (cc none)
fewer_rounds (w ∷ ws) (v ∷ vs) left fewer some (inr less) = omega arith

pub loop-self-init : goal.loop-self-init
loop-self-init c = λ text are. refl

pub loop-self-smaller : goal.loop-self-smaller
loop-self-smaller c =
    let old = c.loop-self in
    let new = c.until_a_step.new in
    let some = c.loop-self-test.ensures ∙ ap (λ n. n == 0) old.self.pending.work.ok.0 in
    fewer_rounds old.self.pending.work.items new.self.pending.work.items old.self.machine.left new.self.machine.left some c.in_ok-until_a_step.ensures.on

pub loop-self-preserved : goal.loop-self-preserved
loop-self-preserved c = λ text are. c.loop-self.invariant text are ∙ c.in_ok-until_a_step.ensures.turned text are

pub returns-in_err-until_a_step-clause-turned : goal.returns-in_err-until_a_step-clause-turned
returns-in_err-until_a_step-clause-turned c = λ text are.
    let p = err_from_is_err_and c.from_residual.result c.from_residual.ensures.1 in
    let same : c.from_residual.result ≡ c.until_a_step.result = p.1 ∙ (ap Err p.2 ∙ sym c.in_err-until_a_step.was) in
    rw (c.loop-self.invariant text are, same) (c.until_a_step.ensures.turned text are)

pub returns-clause-turned : goal.returns-clause-turned
returns-clause-turned c = c.loop-self.invariant
