use Rattle.std.proofs.Common.{◌≡◌, ◌∙◌, ℕ, List, [], ◌∷◌, ◌++◌, Option, Err, refl, sym, ap, reverse, append-nil}
use Rattle.std.proofs.lemmas.List.{reverse-append}
use Rattle.std.proofs.lemmas.Result.{err_from_is_err_and}
use Rattle.c_meaning.specs.declared.pending.Work.{Work}
use Rattle.c_meaning.specs.private.EvaluatorState.{store_of}
use Rattle.c_meaning.specs.private.Pending.{Program, after}
use Rattle.c_semantics.specs.Run.{Ended}
use Rattle.c_meaning.specs.private.Turned.{all_after}
use Rattle.c_meaning.specs.declared.evaluation.Evaluation.{Evaluation}
use Rattle.c_meaning.proofs.evaluation.Evaluation.until_a_step.Goals as goal

module _ (program : Program) (e : Evaluation) where
  abbrev working : List Work → Ended (Option ℕ)
  working w = after program w e.pending.depth e.pending.flow (reverse e.pending.values.items) (store_of e.machine) e.machine.left

  -- the last piece of work that is kept is the next one
  taken : (left : List Work) (w : Work) → e.pending.work.items ≡ left ++ w ∷ []
      → all_after program e ≡ working (w ∷ reverse left)
  taken left w is = ap working (ap reverse is ∙ reverse-append left (w ∷ []))

  none_taken : (left : List Work) → e.pending.work.items ≡ left ++ []
      → all_after program e ≡ working (reverse left)
  none_taken left is = ap (λ w. working (reverse w)) (is ∙ append-nil left)

pub loop-init : goal.loop-init
loop-init c = λ text are. refl

pub returns-in_default-clause-turned : goal.returns-in_default-clause-turned
returns-in_default-clause-turned c = λ text are.
    c.loop.invariant text are ∙ none_taken (record { text = text; input = c.args.input.now }) c.loop.self c.pop.new.self.items c.in_default.ensures.items

pub returns-in_err-turn-clause-turned : goal.returns-in_err-turn-clause-turned
returns-in_err-turn-clause-turned c = λ text are.
    let p = err_from_is_err_and c.from_residual.result c.from_residual.ensures.1 in
    let same : c.from_residual.result ≡ c.turn.result = p.1 ∙ (ap Err p.2 ∙ sym c.in_err-turn.was) in
    let next = c.loop.invariant text are ∙ taken (record { text = text; input = c.args.input.now }) c.loop.self c.pop.new.self.items c.in-Some.work c.in-Some.ensures.items in
    rw (next, same) (c.turn.ensures text are)

pub returns-then-self-before-clause-turned : goal.returns-then-self-before-clause-turned
returns-then-self-before-clause-turned c = λ text are.
    c.loop.invariant text are ∙ taken (record { text = text; input = c.args.input.now }) c.loop.self c.pop.new.self.items c.in-Some.work c.in-Some.ensures.items ∙ c.in_ok-turn.ensures text are

pub loop-preserved : goal.loop-preserved
loop-preserved c = λ text are.
    c.loop.invariant text are ∙ taken (record { text = text; input = c.args.input.now }) c.loop.self c.pop.new.self.items c.in-Some.work c.in-Some.ensures.items ∙ c.in_ok-turn.ensures text are
