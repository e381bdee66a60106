use Rattle.std.proofs.Common.{◌≡◌, ◌∙◌, ◌≤◌, ◌-◌, ℕ, List, ◌∷◌, [], Option, take, drop, length, sym, ap, reverse, arith, slice_index_or}
use Rattle.std.proofs.lemmas.List.{take_all}
use Rattle.c_semantics.specs.declared.flow.Flow.{Flow}
use Rattle.c_semantics.specs.declared.flow.Flow.TheVariants.{Normal}
use Rattle.c_resolve.specs.declared.action.Passed.{Passed}
use Rattle.c_meaning.specs.declared.pending.Work.{Work}
use Rattle.c_resolve.specs.Actions.{passing}
use Rattle.c_meaning.specs.private.EvaluatorState.{store_of}
use Rattle.c_meaning.specs.private.Pending.{context_at, after}
use Rattle.c_semantics.specs.Run.{Run, ◌>>◌}
use Rattle.c_meaning.proofs.Planned.{passing_then}
use Rattle.c_meaning.proofs.evaluation.Evaluation.run_vars.Goals as goal

parted : (l : List Passed) (x : Passed) → 1 ≤ length l
    → l ≡ slice_index_or l 0 x ∷ take (length l - 1) (drop 1 l)
parted [] x some = absurd (omega (arith, some))
parted (p ∷ ps) x some = ap (λ l. p ∷ l) (sym (take_all (length (p ∷ ps) - 1) ps (omega arith)))

pub returns-in_ok-plan-in-len1-up : goal.returns-in_ok-plan-in-len1-up
returns-in_ok-plan-in-len1-up c = λ program.
    let p = c.args.self.now.pending in
    let m = c.args.self.now.machine in
    let vs = reverse p.values.items in
    let context = context_at program p.depth in
    let rest : Run (Option ℕ) = after program (reverse p.work.items) p.depth Normal vs in
    let ps : List Passed = take (length c.args.passed.now - 1) (drop 1 c.args.passed.now) in
    let first : Passed = c.first-item.result in
    let whole = parted c.args.passed.now first c.in-len1-up.len_at_least ∙ ap (λ f. f ∷ ps) (sym c.first-item.is) in
    ap (λ (l : List Passed). (passing context l >> rest) (store_of m) m.left) whole
    ∙ ap (λ (r : Run (Option ℕ)). r (store_of m) m.left) (passing_then context first ps rest)
    ∙ ap (λ (l : List Work). after program l p.depth Normal vs (store_of m) m.left) (sym c.in_ok-plan-in-len1-up.ensures)
    ∙ ap (λ (f : Flow). after program (reverse c.plan.new.work.items) p.depth f vs (store_of m) m.left) (sym c.requires)
