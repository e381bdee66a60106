use Rattle.std.proofs.Common.{◌≡◌, ◌∙◌, ℕ, List, ◌∷◌, Option, suc, ◌+◌, sym, ap, reverse, arith}
use Rattle.c_semantics.specs.declared.flow.Flow.{Flow}
use Rattle.c_semantics.specs.declared.flow.Flow.TheVariants.{Normal}
use Rattle.c_meaning.specs.declared.pending.Stage.TheVariants as stage
use Rattle.c_meaning.specs.declared.pending.Task.TheVariants as task
use Rattle.c_meaning.specs.declared.pending.Work.{Work}
use Rattle.c_meaning.specs.declared.pending.Work.TheVariants as work
use Rattle.c_meaning.specs.private.EvaluatorState.{store_of}
use Rattle.c_meaning.specs.private.Pending.{context_at, after, loop_turns}
use Rattle.c_semantics.specs.Run.{Run, ◌>>=◌}
use Rattle.c_meaning.proofs.evaluation.Evaluation.begin_loop.Goals as goal

pub returns : goal.returns
returns c = λ program.
    let p = c.args.self.now.pending in
    let m = c.args.self.now.machine in
    let vs = reverse p.values.items in
    let rest : Flow → Run (Option ℕ) = λ f. after program (reverse p.work.items) p.depth f vs in
    let looped : ℕ → Work = λ n. work.Task (task.Loop (stage.Tests n) c.args.parts) in
    let one : suc m.left ≡ m.left + 1 = omega arith in
    ap (λ n. (loop_turns (context_at program p.depth) c.args.parts n >>= rest) (store_of m) m.left) one
    ∙ ap (λ n. after program (looped n ∷ reverse p.work.items) p.depth Normal vs (store_of m) m.left) (sym c.in-Some.ensures.1)
    ∙ ap (λ (l : List Work). after program l p.depth Normal vs (store_of m) m.left) (sym c.in_ok-plan.ensures)
    ∙ ap (λ (f : Flow). after program (reverse c.plan.new.work.items) p.depth f vs (store_of m) m.left) (sym c.requires)
