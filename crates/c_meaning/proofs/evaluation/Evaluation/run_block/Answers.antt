use Rattle.std.proofs.Common.{◌∙◌, ℕ, List, [], ◌∷◌, Option, take, sym, ap, reverse}
use Rattle.std.proofs.lemmas.List.{reverse-append}
use Rattle.c_semantics.specs.declared.flow.Flow.{Flow}
use Rattle.c_semantics.specs.declared.flow.Flow.TheVariants.{Normal}
use Rattle.c_meaning.specs.declared.machine.Machine.{Machine}
use Rattle.c_meaning.specs.declared.pending.Edge.TheVariants as edge
use Rattle.c_meaning.specs.declared.pending.Task.TheVariants as task
use Rattle.c_meaning.specs.declared.pending.Work.{Work}
use Rattle.c_meaning.specs.declared.pending.Work.TheVariants as item
use Rattle.c_resolve.specs.Actions.{body_run}
use Rattle.c_meaning.specs.private.EvaluatorState.{store_of}
use Rattle.c_meaning.specs.private.Pending.{context_at, after}
use Rattle.c_semantics.specs.Run.{Run, ◌>>=◌, ◌>>◌, now, change}
use Rattle.c_meaning.proofs.Living.{with_locals_then, with_open}
use Rattle.c_meaning.proofs.evaluation.Evaluation.run_block.Goals as goal

pub returns : goal.returns
returns c = λ program.
    let p = c.args.self.now.pending in
    let m = c.args.self.now.machine in
    let w : List Work = reverse p.work.items in
    let vs = reverse p.values.items in
    let new : Machine = c.open_all.new.self in
    let live = c.live_count-live.result in
    let run : Run Flow = body_run (context_at program p.depth) c.args.body.now in
    let rest : Flow → Run (Option ℕ) = λ f. after program w p.depth f vs in
    let behind : ℕ → Run (Option ℕ) = λ n. run >>= λ f. now >>= λ a. change (record a { live = take n a.live }) >> rest f in
    let closing : Work = item.Edge (edge.Close live) in
    let all : Work = item.Task (task.All c.args.body) in
    let planned = c.in_ok-plan.ensures ∙ ap (λ l. all ∷ l) (ap reverse c.in_ok-push.ensures.items ∙ reverse-append p.work.items (closing ∷ [])) in
    with_locals_then c.args.locals.now run rest (store_of m) m.left
    ∙ ap (λ n. behind n (with_open c.args.locals.now (store_of m)) m.left) (sym c.live_count-live.ensures)
    ∙ ap (λ (k : Machine). behind live (store_of k) k.left) (sym c.in_ok-open_all.ensures.opened)
    ∙ ap (λ (l : List Work). after program l p.depth Normal vs (store_of new) new.left) (sym planned)
    ∙ ap (λ (f : Flow). after program (reverse c.plan.new.work.items) p.depth f vs (store_of new) new.left) (sym c.requires)
