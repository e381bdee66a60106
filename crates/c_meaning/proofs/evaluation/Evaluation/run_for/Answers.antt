use Rattle.std.proofs.Common.{◌∙◌, ℕ, List, [], ◌∷◌, Option, take, sym, ap, reverse}
use Rattle.std.proofs.lemmas.List.{reverse-append}
use Rattle.c_semantics.specs.declared.flow.Flow.{Flow}
use Rattle.c_meaning.specs.declared.machine.Machine.{Machine}
use Rattle.c_meaning.specs.declared.pending.Edge.TheVariants as edge
use Rattle.c_meaning.specs.declared.pending.Work.{Work}
use Rattle.c_meaning.specs.declared.pending.Work.TheVariants as item
use Rattle.c_meaning.specs.private.EvaluatorState.{store_of}
use Rattle.c_meaning.specs.private.Pending.{context_at, after, begun_loop}
use Rattle.c_semantics.specs.Run.{Run, ◌>>=◌, ◌>>◌, now, change}
use Rattle.c_meaning.proofs.Living.{with_locals_then, with_open}
use Rattle.c_meaning.proofs.evaluation.Evaluation.run_for.Goals as goal

pub returns : goal.returns
returns c = λ program.
    let p = c.args.self.now.pending in
    let m = c.args.self.now.machine in
    let w : List Work = reverse p.work.items in
    let vs = reverse p.values.items in
    let new : Machine = c.open_all.new.self in
    let live = c.live_count-live.result in
    let run : Run Flow = begun_loop (context_at program p.depth) c.args.first.now c.args.parts in
    let rest : Flow → Run (Option ℕ) = λ f. after program w p.depth f vs in
    let behind : ℕ → Run (Option ℕ) = λ n. run >>= λ f. now >>= λ a. change (record a { live = take n a.live }) >> rest f in
    let closing : Work = item.Edge (edge.Close live) in
    let closed = ap reverse c.in_ok-push.ensures.items ∙ reverse-append p.work.items (closing ∷ []) in
    with_locals_then c.args.locals.now run rest (store_of m) m.left
    ∙ ap (λ n. behind n (with_open c.args.locals.now (store_of m)) m.left) (sym c.live_count-live.ensures)
    ∙ ap (λ (k : Machine). behind live (store_of k) k.left) (sym c.in_ok-open_all.ensures.opened)
    ∙ ap (λ (l : List Work). (run >>= λ f. after program l p.depth f vs) (store_of new) new.left) (sym closed)
    ∙ ap (λ (r : Run (Option ℕ)). r (store_of new) new.left) (c.in_ok-plan_first.ensures program p.depth vs)
    ∙ ap (λ (f : Flow). after program (reverse c.plan_first.new.work.items) p.depth f vs (store_of new) new.left) (sym c.requires)
