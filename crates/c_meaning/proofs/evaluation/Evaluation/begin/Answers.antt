use Rattle.std.proofs.Common.{◌≡◌, ◌∙◌, ℕ, List, [], ◌∷◌, Option, take, sym, ap, subst, reverse}
use Rattle.std.proofs.lemmas.List.{reverse-append}
use Rattle.c_semantics.specs.declared.flow.Flow.{Flow}
use Rattle.c_semantics.specs.declared.flow.Flow.TheVariants.{Normal}
use Rattle.c_semantics.specs.declared.local.Local.{Local}
use Rattle.c_meaning.specs.declared.machine.Machine.{Machine}
use Rattle.c_meaning.specs.declared.pending.Edge.TheVariants as edge
use Rattle.c_meaning.specs.declared.pending.Pending.{Pending}
use Rattle.c_meaning.specs.declared.pending.Task.TheVariants as task
use Rattle.c_meaning.specs.declared.pending.Work.{Work}
use Rattle.c_meaning.specs.declared.pending.Work.TheVariants as item
use Rattle.c_resolve.specs.declared.routine.Parameter.{Parameter}
use Rattle.c_resolve.specs.Actions.{arguments_run, body_run}
use Rattle.c_meaning.specs.private.Called.{entered_after}
use Rattle.c_meaning.specs.private.EvaluatorState.{store_of, Ran}
use Rattle.c_meaning.specs.private.Opened.{opened_all}
use Rattle.c_meaning.specs.private.Pending.{context_at, after}
use Rattle.c_semantics.specs.Run.{Run, ◌>>=◌, ◌>>◌, now, change}
use Rattle.c_meaning.proofs.Halting.{ran_then}
use Rattle.c_meaning.proofs.Living.{with_locals_then, with_open}
use Rattle.c_semantics.proofs.RunLemmas.{assoc}
use Rattle.c_meaning.proofs.evaluation.Evaluation.begin.Goals as goal

pub returns : goal.returns
returns c = λ program.
    let p = c.args.self.now.pending in
    let m = c.args.self.now.machine in
    let r = c.args.routine.now in
    let w : List Work = reverse p.work.items in
    let vs = reverse p.values.items in
    let opened : Machine = c.open_all.new.self in
    let new : Machine = c.pass_all.new.self in
    let live = c.live_count-live.result in
    let context = context_at program p.depth in
    let pass : Run (Unit {0}) = arguments_run context r.parameters.items c.args.arguments.now in
    let body : Run Flow = body_run context r.body.items in
    let rest : Flow → Run (Option ℕ) = λ f. after program w p.depth f vs in
    let closing : ℕ → Flow → Run (Option ℕ) = λ n f. now >>= λ a. change (record a { live = take n a.live }) >> rest f in
    let closes : Work = item.Edge (edge.Close live) in
    let left : Pending = record { work = c.plan.new.work; values = p.values; flow = p.flow; depth = p.depth } in
    let locals : List Local = c.deref-2.result.now in
    let stands : opened ≡ record m { memory = opened_all m.sp r.locals.items m.memory } = c.in_ok-open_all.ensures.opened ∙ ap (λ ls. record m { memory = opened_all m.sp ls m.memory }) c.deref-2.ensures.value in
    let passes = ap (λ (ps : List Parameter). arguments_run context ps c.args.arguments.now) c.deref-3.ensures.value in
    let ran = subst (λ (q : Run (Unit {0})). Ran q opened new c.pass_all.result) passes (c.pass_all.ensures context) in
    let planned = c.in_ok-plan.ensures ∙ ap (λ l. item.Task (task.All c.deref.result) ∷ l) (ap reverse c.in_ok-push.ensures.items ∙ reverse-append p.work.items (closes ∷ [])) in
    let start =
    with_locals_then r.locals.items (pass >> body) rest (store_of m) m.left
    ∙ ap (λ n. ((pass >> body) >>= closing n) (with_open r.locals.items (store_of m)) m.left) (sym c.live_count-live.ensures)
    ∙ ap (λ (k : Machine). ((pass >> body) >>= closing live) (store_of k) k.left) (sym stands)
    ∙ ap (λ (q : Run (Option ℕ)). q (store_of opened) opened.left) (assoc pass (λ _. body) (closing live)) in
    let finish =
    ap (λ bs. (body_run context bs >>= closing live) (store_of new) new.left) (sym c.deref.ensures.value)
    ∙ ap (λ (l : List Work). after program l p.depth Normal vs (store_of new) new.left) (sym planned)
    ∙ ap (λ (f : Flow). after program (reverse c.plan.new.work.items) p.depth f vs (store_of new) new.left) (sym c.requires) in
    ran_then program (entered_after program r c.args.arguments.now c.args.self.now) pass (λ _. body >>= closing live) opened (record { pending = left; machine = new }) c.pass_all.result start ran finish
