use Rattle.std.proofs.Common.{◌∙◌, List, [], ◌∷◌, ◌++◌, Some, None, sym, ap, reverse}
use Rattle.std.proofs.lemmas.List.{reverse-append}
use Rattle.c_semantics.specs.declared.flow.Flow.{Flow}
use Rattle.c_semantics.specs.declared.flow.Flow.TheVariants.{Normal}
use Rattle.c_meaning.specs.declared.pending.Edge.TheVariants as edge
use Rattle.c_meaning.specs.declared.pending.Loop.{Loop}
use Rattle.c_meaning.specs.declared.pending.Stage.TheVariants as stage
use Rattle.c_meaning.specs.declared.pending.Task.TheVariants as task
use Rattle.c_meaning.specs.declared.pending.Work.{Work}
use Rattle.c_meaning.specs.declared.pending.Work.TheVariants as work
use Rattle.c_resolve.specs.Actions.{action_run, value_run}
use Rattle.c_semantics.specs.Exec.{after_turn, loop}
use Rattle.c_meaning.specs.private.Pending.{context_at, Rest, after}
use Rattle.c_semantics.specs.Run.{Run, ◌>>=◌, ◌>>◌, count, pure}
use Rattle.c_semantics.proofs.RunLemmas.{assoc}
use Rattle.c_meaning.proofs.planning.executing.plan_do.Goals as goal

pub returns : goal.returns
returns c = λ program depth vs.
    let context = context_at program depth in
    let rest : Rest = after program (reverse c.args.work.now.items) depth in
    let body = action_run context c.args.body.now in
    let again : Flow → Run Flow = λ f. after_turn f (loop (value_run context c.args.test.now) body (pure tt)) in
    let parts : Loop = record { test = Some c.args.test; step = None; body = c.args.body } in
    let turned : Work = work.Edge (edge.Turned stage.Begins parts) in
    let planned : List Work = work.Task task.Count ∷ work.Task task.Count ∷ work.Task (task.Execute c.args.body) ∷ [] in
    assoc count (λ _. count >> (body >>= again)) (λ f. rest f vs)
    ∙ (λ i. count >> (assoc count (λ _. body >>= again) (λ f. rest f vs) ∙ (λ j. count >> assoc body again (λ f. rest f vs) j)) i)
    ∙ sym (ap (λ l. after program l depth Normal vs) (c.in_ok-plan.ensures ∙ ap (λ l. planned ++ l) (ap reverse c.in_ok-push.ensures.items ∙ reverse-append c.args.work.now.items (turned ∷ []))))
