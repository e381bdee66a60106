use Rattle.std.proofs.Common.{◌∙◌, ℕ, List, ◌∷◌, [], ◌++◌, Option, sym, ap, reverse, length, refl}
use Rattle.std.proofs.lemmas.List.{reverse-append}
use Rattle.c_tree.specs.declared.undefined.Undefined.TheVariants.{NoValue}
use Rattle.c_semantics.specs.declared.flow.Flow.TheVariants.{Normal}
use Rattle.c_meaning.specs.declared.pending.Edge.TheVariants as edge
use Rattle.c_meaning.specs.declared.pending.Task.TheVariants as task
use Rattle.c_meaning.specs.declared.pending.Work.{Work}
use Rattle.c_meaning.specs.declared.pending.Work.TheVariants as work
use Rattle.c_resolve.specs.Nodes.{call_of}
use Rattle.c_meaning.specs.private.Pending.{context_at, after, with_value}
use Rattle.c_semantics.specs.Run.{Run, given_or}
use Rattle.c_meaning.proofs.Arguments.{called_then}
use Rattle.c_semantics.proofs.RunLemmas.{assoc}
use Rattle.c_meaning.proofs.planning.evaluating.plan_used_call.Goals as goal

pub returns : goal.returns
returns c = λ program depth vs.
    let w = reverse c.args.work.now.items in
    let planned : List Work = work.Task (task.Values c.args.all) ∷ work.Task (task.Call c.args.target (length c.args.all.now)) ∷ [] in
    let used : Option ℕ → Run ℕ = given_or NoValue c.args.at in
    assoc (call_of (context_at program depth) c.args.target c.args.all.now) used (with_value (after program w depth) vs)
    ∙ called_then program depth c.args.target c.args.all.now (length c.args.all.now) (after program (work.Edge (edge.Use c.args.at) ∷ w) depth) vs refl
    ∙ sym (ap (λ l. after program l depth Normal vs) (c.in_ok-plan.ensures ∙ ap (λ l. planned ++ l) (ap reverse c.in_ok-push.ensures.items ∙ reverse-append c.args.work.now.items (work.Edge (edge.Use c.args.at) ∷ []))))
