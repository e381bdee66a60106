-- Work that is planned for a node is planned for what its kind is.
use Rattle.std.proofs.Common.{◌≡◌, ◌∙◌, ℕ, List, ◌∷◌, Option, ap, reverse}
use Rattle.c_resolve.specs.declared.action.Action.{Action}
use Rattle.c_resolve.specs.declared.action.Passed.{Passed}
use Rattle.c_semantics.specs.declared.flow.Flow.{Flow}
use Rattle.c_semantics.specs.declared.flow.Flow.TheVariants.{Normal}
use Rattle.c_resolve.specs.declared.node.Node.{Node}
use Rattle.c_resolve.specs.declared.node.NodeKind.{NodeKind}
use Rattle.c_meaning.specs.declared.pending.Work.{Work}
use Rattle.c_resolve.specs.Actions.{value_run, unused_run, init_run, passing, action_run}
use Rattle.c_resolve.specs.Nodes.{Runs, runs, runs_of_kind, at_place}
use Rattle.c_meaning.specs.private.Pending.{context_at, after, with_value}
use Rattle.c_semantics.specs.Run.{Run, ◌>>=◌, ◌>>◌}
use Rattle.c_meaning.specs.private.Turned.{Plans, PlansNothing, PlansFlow}
use Rattle.c_semantics.proofs.RunLemmas.{assoc}
use Rattle.c_resolve.proofs.ActionViews.{node_is}
use Rattle.c_resolve.specs.Context.{Context}

module _ (n : Node) (kind : NodeKind) (is : n.kind ≡ kind) (r : Context → Runs) (same : (context : Context) → runs_of_kind context kind n.place ≡ r context) where
  pub runs_are : (context : Context)
      → runs context n ≡ record (r context) { place = n.place }
  runs_are context =
      node_is context n
      ∙ ap (λ k. at_place (runs_of_kind context k) n.place) is
      ∙ ap {A = Runs} (λ r. record r { place = n.place }) (same context)

  pub plans_value : (old new : List Work)
      → Plans (λ context. (r context).value) old new
      → Plans (λ context. value_run context n) old new
  plans_value old new p = λ program depth vs.
      ap (λ s. s.value >>= with_value (after program (reverse old) depth) vs) (runs_are (context_at program depth))
      ∙ p program depth vs

  pub plans_nothing : (old new : List Work)
      → PlansNothing (λ context. (r context).unused) old new
      → PlansNothing (λ context. unused_run context n) old new
  plans_nothing old new p = λ program depth vs.
      ap (λ s. s.unused >>= λ _. after program (reverse old) depth Normal vs) (runs_are (context_at program depth))
      ∙ p program depth vs

-- and for an action, what is planned for what it is
pub plans_flow : (a : Action) (r : Context → Run Flow)
    → ((context : Context)
    → action_run context a ≡ r context)
    → (old new : List Work) → PlansFlow r old new → PlansFlow (λ context. action_run context a) old new
plans_flow a r same old new p = λ program depth vs.
    ap (λ s. s >>= λ f. after program (reverse old) depth f vs) (same (context_at program depth))
    ∙ p program depth vs

-- declarators that are passed are passed one behind the other
pub passing_then : (context : Context) (p : Passed)
    (ps : List Passed) (rest : Run (Option ℕ))
    → (passing context (p ∷ ps) >> rest) ≡ (init_run context p.local p.place p.begun >> (passing context ps >> rest))
passing_then context p ps rest = assoc (init_run context p.local p.place p.begun) (λ _. passing context ps) (λ _. rest)
