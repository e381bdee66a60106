use Rattle.std.proofs.Common.{subst}
use Rattle.c_tree.specs.declared.operator.Binary.TheVariants as binary
use Rattle.c_resolve.specs.declared.node.NodeKind.TheVariants as k
use Rattle.c_resolve.specs.Actions.{value_run}
use Rattle.c_semantics.specs.Eval.{strict}
use Rattle.c_resolve.specs.Nodes.{placed, index_run, called, call_of, used}
use Rattle.c_meaning.specs.private.Turned.{Plans}
use Rattle.c_meaning.proofs.Planned.{plans_value}
use Rattle.c_resolve.proofs.ActionViews.{index_is, call_is}
use Rattle.c_meaning.proofs.planning.evaluating.plan_value.Goals as goal

pub returns-in_ok-plan_index-in-Index : goal.returns-in_ok-plan_index-in-Index
returns-in_ok-plan_index-in-Index c =
    let at = c.args.node.now.place in
    let e = c.in-Index in
    let old = c.args.work.now.items in
    let new = c.plan_index.new.work.items in
    let right = subst (λ b. Plans (λ context. index_run e.left e.right e.held at (value_run context c.deref-in-Index.result.now) (value_run context b)) old new) c.deref-in-Index-2.ensures c.in_ok-plan_index-in-Index.ensures in
    let both = subst (λ a. Plans (λ context. index_run e.left e.right e.held at (value_run context a) (value_run context e.b.value)) old new) c.deref-in-Index.ensures right in
    plans_value c.args.node.now (k.Index e.left e.right e.held e.a e.b) e.is
    (λ context.
    placed (index_run e.left e.right e.held at (value_run context e.a.value) (value_run context e.b.value)) (strict binary.Plus e.left e.right at (value_run context e.a.value) (value_run context e.b.value)) at)
    (λ context. index_is context e.left e.right e.held e.a e.b at)
    old new both

pub returns-in_ok-plan_used_call-in-Call : goal.returns-in_ok-plan_used_call-in-Call
returns-in_ok-plan_used_call-in-Call c =
    let at = c.args.node.now.place in
    let e = c.in-Call in
    let old = c.args.work.now.items in
    let new = c.plan_used_call.new.work.items in
    let whole = subst (λ all. Plans (λ context. used (call_of context e.target all) at) old new) c.as_slice.ensures.value c.in_ok-plan_used_call-in-Call.ensures in
    plans_value c.args.node.now (k.Call e.target e.all) e.is
    (λ context. called (call_of context e.target e.all.items) at)
    (λ context. call_is context e.target e.all at)
    old new whole
