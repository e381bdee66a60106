use Rattle.std.proofs.Common.{subst}
use Rattle.c_resolve.specs.declared.node.NodeKind.TheVariants as k
use Rattle.c_resolve.specs.Nodes.{called, call_of, ignored}
use Rattle.c_meaning.specs.private.Turned.{PlansNothing}
use Rattle.c_meaning.proofs.Planned.{plans_nothing}
use Rattle.c_resolve.proofs.ActionViews.{call_is}
use Rattle.c_meaning.proofs.planning.evaluating.plan_unused.Goals as goal

pub returns-in_ok-plan_unused_call-in-Call : goal.returns-in_ok-plan_unused_call-in-Call
returns-in_ok-plan_unused_call-in-Call c =
    let at = c.args.node.now.place in
    let e = c.in-Call in
    let old = c.args.work.now.items in
    let new = c.plan_unused_call.new.work.items in
    let whole = subst (λ all. PlansNothing (λ context. ignored (call_of context e.target all)) old new) c.as_slice.ensures.value c.in_ok-plan_unused_call-in-Call.ensures in
    plans_nothing c.args.node.now (k.Call e.target e.all) e.is
    (λ context. called (call_of context e.target e.all.items) at)
    (λ context. call_is context e.target e.all at)
    old new whole
