use Rattle.std.proofs.Common.{◌∙◌, ap, sym, subst}
use Rattle.std.specs.Option.{option_copied}
use Rattle.c_semantics.specs.declared.flow.Flow.{Flow}
use Rattle.c_semantics.specs.Run.{Run}
use Rattle.c_resolve.specs.Actions.{action_run, else_run, if_run, block_run, value_run}
use Rattle.c_meaning.specs.private.Turned.{PlansFlow}
use Rattle.c_meaning.proofs.Planned.{plans_flow}
use Rattle.c_resolve.proofs.ActionViews.{block_is, if_is}
use Rattle.c_meaning.proofs.planning.executing.plan_stmt.Goals as goal

pub returns-in_ok-plan_block-in-Block : goal.returns-in_ok-plan_block-in-Block
returns-in_ok-plan_block-in-Block c =
    let e = c.in-Block in
    let old = c.args.work.now.items in
    let new = c.plan_block.new.work.items in
    let first = subst (λ ls. PlansFlow (λ context. block_run context ls c.deref-in-Block-2.result.now) old new) c.deref-in-Block.ensures.value c.in_ok-plan_block-in-Block.ensures in
    let both = subst (λ body. PlansFlow (λ context. block_run context e.locals.items body) old new) c.deref-in-Block-2.ensures.value first in
    plans_flow c.args.action.now (λ context. block_run context e.locals.items e.body.items)
    (λ context. ap (action_run context) e.is ∙ block_is context e.locals e.body)
    old new both

pub returns-in_ok-plan_if-in-If : goal.returns-in_ok-plan_if-in-If
returns-in_ok-plan_if-in-If c =
    let e = c.in-If in
    let old = c.args.work.now.items in
    let new = c.plan_if.new.work.items in
    let branch = c.else_action-branch.result in
    let planned = subst (λ a. PlansFlow (λ context. if_run (value_run context e.test) (action_run context a) (else_run (action_run context) (option_copied branch))) old new) c.deref-in-If.ensures c.in_ok-plan_if-in-If.ensures in
    plans_flow c.args.action.now (λ context. if_run (value_run context e.test) (action_run context e.body.value) (else_run (action_run context) (option_copied branch)))
    (λ context.
    ap (action_run context) e.is
    ∙ (if_is context e.test e.body e.other
    ∙ ap (λ (other : Run Flow). if_run (value_run context e.test) (action_run context e.body.value) other) (sym (c.else_action-branch.ensures context))))
    old new planned
