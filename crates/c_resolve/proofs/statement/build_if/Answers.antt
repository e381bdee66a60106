use Rattle.std.proofs.Common.{◌∙◌}
use Rattle.c_resolve.specs.Actions.{if_run, else_run, action_run, boxed_run, value_run}
use Rattle.c_resolve.proofs.ActionViews.{if_is}
use Rattle.c_resolve.proofs.statement.build_if.Goals as goal

pub returns : goal.returns
returns c = λ context.
    let act = action_run context in
    if_is context c.args.test c.in_ok-body.body c.args.other
    ∙ (λ i. if_run (value_run context c.args.test) (act (c.in_ok-body.ensures.ok i)) (else_run (boxed_run context) c.args.other))
