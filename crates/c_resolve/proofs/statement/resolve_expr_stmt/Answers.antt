use Rattle.std.proofs.Common.{ap, ◌∙◌}
use Rattle.c_resolve.specs.Actions.{expr_run}
use Rattle.c_resolve.specs.Nodes.{Runs}
use Rattle.c_resolve.proofs.ActionViews.{evaluate_is}
use Rattle.c_resolve.proofs.statement.resolve_expr_stmt.Goals as goal

pub returns : goal.returns
returns c = λ places gives at context.
    evaluate_is context c.in_ok-resolve.field-0.node
    ∙ ap (λ (r : Runs). expr_run r.unused) (c.in_ok-resolve.ensures.means context)
