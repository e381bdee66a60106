use Rattle.std.proofs.Common.{◌∙◌, sym, ap, reverse}
use Rattle.c_semantics.specs.declared.flow.Flow.TheVariants.{Normal}
use Rattle.c_resolve.specs.Actions.{value_run}
use Rattle.c_semantics.specs.Eval.{assigned, assign_run}
use Rattle.c_resolve.specs.Nodes.{runs}
use Rattle.c_meaning.specs.private.Pending.{context_at, after, with_value}
use Rattle.c_semantics.specs.Run.{count, ◌>>=◌, ◌>>◌}
use Rattle.c_semantics.proofs.RunLemmas.{assoc_two}
use Rattle.c_resolve.proofs.ActionViews.{place_is}
use Rattle.c_meaning.proofs.planning.evaluating.plan_assign.Goals as goal

pub returns : goal.returns
returns c = λ program depth vs.
    let context = context_at program depth in
    let a = c.args.a.now in
    let b = value_run context c.args.b.now in
    let address = (runs context a).address in
    let rest = with_value (after program (reverse c.args.work.now.items) depth) vs in
    ap (λ own. assign_run c.args.how c.args.left c.args.right c.args.held own c.args.at address b >>= rest) (place_is context a)
    ∙ assoc_two b (λ x v. count >> assigned c.args.how c.args.left c.args.right c.args.held a.place c.args.at x v) rest address
    ∙ sym (ap (λ w. after program w depth Normal vs) c.in_ok-plan.ensures)
