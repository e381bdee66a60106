use Rattle.std.proofs.Common.{◌∙◌, sym, ap, reverse}
use Rattle.c_semantics.specs.declared.flow.Flow.TheVariants.{Normal}
use Rattle.c_meaning.specs.private.Acts.{stepped_at}
use Rattle.c_semantics.specs.Eval.{stepped}
use Rattle.c_resolve.specs.Nodes.{runs}
use Rattle.c_meaning.specs.private.Pending.{context_at, after, with_value}
use Rattle.c_semantics.specs.Run.{count, ◌>>=◌, ◌>>◌}
use Rattle.c_semantics.proofs.RunLemmas.{assoc}
use Rattle.c_resolve.proofs.ActionViews.{place_is}
use Rattle.c_meaning.proofs.planning.evaluating.plan_step.Goals as goal

pub returns : goal.returns
unfolding stepped_at
returns c = λ program depth vs.
    let context = context_at program depth in
    let a = c.args.a.now in
    let address = (runs context a).address in
    let rest = with_value (after program (reverse c.args.work.now.items) depth) vs in
    ap (λ own. stepped c.args.how c.args.operand c.args.held own c.args.at address >>= rest) (place_is context a)
    ∙ assoc address (λ x. count >> stepped_at c.args.how c.args.operand c.args.held a.place c.args.at x) rest
    ∙ sym (ap (λ w. after program w depth Normal vs) c.in_ok-plan.ensures)
