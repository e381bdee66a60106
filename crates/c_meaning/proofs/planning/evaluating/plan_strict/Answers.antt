use Rattle.std.proofs.Common.{◌∙◌, sym, ap, reverse}
use Rattle.c_semantics.specs.declared.flow.Flow.TheVariants.{Normal}
use Rattle.c_resolve.specs.Actions.{value_run}
use Rattle.c_semantics.specs.Eval.{binary_act}
use Rattle.c_meaning.specs.private.Pending.{context_at, after, with_value}
use Rattle.c_semantics.specs.Run.{count, ◌>>◌}
use Rattle.c_semantics.proofs.RunLemmas.{assoc_two}
use Rattle.c_meaning.proofs.planning.evaluating.plan_strict.Goals as goal

pub returns : goal.returns
returns c = λ program depth vs.
    let context = context_at program depth in
    assoc_two (value_run context c.args.b.now) (λ x y. count >> binary_act c.args.act.op c.args.act.left c.args.act.right x y c.args.act.at) (with_value (after program (reverse c.args.work.now.items) depth) vs) (value_run context c.args.a.now)
    ∙ sym (ap (λ w. after program w depth Normal vs) c.in_ok-plan.ensures)
