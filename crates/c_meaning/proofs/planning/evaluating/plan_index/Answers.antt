use Rattle.std.proofs.Common.{ℕ, ◌∙◌, sym, ap, reverse}
use Rattle.c_tree.specs.declared.operator.Binary.TheVariants as binary
use Rattle.c_semantics.specs.declared.flow.Flow.TheVariants.{Normal}
use Rattle.c_resolve.specs.Actions.{value_run}
use Rattle.c_semantics.specs.Eval.{binary_act, strict}
use Rattle.c_semantics.specs.Memory.{value_at}
use Rattle.c_meaning.specs.private.Pending.{context_at, after, with_value}
use Rattle.c_semantics.specs.Run.{Run, count, ◌>>=◌, ◌>>◌}
use Rattle.c_semantics.proofs.RunLemmas.{assoc, assoc_two}
use Rattle.c_meaning.proofs.planning.evaluating.plan_index.Goals as goal

pub returns : goal.returns
returns c = λ program depth vs.
    let context = context_at program depth in
    let a = value_run context c.args.a.now in
    let b = value_run context c.args.b.now in
    let held : ℕ → Run ℕ = λ x. value_at c.args.held x c.args.at in
    let rest = with_value (after program (reverse c.args.work.now.items) depth) vs in
    assoc (strict binary.Plus c.args.left c.args.right c.args.at a b) held rest
    ∙ assoc_two b (λ x y. count >> binary_act binary.Plus c.args.left c.args.right x y c.args.at) (λ x. held x >>= rest) a
    ∙ sym (ap (λ w. after program w depth Normal vs) c.in_ok-plan.ensures)
