use Rattle.std.proofs.Common.{◌∙◌, ℕ, List, Option, drop, take, reverse, sym, ap, subst}
use Rattle.c_semantics.specs.declared.flow.Flow.TheVariants.{AtReturn}
use Rattle.c_meaning.specs.declared.machine.Machine.{Machine}
use Rattle.c_meaning.specs.private.EvaluatorState.{store_of}
use Rattle.c_resolve.specs.Nodes.{target_run}
use Rattle.c_meaning.specs.private.Pending.{context_at, Program, after}
use Rattle.c_semantics.specs.Run.{Run, Ended, then_run, ◌>>=◌}
use Rattle.c_meaning.specs.private.Turned.{Turned}
use Rattle.c_meaning.proofs.evaluation.Evaluation.run_call.Goals as goal

pub returns : goal.returns
returns c = λ text are.
    let program : Program = record { text = text; input = c.args.input.now } in
    let p = c.args.self.now.pending in
    let m = c.args.self.now.machine in
    let counted : Machine = c.count.new.self in
    let vs = reverse p.values.items in
    let count = c.args.count in
    let go : List ℕ → List ℕ → Run (Option ℕ) = λ arguments left. target_run (context_at program p.depth) c.args.target arguments >>= λ v. after program (reverse p.work.items) p.depth (AtReturn v) left in
    let whole =
    ap (λ e. then_run e (λ _. go (reverse (take count vs)) (drop count vs))) c.in_ok-count.ensures.ran
    ∙ ap (λ xs. go xs (drop count vs) (store_of counted) counted.left) (sym c.in_ok-arguments.ensures.taken)
    ∙ ap (λ xs. go xs (drop count vs) (store_of counted) counted.left) (sym c.deref.ensures.value)
    ∙ ap (λ xs. go c.deref.result.now xs (store_of counted) counted.left) (sym c.in_ok-arguments.ensures.left) in
    subst (λ (e : Ended (Option ℕ)). Turned program e c.run_target.new.self c.run_target.result) (sym whole) (c.run_target.ensures text are)
