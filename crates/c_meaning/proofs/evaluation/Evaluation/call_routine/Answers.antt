use Rattle.std.proofs.Common.{◌≡◌, ◌∙◌, ℕ, zero, suc, Option, Some, None, sym, ap, subst, length, refl, ◌-◌, arith}
use Rattle.std.specs.Prelude.{slice_get}
use Rattle.std.proofs.lemmas.Option.{slice_get_past, slice_get_read}
use Rattle.c_resolve.specs.declared.node.Target.TheVariants as target
use Rattle.c_meaning.specs.private.Called.{call_after}
use Rattle.c_semantics.specs.Meaning.{calls_at}
use Rattle.c_resolve.specs.Nodes.{target_run}
use Rattle.c_semantics.specs.Run.{Run, Ended}
use Rattle.c_meaning.specs.private.Turned.{Turned}
use Rattle.c_resolve.proofs.RoutinesLemmas.{entered_at, full_at, missing_at}
use Rattle.c_meaning.specs.private.Pending.{context_at, Program}
use Rattle.c_meaning.proofs.evaluation.Evaluation.call_routine.Goals as goal

pub returns-in_default : goal.returns-in_default
returns-in_default c = λ input text are.
    let e = c.args.self.now in
    let none : slice_get c.args.routines.now c.args.number ≡ None = slice_get_past c.args.routines.now c.args.number c.in_default.ensures.lookup.3 in
    ap (λ (r : Run (Option ℕ)). call_after (record { text = text; input = input }) r e.pending.depth e) (missing_at text c.args.routines.now are input c.args.number c.args.arguments.now none (calls_at text input e.pending.depth))

pub returns-then-self-eq0 : goal.returns-then-self-eq0
returns-then-self-eq0 c = λ input text are.
    let program : Program = record { text = text; input = input } in
    let e = c.args.self.now in
    let arguments = c.args.arguments.now in
    let l = c.in-Some.ensures.lookup in
    let found : slice_get c.args.routines.now c.args.number ≡ Some c.in-Some.routine.now = slice_get_read c.args.routines.now (length c.args.routines.now) c.args.number c.in-Some.routine.now refl l.3.0 l.1 in
    ap (λ n. call_after program (target_run (context_at program n) (target.Function c.args.number) arguments) n e) c.if-self-eq0.true
    ∙ ap (λ (r : Run (Option ℕ)). call_after program r zero e) (full_at text c.args.routines.now are input c.args.number arguments c.in-Some.routine.now found)

pub returns : goal.returns
returns c = λ input text are.
    let program : Program = record { text = text; input = input } in
    let e = c.args.self.now in
    let arguments = c.args.arguments.now in
    let l = c.in-Some.ensures.lookup in
    let found : slice_get c.args.routines.now c.args.number ≡ Some c.in-Some.routine.now = slice_get_read c.args.routines.now (length c.args.routines.now) c.args.number c.in-Some.routine.now refl l.3.0 l.1 in
    let left = e.pending.depth - 1 in
    let deep : e.pending.depth ≡ suc left = omega (arith, c.if-self-eq0.false) in
    let whole =
    ap (λ n. call_after program (target_run (context_at program n) (target.Function c.args.number) arguments) n e) deep
    ∙ ap (λ (r : Run (Option ℕ)). call_after program r (suc left) e) (entered_at text c.args.routines.now are input c.args.number arguments c.in-Some.routine.now found left) in
    subst (λ (end : Ended (Option ℕ)). Turned program end c.enter.new.self c.enter.result) (sym whole) (c.enter.ensures program left deep)
