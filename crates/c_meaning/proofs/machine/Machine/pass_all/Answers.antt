use Rattle.std.proofs.Common.{◌∙◌, ◌+◌, List, drop, sym, ap, subst, slice_index_or}
use Rattle.std.proofs.lemmas.List.{drop_all}
use Rattle.c_semantics.specs.declared.kind.Held.TheVariants.{Byte}
use Rattle.c_resolve.specs.declared.routine.Parameter.{Parameter}
use Rattle.c_resolve.specs.Actions.{arguments_run}
use Rattle.c_meaning.specs.private.Called.{passing_one}
use Rattle.c_meaning.specs.private.EvaluatorState.{store_of, Halts}
use Rattle.c_semantics.specs.Run.{Run, Ended, then_run}
use Rattle.c_meaning.proofs.Arguments.{arguments_at, arguments_none}
use Rattle.c_meaning.proofs.Halting.{halts_then}
use Rattle.c_meaning.proofs.machine.Machine.pass_all.Goals as goal

-- where no parameter is
abbrev none : Parameter
none = record { offset = 0; held = Byte; place = record { line = 0; column = 0 } }

pub returns-in_default : goal.returns-in_default
returns-in_default c = λ context.
    let m = c.loop-parameter.self in
    sym (c.loop-parameter.invariant context)
    ∙ arguments_none context (drop c.loop-parameter.parameter-index c.args.parameters.now) c.loop-parameter.rest.now c.in_default.ensures.value (store_of m) m.left

pub returns-in-Err : goal.returns-in-Err
returns-in-Err c = λ context.
    let m = c.loop-parameter.self in
    let new = c.pass_one.new.self in
    let index = c.loop-parameter.parameter-index in
    let others : Unit {0} → Run (Unit {0}) = λ _. arguments_run context (drop (index + 1) c.args.parameters.now) (drop 1 c.loop-parameter.rest.now) in
    let at = arguments_at context c.args.parameters.now index none c.in-Some.value.now c.loop-parameter.rest.now c.loop-parameter-test.true c.in-Some.ensures.value (store_of m) m.left in
    let first = passing_one (slice_index_or c.args.parameters.now index none) c.in-Some.value.now (store_of m) m.left in
    subst (λ (e : Ended (Unit {0})). Halts e new c.in-Err.why) (sym at ∙ c.loop-parameter.invariant context) (halts_then first others new c.in-Err.why c.in-Err.ensures)

pub loop-parameter-preserved : goal.loop-parameter-preserved
loop-parameter-preserved c = λ context.
    let m = c.loop-parameter.self in
    let new = c.pass_one.new.self in
    let index = c.loop-parameter.parameter-index in
    let ps = drop (index + 1) c.args.parameters.now in
    let at = arguments_at context c.args.parameters.now index none c.in-Some.value.now c.loop-parameter.rest.now c.loop-parameter-test.true c.in-Some.ensures.value (store_of m) m.left in
    ap (λ vs. arguments_run context ps vs (store_of new) new.left) c.past-rest.ensures
    ∙ sym (ap (λ e. then_run e (λ _. arguments_run context ps (drop 1 c.loop-parameter.rest.now))) c.in-Ok.ensures)
    ∙ sym at ∙ c.loop-parameter.invariant context

pub returns : goal.returns
returns c = λ context.
    let m = c.loop-parameter.self in
    sym (c.loop-parameter.invariant context)
    ∙ ap (λ (ps : List Parameter). arguments_run context ps c.loop-parameter.rest.now (store_of m) m.left) (drop_all c.loop-parameter.parameter-index c.args.parameters.now c.loop-parameter-test.false)
