use Rattle.std.proofs.Common.{◌≡◌, ◌+◌, ◌-◌, sym, ◌∙◌, ap, arith}
use Rattle.rv_code.specs.Step.{step}
use Rattle.rv_code.proofs.SequentialRunLemmas.{run-zero, run-one}
use Rattle.rv_run.proofs.Pauses.{none_of, goes-on, has-room}
use Rattle.rv_run.proofs.run.advance.Goals as goal

-- so many steps as the count rose by
pub returns-then-is_some-clause-run : goal.returns-then-is_some-clause-run
returns-then-is_some-clause-run c =
    let none : c.args.state.now.count - c.args.state.now.count ≡ 0 = omega arith in
    λ before. rw none (run-zero _ _ _)

pub loop-state-init : goal.loop-state-init
loop-state-init c =
    let none : c.args.state.now.count - c.args.state.now.count ≡ 0 = omega arith in
    record {
      ran = λ before. rw none (run-zero _ _ _);
      least = omega arith;
      most = omega arith;
      going = none_of _ (sym c.if-is_some.ensures);
      room = c.requires.room;
      owned = c.requires.owned;
    }

pub returns-in-Some-clause-run : goal.returns-in-Some-clause-run
returns-in-Some-clause-run c =
    let i = c.loop-state.invariant in
    let from = c.args.state.now.count in
    let rose : c.turn.new.state.count - from ≡ c.loop-state.state.count - from + 1 = omega (arith, i.least, c.turn.ensures.count) in
    λ before. rw rose
    (run-one _ _ _ _ ∙ ap (step c.args.job.now.program.code c.args.job.now.input) (i.ran before)
    ∙ c.turn.ensures.step before)

pub loop-state-preserved : goal.loop-state-preserved
loop-state-preserved c =
    let i = c.loop-state.invariant in
    let on = c.turn.ensures.answer in
    let from = c.args.state.now.count in
    let rose : c.turn.new.state.count - from ≡ c.loop-state.state.count - from + 1 = omega (arith, i.least, c.turn.ensures.count) in
    record {
      ran = λ before. rw rose
          (run-one _ _ _ _
          ∙ ap (step c.args.job.now.program.code c.args.job.now.input) (i.ran before)
          ∙ c.turn.ensures.step before);
      least = omega (arith, i.least, c.turn.ensures.count);
      most = omega (arith, i.most, c.turn.ensures.count);
      going = goes-on _ _ (sym on ∙ c.in_default.is);
      room = has-room _ _ (sym on ∙ c.in_default.is) c.turn.ensures.most;
      owned = c.turn.ensures.kept;
    }
