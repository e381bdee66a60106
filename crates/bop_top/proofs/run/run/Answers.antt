use Rattle.std.proofs.Common.{◌≡◌, ◌+◌, ◌-◌, ◌≤◌, Ok, refl, ◌∙◌, subst, arith}
use Rattle.bop_ends.specs.declared.fault.Failed.{Failed}
use Rattle.bop_ends.specs.Ends.{HasCause}
use Rattle.bop_top.proofs.Running.{count-at_start, stands-at_start, stands-moved, advanced, broken, finished, over}
use Rattle.bop_top.proofs.run.run.Goals as goal

pub loop-count-init : goal.loop-count-init
loop-count-init g c =
    let none = count-at_start c.args.job.now.program c.args.state.now c.requires.start in
    record {
      stands = stands-at_start c.args.job.now.program c.args.job.now.input c.args.state.now _ c.requires.start;
      empty = c.new-piece.ensures;
      owned = c.requires.owned;
      faults = refl;
      count = omega arith;
      few = omega arith;
    }

pub loop-count-preserved : goal.loop-count-preserved
loop-count-preserved g c =
    let i = c.loop-count.invariant in
    let ran = c.advance-paused.ensures in
    let flushed = c.in-Ok.ensures in
    let more = c.in-Full.ensures.moved refl in
    record {
      stands = stands-moved _ _ c.loop-count.state c.advance-paused.new.state _ _ _ _ _ _ _ i.stands i.empty ran.least (ran.run i.stands.done) flushed.moved flushed.count;
      empty = flushed.empty;
      owned = ran.kept;
      faults = flushed.cause.kept ∙ i.faults;
      count = omega (arith, ran.most, i.count);
      few = omega (arith, i.few, flushed.most, more);
    }

pub returns-in_default-clause-passed : goal.returns-in_default-clause-passed
returns-in_default-clause-passed g c =
    let i = c.loop-count.invariant in
    let ran = c.advance-paused.ensures in
    let low : c.advance-paused.new.state.count ≤ c.args.job.now.budget = omega (arith, ran.most, i.count) in
    broken _ _ c.loop-count.state c.advance-paused.new.state _ _ _ _ _ _ _ _ i.stands i.empty ran.least low (ran.run i.stands.done) c.in_default.ensures.part

pub returns-in_default-paused : goal.returns-in_default-paused
returns-in_default-paused g c =
    let i = c.loop-count.invariant in
    let program = c.args.job.now.program in
    let input = c.args.job.now.input in
    let s = c.loop-count.state in
    let t = c.advance-paused.new.state in
    let budget = c.args.job.now.budget in
    let ran = c.advance-paused.ensures in
    let flushed = c.in-Ok.ensures in
    let low : t.count ≤ budget = omega (arith, ran.most, i.count) in
    let all : s.count + (budget - s.count) ≡ budget = omega (arith, i.count) in
    let here = advanced program input s t i.stands.done _ _ i.empty ran.least i.stands.state (ran.run i.stands.done) in
    let end = over program input t _ c.advance-paused.new.out budget (budget - s.count) s.count c.advance-paused.result here ran.answer c.in_default-paused.not-Full ran.took all low in
    record {
      passed = finished program input s t _ _ _ _ _ budget _ _ i.stands i.empty ran.least low (ran.run i.stands.done) end flushed.moved flushed.count;
      cause = subst (λ n. HasCause {T = Unit {0}} {E = Failed} n (g.K.Sink.faults c.flush.new.sink) (Ok tt)) i.faults (record { later = flushed.cause.later; failed = tt; kept = flushed.cause.kept });
    }
