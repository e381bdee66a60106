use Rattle.std.proofs.Common.{◌∙◌, sym}
use Rattle.access_log.specs.Held.{has}
use Rattle.conflict_check.specs.Verdict.{register_conflict}
use Rattle.value_check.proofs.FirstOfLemmas.{none-next, some-first}
use Rattle.conflict_check.proofs.VerdictLemmas.{x0-is-the-same}
use Rattle.conflict_check.proofs.registers.registers_conflict.Goals as goal

pub loop-r-init : goal.loop-r-init
loop-r-init c = x0-is-the-same (has c.args.first.now) c.args.seen.now c.args.now.now

pub returns-in-Some : goal.returns-in-Some
returns-in-Some c =
    sym (some-first (register_conflict (has c.args.first.now) c.args.seen.now c.args.now.now) c.loop-r.r 32 _
    c.loop-r-test.true c.loop-r.invariant (sym c.register_conflict.ensures ∙ c.in-Some.is))

pub loop-r-preserved : goal.loop-r-preserved
loop-r-preserved c =
    none-next (register_conflict (has c.args.first.now) c.args.seen.now c.args.now.now) c.loop-r.r
    c.loop-r.invariant (sym c.register_conflict.ensures ∙ c.in_default.is)
