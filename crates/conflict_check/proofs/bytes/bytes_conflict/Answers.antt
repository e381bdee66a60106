use Rattle.std.proofs.Common.{◌∙◌, sym}
use Rattle.access_log.specs.Held.{has}
use Rattle.bop_bits.specs.declared.map.TheConstants.{PAGE_BYTES}
use Rattle.conflict_check.specs.Verdict.{byte_conflict}
use Rattle.value_check.proofs.FirstOfLemmas.{first_of-zero, none-next, some-first}
use Rattle.conflict_check.proofs.bytes.bytes_conflict.Goals as goal

pub loop-place-init : goal.loop-place-init
loop-place-init c =
    first_of-zero (byte_conflict (has c.args.first.now) (has c.args.changed.now) c.args.seen.now.bytes c.args.now.now.bytes c.args.class c.args.page)

pub returns-in-Some : goal.returns-in-Some
returns-in-Some c =
    sym (some-first (byte_conflict (has c.args.first.now) (has c.args.changed.now) c.args.seen.now.bytes c.args.now.now.bytes c.args.class c.args.page)
    c.loop-place.place PAGE_BYTES _ c.loop-place-test.true c.loop-place.invariant (sym c.byte_conflict.ensures ∙ c.in-Some.is))

pub loop-place-preserved : goal.loop-place-preserved
loop-place-preserved c =
    none-next (byte_conflict (has c.args.first.now) (has c.args.changed.now) c.args.seen.now.bytes c.args.now.now.bytes c.args.class c.args.page)
    c.loop-place.place c.loop-place.invariant (sym c.byte_conflict.ensures ∙ c.in_default.is)
