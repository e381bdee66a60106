use Rattle.std.proofs.Common.{◌∙◌, sym}
use Rattle.bop_bits.specs.BitSets.{is_in}
use Rattle.value_check.proofs.FirstDifferenceLemmas.{asked, alike_next, outside_next, found}
use Rattle.value_check.proofs.FirstOfLemmas.{first_of-zero}
use Rattle.value_check.proofs.difference.first_differing.Goals as goal
use Rattle.value_check.proofs.difference.first_differing.Goals.{else-now-seen-via-then-now-seen+else-has, else-now-seen-via-else-now-seen}

pub loop-place-init : goal.loop-place-init
loop-place-init c =
    first_of-zero (asked c.args.now.now.bytes c.args.seen.now.bytes c.args.page (is_in c.args.which.now.words))

pub returns-then-has : goal.returns-then-has
returns-then-has c =
    found c.args.now.now.bytes c.args.seen.now.bytes c.args.page (is_in c.args.which.now.words)
    c.page-ours.result.now c.page-theirs.result.now c.loop-place.place
    c.page-ours.ensures c.page-theirs.ensures c.loop-place-test.true
    c.if-now-seen.true (sym c.has.ensures ∙ c.if-has.true) c.loop-place.invariant

pub loop-place-preserved : goal.loop-place-preserved
loop-place-preserved c =
    let now = c.args.now.now.bytes in
    let seen = c.args.seen.now.bytes in
    elim c.else-now-seen.branch [
      | else-now-seen-via-then-now-seen+else-has w ↦
          outside_next now seen c.args.page (is_in c.args.which.now.words)
          c.page-ours.result.now c.page-theirs.result.now c.loop-place.place
          c.page-ours.ensures c.page-theirs.ensures c.loop-place-test.true
          (sym w.has.ensures ∙ w.if-has.false) c.loop-place.invariant
      | else-now-seen-via-else-now-seen w ↦
          alike_next now seen c.args.page (is_in c.args.which.now.words)
          c.page-ours.result.now c.page-theirs.result.now c.loop-place.place
          c.page-ours.ensures c.page-theirs.ensures c.loop-place-test.true
          w.if-now-seen.false c.loop-place.invariant
    ]
