use Rattle.std.proofs.Common.{◌∙◌, sym}
use Rattle.bop_bits.specs.declared.map.TheConstants.{PAGES}
use Rattle.conflict_check.specs.Verdict.{conflict_of_page}
use Rattle.value_check.proofs.FirstOfLemmas.{first_of-zero, none-next, some-first}
use Rattle.conflict_check.proofs.pages.memory_conflict.Goals as goal

pub loop-page-init : goal.loop-page-init
loop-page-init c =
    first_of-zero (conflict_of_page c.args.job.now c.args.truth.now c.args.changed.now c.args.done.now)

pub returns-in-Some : goal.returns-in-Some
returns-in-Some c =
    sym (some-first (conflict_of_page c.args.job.now c.args.truth.now c.args.changed.now c.args.done.now)
    c.loop-page.page PAGES _ c.loop-page-test.true c.loop-page.invariant (sym c.conflict_of_page.ensures ∙ c.in-Some.is))

pub loop-page-preserved : goal.loop-page-preserved
loop-page-preserved c =
    none-next (conflict_of_page c.args.job.now c.args.truth.now c.args.changed.now c.args.done.now) c.loop-page.page
    c.loop-page.invariant (sym c.conflict_of_page.ensures ∙ c.in_default.is)
