use Rattle.std.proofs.Common.{subst}
use Rattle.std.specs.Prelude.{◌↔◌, IsTrue}
use Rattle.access_log.specs.Held.{HasSomeOf}
use Rattle.bop_bits.specs.BitSets.{is_in}
use Rattle.bop_bits.specs.Class.{class_of}
use Rattle.conflict_check.proofs.VerdictLemmas.{untouched_page}
use Rattle.conflict_check.proofs.pages.conflict_of_page.Goals as goal

pub returns-then-not-touches : goal.returns-then-not-touches
returns-then-not-touches c =
    let touches =
    subst (λ places. IsTrue c.touches.result ↔ HasSomeOf places c.args.page) c.first-first.ensures c.touches.ensures in
    untouched_page c.args.done.now.log.first c.args.changed.now c.args.done.now.start.image.bytes c.args.truth.now.image.bytes
    c.args.page c.touches.result touches c.if-not-touches.true
    (class_of c.args.job.now.program.classes c.args.page) (is_in c.args.done.now.start.received.words c.args.page)
