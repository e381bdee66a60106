use Rattle.std.proofs.Common.{◌≡◌, ◌+◌, ◌<◌, [], ◌∷◌, ◌∙◌, arith, subst}
use Rattle.access_log.specs.declared.spot.Spot.TheVariants.{Byte}
use Rattle.access_log.specs.Noted.{Noted}
use Rattle.access_log.proofs.NotedLemmas.{noted-writes}
use Rattle.rv_step.specs.Footprint.{span}
use Rattle.rv_step.proofs.SpanLemmas.{same-page, same-room-in-page, span-more}
use Rattle.rv_step.proofs.noting.note_bytes_written.Goals as goal

pub note_write-requires-clause-room : goal.note_write-requires-clause-room
note_write-requires-clause-room c =
    let less : c.loop-i.i < c.args.size = omega arith in
    same-room-in-page c.loop-i.log (c.args.at + c.loop-i.i) c.args.at
    (same-page c.args.at c.args.size c.loop-i.i c.requires.fits less)
    ∙ c.loop-i.invariant.room (Byte c.args.at) ∙ c.requires.room

pub loop-i-preserved : goal.loop-i-preserved
loop-i-preserved c =
    subst (λ spots. Noted c.args.log.now c.note_write.new.self [] spots) (span-more c.loop-i.i c.args.at)
    (noted-writes c.args.log.now c.loop-i.log c.note_write.new.self [] (span c.args.at c.loop-i.i) (Byte (c.args.at + c.loop-i.i) ∷ [])
    c.loop-i.invariant c.note_write.ensures)

pub returns : goal.returns
returns c =
    let all : c.loop-i.i ≡ c.args.size = omega arith in
    subst (λ n. Noted c.args.log.now c.loop-i.log [] (span c.args.at n)) all c.loop-i.invariant
