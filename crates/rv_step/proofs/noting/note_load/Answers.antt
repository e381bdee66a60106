use Rattle.std.proofs.Common.{sym, ◌∙◌, [], ◌∷◌}
use Rattle.access_log.specs.declared.spot.Spot.TheVariants.{Register}
use Rattle.access_log.proofs.NotedLemmas.{noted-writes}
use Rattle.rv_step.specs.Footprint.{span}
use Rattle.rv_step.proofs.NotingLemmas.{access-noted}
use Rattle.rv_step.proofs.noting.note_load.Goals as goal

pub returns : goal.returns
returns c =
    access-noted c.args.log.now c.note_write.new.self c.args.at c.args.size (span c.args.at c.args.size) (Register c.args.rd ∷ [])
    c.if-at-size-ne0.false (sym c.is_in_memory.ensures ∙ c.if-not-is_in_memory.false)
    (noted-writes c.args.log.now c.note_bytes_read.new.log c.note_write.new.self (span c.args.at c.args.size) [] (Register c.args.rd ∷ [])
    c.note_bytes_read.ensures c.note_write.ensures)
