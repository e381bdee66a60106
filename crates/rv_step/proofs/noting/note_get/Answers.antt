use Rattle.std.proofs.Common.{[], ◌∷◌}
use Rattle.access_log.specs.declared.spot.Spot.TheVariants.{Cursor, Register}
use Rattle.access_log.proofs.NotedLemmas.{noted-writes}
use Rattle.rv_code.specs.declared.call.TheConstants.{A0}
use Rattle.rv_step.proofs.noting.note_get.Goals as goal

pub returns : goal.returns
returns c =
    noted-writes c.args.log.now c.note_write.new.self c.note_write-2.new.self (Cursor ∷ []) (Cursor ∷ []) (Register A0 ∷ [])
    (noted-writes c.args.log.now c.note_read.new.self c.note_write.new.self (Cursor ∷ []) [] (Cursor ∷ []) c.note_read.ensures c.note_write.ensures)
    c.note_write-2.ensures
