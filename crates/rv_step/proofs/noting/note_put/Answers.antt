use Rattle.std.proofs.Common.{[], ◌∷◌}
use Rattle.access_log.specs.declared.spot.Spot.TheVariants.{Register}
use Rattle.rv_code.specs.declared.call.TheConstants.{A0}
use Rattle.access_log.proofs.NotedLemmas.{noted-writes}
use Rattle.rv_step.proofs.noting.note_put.Goals as goal

pub returns : goal.returns
returns c =
    noted-writes c.args.log.now c.note_read.new.self c.note_write.new.self (Register A0 ∷ []) [] (Register A0 ∷ [])
    c.note_read.ensures c.note_write.ensures
