use Rattle.std.proofs.Common.{[], ◌∷◌}
use Rattle.access_log.specs.declared.spot.Spot.TheVariants.{Register}
use Rattle.rv_code.specs.declared.call.TheConstants.{A0}
use Rattle.access_log.proofs.NotedLemmas.{noted-reads}
use Rattle.rv_step.proofs.noting.note_post.Goals as goal

pub returns : goal.returns
returns c =
    noted-reads c.args.log.now c.note_read-2.new.self c.note_read-3.new.self (Register A0 ∷ Register 11 ∷ []) (Register 12 ∷ []) []
    (noted-reads c.args.log.now c.note_read.new.self c.note_read-2.new.self (Register A0 ∷ []) (Register 11 ∷ []) [] c.note_read.ensures c.note_read-2.ensures)
    c.note_read-3.ensures
