use Rattle.std.proofs.Common.{[], ◌∷◌}
use Rattle.access_log.specs.declared.spot.Spot.TheVariants.{Register}
use Rattle.access_log.proofs.NotedLemmas.{noted-reads}
use Rattle.rv_step.proofs.noting.note_operands.Goals as goal

pub returns : goal.returns
returns c =
    let of = c.operands-first.result in
    rw (c.operands-first.ensures.first, c.operands-first.ensures.second) at
    (noted-reads c.args.log.now c.note_read.new.self c.note_read-2.new.self (Register of.0 ∷ []) (Register of.1 ∷ []) []
    c.note_read.ensures c.note_read-2.ensures)
