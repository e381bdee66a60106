use Rattle.c_semantics.proofs.Owners.{free_range}
use Rattle.c_semantics.proofs.live.can_stand.Goals as goal

pub returns : goal.returns
returns c =
    let inside = c.lies_in_memory.ensures.0 c.if-not-lies_in_memory.false in
    let range = free_range c.args.owners.now c.args.object c.cells-from.result.0 c.cells-from.result.1 c.cells-from.ensures.from c.cells-from.ensures.to inside c.requires in
    (λ h. (inside, range.0 (c.are_free.ensures.0 h)), λ h. c.are_free.ensures.1 (range.1 h.1))
