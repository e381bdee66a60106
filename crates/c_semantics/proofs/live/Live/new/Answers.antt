use Rattle.c_semantics.proofs.Owners.{none_stand}
use Rattle.c_semantics.proofs.live.Live.new.Goals as goal

pub invariant_of-result : goal.invariant_of-result
invariant_of-result c =
    rw c.new.ensures.items (none_stand c.in_ok-no_owners.field-0.items c.in_ok-no_owners.ensures.cells c.in_ok-no_owners.ensures.free)
