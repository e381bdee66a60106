use Rattle.c_tree.proofs.ErasedBreaches.{erased_accepted}
use Rattle.c_tree.proofs.laws.erased_tree_is_accepted.Goals as goal

pub returns : goal.returns
returns c = erased_accepted
