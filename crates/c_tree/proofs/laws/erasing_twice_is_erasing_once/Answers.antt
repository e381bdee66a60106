use Rattle.c_tree.proofs.Erased.{erased_twice}
use Rattle.c_tree.proofs.laws.erasing_twice_is_erasing_once.Goals as goal

pub returns : goal.returns
returns c = erased_twice
