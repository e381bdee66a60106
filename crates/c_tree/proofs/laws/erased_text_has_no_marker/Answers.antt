use Rattle.c_tree.proofs.Erased.{erased_has_none}
use Rattle.c_tree.proofs.laws.erased_text_has_no_marker.Goals as goal

pub returns : goal.returns
returns c = erased_has_none
