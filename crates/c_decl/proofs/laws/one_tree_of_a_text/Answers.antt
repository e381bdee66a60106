use Rattle.c_decl.proofs.OneTextTree.{one_tree}
use Rattle.c_decl.proofs.laws.one_tree_of_a_text.Goals as goal

pub returns : goal.returns
returns c = one_tree
