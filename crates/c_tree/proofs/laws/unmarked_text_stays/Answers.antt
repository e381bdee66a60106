use Rattle.c_tree.proofs.Erased.{unmarked_stays}
use Rattle.c_tree.proofs.laws.unmarked_text_stays.Goals as goal

pub returns : goal.returns
returns c = unmarked_stays
