use Rattle.c_decl.proofs.OneTextTree.{one_answer}
use Rattle.c_decl.proofs.laws.one_answer_of_a_text.Goals as goal

pub returns : goal.returns
returns c = one_answer
