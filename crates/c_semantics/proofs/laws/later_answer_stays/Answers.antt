use Rattle.c_semantics.proofs.Later.{meaning_stays}
use Rattle.c_semantics.proofs.laws.later_answer_stays.Goals as goal

pub returns : goal.returns
returns c = meaning_stays
