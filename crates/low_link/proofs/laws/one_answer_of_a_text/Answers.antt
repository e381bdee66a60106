use Rattle.low_link.proofs.OneAnswer.{one_tree, one_refusal, source_or_refused}
use Rattle.low_link.proofs.laws.one_answer_of_a_text.Goals as goal

pub returns : goal.returns
returns c = record { trees = one_tree; refusals = one_refusal; apart = source_or_refused }
