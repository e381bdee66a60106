use Rattle.bop_words.proofs.WordRequestsLemmas.{one_request}
use Rattle.bop_words.proofs.laws.one_request.Goals as goal

pub returns : goal.returns
returns c = one_request
