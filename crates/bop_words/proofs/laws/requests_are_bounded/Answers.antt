use Rattle.bop_words.proofs.RequestBoundsLemmas.{bounds}
use Rattle.bop_words.proofs.laws.requests_are_bounded.Goals as goal

pub returns : goal.returns
returns c = bounds
