use Rattle.low_stmt.proofs.DefinedOnceLemmas.{accepted_once}
use Rattle.low_stmt.proofs.laws.an_accepted_text_defines_once.Goals as goal

pub returns : goal.returns
returns c = accepted_once
