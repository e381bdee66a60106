use Rattle.low_stmt.proofs.AcceptedTexts.{accepted_ready}
use Rattle.low_stmt.proofs.laws.an_accepted_text_is_ready.Goals as goal

pub returns : goal.returns
returns c = accepted_ready
