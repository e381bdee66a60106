use Rattle.low_stmt.proofs.TextsAreReady.{text_ready}
use Rattle.low_stmt.proofs.laws.a_runnable_text_is_ready.Goals as goal

pub returns : goal.returns
returns c = text_ready
