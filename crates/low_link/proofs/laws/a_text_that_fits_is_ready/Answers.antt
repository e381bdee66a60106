use Rattle.low_link.proofs.SpelledTexts.{fitting_ready}
use Rattle.low_link.proofs.laws.a_text_that_fits_is_ready.Goals as goal

pub returns : goal.returns
returns c = fitting_ready
