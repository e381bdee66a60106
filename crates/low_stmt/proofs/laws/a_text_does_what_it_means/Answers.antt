use Rattle.low_stmt.proofs.Booting.{text_done, meant_done}
use Rattle.low_stmt.proofs.laws.a_text_does_what_it_means.Goals as goal

pub returns-clause-steps : goal.returns-clause-steps
returns-clause-steps c = text_done

pub returns-clause-meaning : goal.returns-clause-meaning
returns-clause-meaning c = meant_done
