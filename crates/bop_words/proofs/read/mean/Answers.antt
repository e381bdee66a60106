use Rattle.bop_words.proofs.CommandRequests.{mean_asks}
use Rattle.bop_words.proofs.read.mean.Goals as goal

pub returns-in_default-to_string : goal.returns-in_default-to_string
returns-in_default-to_string c = mean_asks _ c.in-Some.line.options c.in-Some.line.program.now c.in-Some.ensures
