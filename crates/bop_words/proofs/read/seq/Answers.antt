use Rattle.bop_words.proofs.CommandRequests.{seq_asks}
use Rattle.bop_words.proofs.read.seq.Goals as goal

pub returns-in_default-to_string : goal.returns-in_default-to_string
returns-in_default-to_string c = seq_asks _ c.in-Some.line.options c.in-Some.line.program.now c.in-Some.ensures
