use Rattle.bop_words.proofs.CommandRequests.{run_asks}
use Rattle.bop_words.proofs.read.run.Goals as goal

pub returns-in_default-to_string : goal.returns-in_default-to_string
returns-in_default-to_string c = run_asks _ c.in-Some.line.options c.in-Some.line.program.now c.in-Some.ensures

pub returns-in_default-again : goal.returns-in_default-again
returns-in_default-again c = run_asks _ c.in-Some.line.options c.in-Some.line.program.now c.in-Some.ensures
