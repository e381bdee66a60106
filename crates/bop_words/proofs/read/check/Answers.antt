use Rattle.std.proofs.Common.{sym}
use Rattle.bop_words.proofs.CommandRequests.{check_asks, check_request}
use Rattle.bop_words.proofs.read.check.Goals as goal

pub returns-in_default-to_string : goal.returns-in_default-to_string
returns-in_default-to_string c = check_asks _ c.in-Some.line.options c.in-Some.line.program.now c.in-Some.ensures

pub returns : goal.returns
returns c =
    check_request _ c.in-Some.line.options c.in-Some.line.program.now _ c.in-Some.ensures (sym c.in-Ok.ensures.ok)
