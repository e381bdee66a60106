use Rattle.low_stmt.proofs.ClosedCode.{closed_text, short_text}
use Rattle.low_stmt.proofs.laws.closed_code_of_a_text.Goals as goal

pub returns-clause-operations : goal.returns-clause-operations
returns-clause-operations c = closed_text

pub returns-clause-short : goal.returns-clause-short
returns-clause-short c = short_text
