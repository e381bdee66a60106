use Rattle.low_stmt.proofs.StatementsFollow.{stmt_done}
use Rattle.low_stmt.proofs.laws.code_does_what_the_statement_means.Goals as goal

pub returns : goal.returns
returns c = λ functions defined room top result names places s ready code input labels calls frame
    bound label i to h fr has.
    stmt_done functions defined code input labels calls frame room top bound h fr result names places to
    label i s ready has
