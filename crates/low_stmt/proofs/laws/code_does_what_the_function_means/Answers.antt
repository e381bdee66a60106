use Rattle.low_stmt.proofs.FunctionsFollow.{fun_done}
use Rattle.low_stmt.proofs.laws.code_does_what_the_function_means.Goals as goal

pub returns : goal.returns
returns c = fun_done
