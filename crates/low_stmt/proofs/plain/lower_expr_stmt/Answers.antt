use Rattle.c_tree.specs.View.{expr_of}
use Rattle.low_expr.specs.LabelledNames.{functions_in}
use Rattle.low_stmt.specs.StmtCode.{counted}
use Rattle.low_stmt.specs.private.StmtParts.{scopes, value_part}
use Rattle.low_stmt.proofs.PartLemmas.{added_behind}
use Rattle.low_stmt.proofs.plain.lower_expr_stmt.Goals as goal

pub returns-clause-lowered : goal.returns-clause-lowered
returns-clause-lowered c = λ result places to at.
    added_behind (value_part (functions_in c.args.names.now) (scopes c.args.names.now) (expr_of c.args.e.now)) counted
    c.args.asm.now c.add_nothing.new.asm c.lower_value.new.asm c.in_ok-add_nothing.ensures.added tt c.in_ok-lower_value.ensures.lowered
