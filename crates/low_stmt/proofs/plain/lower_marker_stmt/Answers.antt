use Rattle.low_expr.specs.LabelledNames.{functions_in}
use Rattle.low_stmt.specs.StmtCode.{counted}
use Rattle.low_stmt.specs.private.StmtParts.{marker_part, scopes}
use Rattle.low_stmt.proofs.PartLemmas.{added_behind}
use Rattle.low_stmt.proofs.plain.lower_marker_stmt.Goals as goal

pub returns-clause-lowered : goal.returns-clause-lowered
returns-clause-lowered c = λ result places to at.
    added_behind (marker_part (functions_in c.args.names.now) (scopes c.args.names.now) c.args.marker.now) counted
    c.args.asm.now c.add_nothing.new.asm c.lower_marker.new.asm c.in_ok-add_nothing.ensures.added tt c.in_ok-lower_marker.ensures.lowered
