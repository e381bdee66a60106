use Rattle.std.proofs.lemmas.Result.{on_ok_weaker}
use Rattle.c_tree.specs.View.{expr_of}
use Rattle.low_stmt.proofs.ValueParts.{value_added, value_few, value_labels, value_more}
use Rattle.low_stmt.proofs.test.lower_value.Goals as goal

pub returns-clause-lowered : goal.returns-clause-lowered
returns-clause-lowered c =
    on_ok_weaker c.lower_expr.result (value_added c.args.names.now (expr_of c.args.e.now) c.args.asm.now c.lower_expr.new.asm) c.lower_expr.ensures.lowered

pub returns-clause-few : goal.returns-clause-few
returns-clause-few c =
    on_ok_weaker c.lower_expr.result (λ h. value_few c.args.names.now (expr_of c.args.e.now) c.args.asm.now c.lower_expr.new.asm h c.requires.ready) c.lower_expr.ensures.lowered

pub returns-clause-labels : goal.returns-clause-labels
returns-clause-labels c =
    on_ok_weaker c.lower_expr.result (λ h. value_labels c.args.names.now (expr_of c.args.e.now) c.args.asm.now c.lower_expr.new.asm h c.requires.labels) c.lower_expr.ensures.lowered

pub returns-clause-more : goal.returns-clause-more
returns-clause-more c =
    on_ok_weaker c.lower_expr.result (value_more c.args.names.now (expr_of c.args.e.now) c.args.asm.now c.lower_expr.new.asm) c.lower_expr.ensures.lowered
