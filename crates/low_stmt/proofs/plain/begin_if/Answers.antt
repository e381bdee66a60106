use Rattle.std.proofs.Common.{subst}
use Rattle.c_tree.specs.View.{expr_of}
use Rattle.low_labels.specs.declared.test.Test.TheVariants as test
use Rattle.low_expr.specs.LabelledNames.{functions_in}
use Rattle.low_stmt.specs.private.Parts.{Adds}
use Rattle.low_stmt.specs.private.StmtParts.{scopes, test_part}
use Rattle.low_stmt.proofs.LoweredStatements.{begin_step}
use Rattle.low_stmt.proofs.plain.begin_if.Goals as goal

pub returns-clause-lowered : goal.returns-clause-lowered
returns-clause-lowered c =
    let functions = functions_in c.args.names.now in
    let scope = scopes c.args.names.now in
    let e = expr_of c.args.test.now in
    begin_step functions scope e c.args.asm.now c.make_branches.new.asm c.add_nothing.new.asm c.lower_test.new.asm
    c.in_ok-labels.ensures.made c.in_ok-add_nothing.ensures.added
    (subst (λ l. Adds (test_part functions scope test.Eq l e) c.add_nothing.new.asm c.lower_test.new.asm) c.in_ok-labels.ensures.other c.in_ok-lower_test.ensures.lowered)
