use Rattle.std.proofs.Common.{length, refl, add-zero, arith, ◌++◌, ◌∷◌, [], List}
use Rattle.c_tree.specs.View.{expr_of}
use Rattle.low_labels.specs.Operation.{Operation, Branch}
use Rattle.low_expr.specs.CodePieces.{all_do, take_slot}
use Rattle.low_expr.specs.ExprCode.{labels_in}
use Rattle.low_expr.specs.LabelledNames.{functions_in}
use Rattle.low_stmt.specs.private.Parts.{operations}
use Rattle.low_stmt.specs.private.StmtParts.{scopes, value_part, test_part}
use Rattle.low_stmt.proofs.PartLemmas.{added_plain, added_then}
use Rattle.low_stmt.proofs.test.lower_test.Goals as goal

pub returns-clause-lowered : goal.returns-clause-lowered
returns-clause-lowered c =
    let old = c.args.asm.now in
    let first = length old.places in
    let mid = c.lower_value.new.asm in
    let new = c.branch_on_value.new.asm in
    let e = expr_of c.args.e.now in
    let functions = functions_in c.args.names.now in
    let scope = scopes c.args.names.now in
    let branch : List Operation = all_do (take_slot 5 0) ++ Branch c.args.test 5 0 c.args.to ∷ [] in
    added_then first first (value_part functions scope e first) (operations branch) (test_part functions scope c.args.test c.args.to e first)
    old mid new (omega arith) c.in_ok-lower_value.ensures.lowered
    (added_plain first first branch mid new c.in_ok-lower_value.ensures.more c.in_ok-branch_on_value.ensures.added tt)
    (add-zero (labels_in e)) (λ ds. refl) refl
