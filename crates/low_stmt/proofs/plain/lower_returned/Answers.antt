use Rattle.std.proofs.Common.{Option, sym, subst}
use Rattle.std.specs.Option.{option_map}
use Rattle.c_tree.specs.declared.tree.Expr.{Expr}
use Rattle.c_tree.specs.View.{expr_of, ty_of}
use Rattle.low_expr.specs.CodePieces.{all_do}
use Rattle.low_expr.specs.LabelledNames.{functions_in}
use Rattle.low_stmt.specs.StmtCode.{return_slot}
use Rattle.low_stmt.specs.private.Parts.{Adds}
use Rattle.low_stmt.specs.private.StmtParts.{return_part, scopes, value_part}
use Rattle.low_stmt.proofs.UnplacedLabels.{plain_do}
use Rattle.low_stmt.proofs.PartLemmas.{added_before}
use Rattle.low_stmt.proofs.plain.lower_returned.Goals as goal

pub returns-in_ok-return_slot-in-Some-clause-lowered : goal.returns-in_ok-return_slot-in-Some-clause-lowered
returns-in_ok-return_slot-in-Some-clause-lowered c =
    let functions = functions_in c.args.names.now in
    let scope = scopes c.args.names.now in
    let t = ty_of c.args.gives.now in
    subst (λ (o : Option Expr). Adds (return_part functions scope t (option_map expr_of o)) c.args.asm.now c.return_slot.new.asm) (sym c.in-Some.is)
    (added_before (value_part functions scope (expr_of c.in-Some.e)) (all_do (return_slot t)) c.args.asm.now c.lower_value.new.asm c.return_slot.new.asm
    c.in_ok-lower_value-in-Some.ensures.lowered c.in_ok-return_slot-in-Some.ensures.added (plain_do (return_slot t)))
