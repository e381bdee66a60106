use Rattle.std.proofs.Common.{Option, Bor, sym, subst}
use Rattle.std.specs.Option.{option_copied, option_map}
use Rattle.std.specs.Prelude.{OnOk}
use Rattle.c_tree.specs.declared.tree.Expr.{Expr}
use Rattle.c_tree.specs.View.{expr_of}
use Rattle.low_expr.specs.LabelledNames.{functions_in}
use Rattle.low_stmt.specs.private.Parts.{Adds}
use Rattle.low_stmt.specs.private.StmtParts.{scopes, optional_part}
use Rattle.low_stmt.proofs.test.lower_optional.Goals as goal

pub returns-in-Some-clause-lowered : goal.returns-in-Some-clause-lowered
returns-in-Some-clause-lowered c =
    subst
    (λ (o : Option (Bor Expr)). OnOk c.lower_value.result
    (Adds (optional_part (functions_in c.args.names.now) (scopes c.args.names.now) (option_map expr_of (option_copied o))) c.args.asm.now c.lower_value.new.asm))
    (sym c.in-Some.is) c.lower_value.ensures.lowered
