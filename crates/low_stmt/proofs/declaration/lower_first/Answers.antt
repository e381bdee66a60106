use Rattle.std.proofs.Common.{◌≡◌, ◌*◌, List, map, ap, sym, subst, ◌∙◌, arith}
use Rattle.std.proofs.lemmas.Result.{on_ok_weaker, IfErr-weaker}
use Rattle.low_labels.specs.Emission.{IsTooLong}
use Rattle.low_labels.specs.declared.fault.AsmFault.TheVariants.{CodeTooLong}
use Rattle.low_stmt.specs.CodeBound.{count_first}
use Rattle.low_stmt.proofs.CodeIsPlain.{few_words}
use Rattle.std.specs.Prelude.{OnOk}
use Rattle.c_tree.specs.declared.tree.First.{First}
use Rattle.c_tree.specs.declared.tree.Var.{Var}
use Rattle.c_tree.specs.First as for_first
use Rattle.c_tree.specs.View.{first_of, var_of}
use Rattle.low_expr.specs.LabelledNames.{functions_in}
use Rattle.low_stmt.specs.private.Parts.{Adds}
use Rattle.low_stmt.specs.private.StmtParts.{first_part, scopes}
use Rattle.low_stmt.proofs.declaration.lower_first.Goals as goal

pub returns-in-Vars-clause-lowered : goal.returns-in-Vars-clause-lowered
returns-in-Vars-clause-lowered c =
    subst
    (λ f. OnOk c.lower_vars.result
    (Adds (first_part (functions_in c.args.names.now) (scopes c.args.names.now) c.args.places.now f) c.args.asm.now c.lower_vars.new.asm))
    (ap (λ (vs : List Var). for_first.Vars (map var_of vs)) c.deref.ensures.value ∙ ap first_of (sym c.in-Vars.is))
    c.lower_vars.ensures.lowered

pub returns-in-Expr-clause-lowered : goal.returns-in-Expr-clause-lowered
returns-in-Expr-clause-lowered c =
    subst
    (λ (f : First). OnOk c.lower_value.result
    (Adds (first_part (functions_in c.args.names.now) (scopes c.args.names.now) c.args.places.now (first_of f)) c.args.asm.now c.lower_value.new.asm))
    (sym c.in-Expr.is) c.lower_value.ensures.lowered

pub returns-in-Vars-clause-few : goal.returns-in-Vars-clause-few
returns-in-Vars-clause-few c =
    let here = ap (λ (vs : List Var). for_first.Vars (map var_of vs)) c.deref.ensures.value ∙ ap first_of (sym c.in-Vars.is) in
    let same = ap count_first here in
    let words = few_words (map var_of c.deref.result.now) in
    on_ok_weaker c.lower_vars.result (λ h. omega arith) c.lower_vars.ensures.few

pub returns-in-Vars-clause-too_long : goal.returns-in-Vars-clause-too_long
returns-in-Vars-clause-too_long c =
    let here = ap (λ (vs : List Var). for_first.Vars (map var_of vs)) c.deref.ensures.value ∙ ap first_of (sym c.in-Vars.is) in
    let same = ap count_first here in
    let words = few_words (map var_of c.deref.result.now) in
    IfErr-weaker c.lower_vars.result _ (λ fault. fault ≡ CodeTooLong → IsTooLong (32 * count_first (first_of c.args.first.now)) c.args.asm.now)
    (λ fault refused said. let long = refused said in omega arith) c.lower_vars.ensures.too_long
