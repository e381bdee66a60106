use Rattle.std.proofs.Common.{◌≡◌, length, map, ap, subst, ◌∙◌, arith}
use Rattle.std.proofs.lemmas.Result.{err_from_is_err_and}
use Rattle.c_tree.specs.View.{var_of}
use Rattle.low_labels.specs.Emission.{Emission, emit_all}
use Rattle.low_labels.specs.Operation.{width_of}
use Rattle.c_semantics.specs.Exec.{has_init}
use Rattle.low_expr.specs.LabelledNames.{functions_in}
use Rattle.low_expr.proofs.Emitting.{lines_more}
use Rattle.low_stmt.specs.StmtCode.{counted_where}
use Rattle.low_stmt.specs.private.StmtParts.{declarators_part, scopes}
use Rattle.low_stmt.proofs.CodeIsPlain.{few_words, plain_counted}
use Rattle.low_stmt.proofs.PartLemmas.{added_behind}
use Rattle.low_stmt.proofs.plain.lower_vars_stmt.Goals as goal

pub returns-in_err-add_step_where-clause-too_long : goal.returns-in_err-add_step_where-clause-too_long
returns-in_err-add_step_where-clause-too_long c =
    let p = err_from_is_err_and c.from_residual.result c.from_residual.ensures.1 in
    rw (p.1, p.2) (λ said.
    let long = c.in_err-add_step_where.ensures.too_long said in
    let same = ap (λ b. width_of (counted_where b)) c.has_init.ensures in
    let few = few_words (map var_of c.args.vars.now) in
    omega arith)

pub returns-in_err-lower_vars-clause-too_long : goal.returns-in_err-lower_vars-clause-too_long
returns-in_err-lower_vars-clause-too_long c =
    let p = err_from_is_err_and c.from_residual-in_err-lower_vars.result c.from_residual-in_err-lower_vars.ensures.1 in
    rw (p.1, p.2) (λ said.
    let long = c.in_err-lower_vars.ensures.too_long said in
    let same = ap (λ b. width_of (counted_where b)) c.has_init.ensures in
    let few = few_words (map var_of c.args.vars.now) in
    let before = ap (λ (e : Emission). length e.lines) c.in_ok-add_step_where.ensures.added ∙ lines_more (counted_where c.has_init.result) c.args.asm.now in
    omega arith)

pub returns-clause-few : goal.returns-clause-few
returns-clause-few c =
    let same = ap (λ b. width_of (counted_where b)) c.has_init.ensures in
    let few = few_words (map var_of c.args.vars.now) in
    let before = ap (λ (e : Emission). length e.lines) c.in_ok-add_step_where.ensures.added ∙ lines_more (counted_where c.has_init.result) c.args.asm.now in
    let this = c.in_ok-lower_vars.ensures.few in
    omega arith

pub returns-clause-lowered : goal.returns-clause-lowered
returns-clause-lowered c = λ result to at.
    let functions = functions_in c.args.names.now in
    let scope = scopes c.args.names.now in
    let ds = map var_of c.args.vars.now in
    let added = subst (λ b. c.add_step_where.new.asm ≡ emit_all (counted_where b) c.args.asm.now) c.has_init.ensures c.in_ok-add_step_where.ensures.added in
    added_behind (declarators_part functions scope c.args.places.now ds) (counted_where (has_init ds)) c.args.asm.now c.add_step_where.new.asm c.lower_vars.new.asm
    added (plain_counted (has_init ds)) c.in_ok-lower_vars.ensures.lowered
