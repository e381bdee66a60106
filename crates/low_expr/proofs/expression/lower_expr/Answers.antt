use Rattle.std.proofs.Common.{length, arith}
use Rattle.std.proofs.lemmas.Result.{err_from_is_err_and}
use Rattle.c_tree.specs.View.{expr_of}
use Rattle.c_semantics.specs.Meaning.{definition}
use Rattle.c_resolve.specs.Routines.{definitions_of}
use Rattle.low_expr.specs.LabelledNames.{scope_in, functions_in}
use Rattle.low_expr.proofs.WordsBound.{expr_words}
use Rattle.low_expr.proofs.expression.lower_expr.Goals as goal

pub returns-in_err-lower_at-clause-too_long : goal.returns-in_err-lower_at-clause-too_long
returns-in_err-lower_at-clause-too_long c =
    let names = c.args.names.now in
    let r = c.requires.ready in
    let definitions = definitions_of r.text in
    let few = expr_words (functions_in names) (definition r.text) (scope_in definitions names) (expr_of c.args.expr.now) c.args.slot (length c.args.asm.now.places) r.ready in
    let p = err_from_is_err_and c.from_residual.result c.from_residual.ensures.1 in
    rw (p.1, p.2) (λ said. omega (arith, few, c.in_err-lower_at.ensures.too_long said definitions))
