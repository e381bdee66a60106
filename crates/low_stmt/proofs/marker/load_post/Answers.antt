use Rattle.std.proofs.Common.{[], length, ap, sym, ◌∙◌, arith}
use Rattle.std.proofs.lemmas.Result.{err_from_is_err_and}
use Rattle.c_tree.specs.declared.place.Place.{Place}
use Rattle.low_labels.specs.Emission.{Emission, emit_all}
use Rattle.low_expr.specs.CodePieces.{all_do}
use Rattle.low_expr.specs.LabelledNames.{scope_in}
use Rattle.low_expr.proofs.Emitting.{do_append, emit_append, labels_same, lines_more}
use Rattle.low_expr.proofs.KeptValues.{all_width}
use Rattle.low_stmt.specs.MarkerCode.{take_count, take_variable}
use Rattle.low_stmt.proofs.MarkerCalls.{variable_length, count_length}
use Rattle.low_stmt.proofs.marker.load_post.Goals as goal

-- the lengths don't depend on the place of a name
anywhere : Place
anywhere = record { line = 0; column = 0 }

pub returns-in_err-load_variable-clause-too_long : goal.returns-in_err-load_variable-clause-too_long
returns-in_err-load_variable-clause-too_long c =
    let names = scope_in [] c.args.names.now in
    let p = err_from_is_err_and c.from_residual.result c.from_residual.ensures.1 in
    rw (p.1, p.2) (λ said.
    let long = c.in_err-load_variable.ensures.too_long said [] anywhere in
    let width = all_width (take_variable names 11 c.args.name.now anywhere) in
    let few = variable_length names 11 c.args.name.now anywhere in
    omega arith)

pub returns-in_err-load_count-clause-too_long : goal.returns-in_err-load_count-clause-too_long
returns-in_err-load_count-clause-too_long c =
    let names = scope_in [] c.args.names.now in
    let first = take_variable names 11 c.args.name.now anywhere in
    let p = err_from_is_err_and c.from_residual-in_err-load_count.result c.from_residual-in_err-load_count.ensures.1 in
    rw (p.1, p.2) (λ said.
    let long = c.in_err-load_count.ensures.too_long said [] in
    let width = all_width (take_count names c.args.count.now) in
    let few = count_length names c.args.count.now in
    let before = ap (λ (e : Emission). length e.lines) (c.in_ok-load_variable.ensures.added [] anywhere) ∙ lines_more (all_do first) c.args.asm.now in
    let before_width = all_width first in
    let before_few = variable_length names 11 c.args.name.now anywhere in
    omega arith)

pub returns-clause-added : goal.returns-clause-added
returns-clause-added c = λ definitions at.
    let names = scope_in definitions c.args.names.now in
    let first = take_variable names 11 c.args.name.now at in
    let second = take_count names c.args.count.now in
    c.in_ok-load_count.ensures.added definitions
    ∙ (ap (emit_all (all_do second)) (c.in_ok-load_variable.ensures.added definitions at)
    ∙ (sym (emit_append (all_do first) (all_do second) c.args.asm.now)
    ∙ sym (ap (λ os. emit_all os c.args.asm.now) (do_append first second))))

pub returns-clause-few : goal.returns-clause-few
returns-clause-few c =
    let names = scope_in [] c.args.names.now in
    let first = take_variable names 11 c.args.name.now anywhere in
    let second = take_count names c.args.count.now in
    let one = ap (λ (e : Emission). length e.lines) (c.in_ok-load_variable.ensures.added [] anywhere) ∙ lines_more (all_do first) c.args.asm.now in
    let two = ap (λ (e : Emission). length e.lines) (c.in_ok-load_count.ensures.added []) ∙ lines_more (all_do second) c.load_variable.new.asm in
    omega (arith, all_width first, all_width second, variable_length names 11 c.args.name.now anywhere, count_length names c.args.count.now)

pub returns-clause-same : goal.returns-clause-same
returns-clause-same c =
    let names = scope_in [] c.args.names.now in
    let first = take_variable names 11 c.args.name.now anywhere in
    let second = take_count names c.args.count.now in
    ap (λ (e : Emission). length e.places) (c.in_ok-load_count.ensures.added [])
    ∙ (labels_same (all_do second) c.load_variable.new.asm
    ∙ (ap (λ (e : Emission). length e.places) (c.in_ok-load_variable.ensures.added [] anywhere)
    ∙ labels_same (all_do first) c.args.asm.now))
