use Rattle.std.proofs.Common.{◌≡◌, ◌++◌, Some, length, refl, ap, sym, ◌∙◌, arith, add-zero}
use Rattle.std.proofs.lemmas.Grind.{common_steps}
use Rattle.c_tree.specs.Init as initial
use Rattle.c_tree.specs.View.{expr_of, var_of}
use Rattle.low_expr.specs.CodePieces.{frame_address, take_slot}
use Rattle.low_expr.specs.ExprCode.{labels_in}
use Rattle.low_expr.specs.LabelledNames.{functions_in}
use Rattle.low_stmt.specs.StmtCode.{init_code, labels_in_init, value_code, write_code}
use Rattle.low_stmt.specs.private.Parts.{operations}
use Rattle.low_stmt.specs.private.StmtParts.{init_part, scopes, value_part}
use Rattle.low_stmt.proofs.CodeIsPlain.{plain_write}
use Rattle.low_stmt.proofs.PartLemmas.{added_plain, added_then}
use Rattle.low_stmt.proofs.declaration.lower_init.Goals as goal

pub returns-in_ok-write_local-in-Some-One-clause-lowered : goal.returns-in_ok-write_local-in-Some-One-clause-lowered
returns-in_ok-write_local-in-Some-One-clause-lowered c =
    let old = c.args.asm.now in
    let first = length old.places in
    let mid = c.lower_value.new.asm in
    let new = c.write_local.new.asm in
    let d = var_of c.args.v.now in
    let e = expr_of c.in-Some-One.e in
    let functions = functions_in c.args.names.now in
    let scope = scopes c.args.names.now in
    let xs = take_slot 5 0 ++ frame_address 7 c.args.place in
    let here : d.init ≡ Some (initial.One e) = grind (arith, common_steps) in
    let labels = sym (ap labels_in_init here) in
    added_then first first (value_part functions scope e first) (operations (write_code xs c.args.holds))
    (init_part functions scope c.args.place d first) old mid new (omega arith)
    c.in_ok-lower_value-in-Some-One.ensures.lowered
    (added_plain first first (write_code xs c.args.holds) mid new c.in_ok-lower_value-in-Some-One.ensures.more
    c.in_ok-write_local-in-Some-One.ensures.added (plain_write xs c.args.holds))
    (add-zero (labels_in e) ∙ labels)
    (λ ds.
    (λ i. value_code functions (scope ds) first e ++ write_code xs (c.requires.holds i))
    ∙ sym (ap (init_code functions (scope ds) c.args.place first d) here))
    refl
