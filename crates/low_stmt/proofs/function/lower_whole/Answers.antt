use Rattle.std.proofs.Common.{◌≡◌, ◌+◌, ◌*◌, List, ◌∷◌, ◌++◌, length, map, ap, sym, subst, ◌∙◌, arith}
use Rattle.std.proofs.lemmas.Result.{err_from_is_err_and, on_ok_weaker, IfErr-weaker}
use Rattle.c_tree.specs.Accepted.{result_shape}
use Rattle.c_tree.specs.View.{fun_of, param_of, stmts_of}
use Rattle.c_layout.specs.LayoutAnswers.{planned_of}
use Rattle.low_labels.specs.declared.fault.AsmFault.TheVariants.{CodeTooLong}
use Rattle.low_labels.specs.Emission.{Emission, emit_all, IsTooLong}
use Rattle.low_labels.specs.Operation.{Operation, Mark}
use Rattle.low_expr.specs.CodePieces.{all_do}
use Rattle.low_expr.specs.LabelledNames.{functions_in}
use Rattle.low_expr.proofs.Emitting.{labels_same, lines_more}
use Rattle.low_expr.proofs.KeptValues.{all_width, width-append}
use Rattle.low_expr.proofs.MarkLemmas.{fresh_length}
use Rattle.low_stmt.specs.CodeBound.{count_stmts}
use Rattle.low_stmt.specs.FunCode.{end_code, enter_code, leave_code, pass_code, targets_from}
use Rattle.low_stmt.specs.private.Parts.{Writes}
use Rattle.low_stmt.specs.private.StmtParts.{inner_scope, own_places, scopes, stmts_part, AreTargets}
use Rattle.low_stmt.proofs.FunctionsFollow.{end_length}
use Rattle.low_stmt.proofs.LoweredFunctions.{fun_step}
use Rattle.low_stmt.proofs.ValueParts.{fresh_lines, labels_more}
use Rattle.low_stmt.proofs.WordsOfTexts.{enter_words, leave_words}
use Rattle.low_stmt.proofs.function.lower_whole.Goals as goal

pub lower_inside-requires-clause-labels : goal.lower_inside-requires-clause-labels
lower_inside-requires-clause-labels c =
    let made = ap (λ (e : Emission). length e.places) c.in_ok-labels.ensures.made ∙ fresh_length 3 c.args.asm.now in
    let entered = ap (λ (e : Emission). length e.places) c.in_ok-enter.ensures.added ∙ labels_same (enter_code c.args.frame.now.size c.in_ok-labels.labels.room) c.make_exits.new.asm in
    let passed = ap (λ (e : Emission). length e.places) c.in_ok-pass_arguments.ensures.added ∙ labels_same (pass_code 10 c.deref-2.result.now (map param_of c.deref.result.now)) c.enter.new.asm in
    labels_more c.args.names.now (length c.args.asm.now.places) (length c.pass_arguments.new.asm.places) (omega arith) c.requires.labels

pub lower_inside-requires-clause-to : goal.lower_inside-requires-clause-to
lower_inside-requires-clause-to c =
    let made = ap (λ (e : Emission). length e.places) c.in_ok-labels.ensures.made ∙ fresh_length 3 c.args.asm.now in
    let entered = ap (λ (e : Emission). length e.places) c.in_ok-enter.ensures.added ∙ labels_same (enter_code c.args.frame.now.size c.in_ok-labels.labels.room) c.make_exits.new.asm in
    let passed = ap (λ (e : Emission). length e.places) c.in_ok-pass_arguments.ensures.added ∙ labels_same (pass_code 10 c.deref-2.result.now (map param_of c.deref.result.now)) c.enter.new.asm in
    let room = c.in_ok-labels.ensures.room in
    subst (AreTargets (length c.pass_arguments.new.asm.places)) (sym c.targets-to.ensures)
    (record { at_break = omega arith; at_continue = omega arith; at_return = omega arith })

pub end_fun-requires-clause-end : goal.end_fun-requires-clause-end
end_fun-requires-clause-end c =
    let made = ap (λ (e : Emission). length e.places) c.in_ok-labels.ensures.made ∙ fresh_length 3 c.args.asm.now in
    let entered = ap (λ (e : Emission). length e.places) c.in_ok-enter.ensures.added ∙ labels_same (enter_code c.args.frame.now.size c.in_ok-labels.labels.room) c.make_exits.new.asm in
    let passed = ap (λ (e : Emission). length e.places) c.in_ok-pass_arguments.ensures.added ∙ labels_same (pass_code 10 c.deref-2.result.now (map param_of c.deref.result.now)) c.enter.new.asm in
    omega (arith, c.in_ok-labels.ensures.end, c.in_ok-lower_inside.ensures.more)

pub end_fun-requires-clause-left : goal.end_fun-requires-clause-left
end_fun-requires-clause-left c =
    let made = ap (λ (e : Emission). length e.places) c.in_ok-labels.ensures.made ∙ fresh_length 3 c.args.asm.now in
    let entered = ap (λ (e : Emission). length e.places) c.in_ok-enter.ensures.added ∙ labels_same (enter_code c.args.frame.now.size c.in_ok-labels.labels.room) c.make_exits.new.asm in
    let passed = ap (λ (e : Emission). length e.places) c.in_ok-pass_arguments.ensures.added ∙ labels_same (pass_code 10 c.deref-2.result.now (map param_of c.deref.result.now)) c.enter.new.asm in
    omega (arith, c.in_ok-labels.ensures.left, c.in_ok-lower_inside.ensures.more)

pub returns-in_err-lower_inside-clause-too_long : goal.returns-in_err-lower_inside-clause-too_long
returns-in_err-lower_inside-clause-too_long c =
    let made = ap (λ (e : Emission). length e.lines) c.in_ok-labels.ensures.made ∙ fresh_lines 3 c.args.asm.now in
    let enter = enter_code c.args.frame.now.size c.in_ok-labels.labels.room in
    let entered = ap (λ (e : Emission). length e.lines) c.in_ok-enter.ensures.added ∙ lines_more enter c.make_exits.new.asm in
    let words = enter_words c.args.frame.now.size c.in_ok-labels.labels.room in
    let passed = c.in_ok-pass_arguments.ensures.few in
    let same = ap (λ ps. length (map param_of ps)) c.deref.ensures.value in
    let p = err_from_is_err_and c.from_residual-in_err-lower_inside.result c.from_residual-in_err-lower_inside.ensures.1 in
    rw (p.1, p.2) (λ said. let long = c.in_err-lower_inside.ensures.too_long said in omega arith)

pub returns-clause-too_long : goal.returns-clause-too_long
returns-clause-too_long c =
    let made = ap (λ (e : Emission). length e.lines) c.in_ok-labels.ensures.made ∙ fresh_lines 3 c.args.asm.now in
    let enter = enter_code c.args.frame.now.size c.in_ok-labels.labels.room in
    let entered = ap (λ (e : Emission). length e.lines) c.in_ok-enter.ensures.added ∙ lines_more enter c.make_exits.new.asm in
    let words = enter_words c.args.frame.now.size c.in_ok-labels.labels.room in
    let passed = c.in_ok-pass_arguments.ensures.few in
    let inside = c.in_ok-lower_inside.ensures.few in
    let same = ap (λ ps. length (map param_of ps)) c.deref.ensures.value in
    let value = all_do (end_code c.is_main.result) in
    let last : List Operation = Mark c.in_ok-labels.labels.left ∷ leave_code c.args.frame.now.size in
    let ending = width-append value last in
    let few = all_width (end_code c.is_main.result) in
    let short = end_length c.is_main.result in
    let left = leave_words c.args.frame.now.size in
    IfErr-weaker c.end_fun.result _ (λ fault. fault ≡ CodeTooLong → IsTooLong (32 * (1 + length (map param_of c.args.fun.now.params.items) + count_stmts (stmts_of c.args.body.now))) c.args.asm.now)
    (λ fault refused said. let long = refused said in omega arith) c.end_fun.ensures.too_long

pub returns-clause-lowered : goal.returns-clause-lowered
returns-clause-lowered c =
    let f = fun_of c.args.fun.now in
    let frame = planned_of c.args.frame.now in
    let functions = functions_in c.args.names.now in
    let scope = scopes c.args.names.now in
    let body = stmts_of c.args.body.now in
    let room = c.in_ok-labels.ensures.room in
    let end = c.in_ok-labels.ensures.end in
    let left = c.in_ok-labels.ensures.left in
    let m0 = c.make_exits.new.asm in
    let m1 = c.enter.new.asm in
    let m2 = c.pass_arguments.new.asm in
    let m3 = c.lower_inside.new.asm in
    let e0 = c.args.ends.now in
    let e1 = c.lower_inside.new.ends in
    on_ok_weaker c.end_fun.result
    (λ added. fun_step functions scope f frame body c.args.asm.now m0 m1 m2 m3 c.end_fun.new.asm e0 e1
    c.in_ok-labels.ensures.made
    (c.in_ok-enter.ensures.added ∙ (λ i. emit_all (enter_code frame.size (room i)) m0))
    (c.in_ok-pass_arguments.ensures.added ∙ (λ i. emit_all (pass_code 10 (c.deref-2.ensures.value i) (map param_of (c.deref.ensures.value i))) m1))
    (subst (λ to. Writes (stmts_part functions (inner_scope functions scope f frame) (result_shape f) (own_places functions scope f frame) to body) m2 m3 e0 e1)
    (c.targets-to.ensures ∙ ap targets_from room) c.in_ok-lower_inside.ensures.lowered)
    (added ∙ (λ i. emit_all (Mark (end i) ∷ (all_do (end_code (c.is_main.ensures i)) ++ (Mark (left i) ∷ leave_code frame.size))) m3)))
    c.end_fun.ensures.added
