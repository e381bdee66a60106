use Rattle.std.proofs.Common.{◌≡◌, ℕ, ◌+◌, ◌-◌, ◌<◌, ◌≤◌, List, [], length, get_or, drop, false, ap, sym, subst, ◌∙◌, arith, rules}
use Rattle.std.proofs.Math.Bool.{and_assoc}
use Rattle.std.proofs.lemmas.Grind.{common_steps}
use Rattle.std.proofs.lemmas.List.{at_drop_all}
use Rattle.std.proofs.lemmas.Result.{err_from_is_err_and, on_ok_weaker, IfErr-weaker}
use Rattle.c_tree.specs.declared.tree.Expr.{Expr as ExprTree, size-Expr}
use Rattle.c_tree.specs.Expr as expr
use Rattle.c_tree.specs.Groups.{group, is_logic}
use Rattle.c_tree.specs.Rules.{is_place}
use Rattle.c_tree.specs.View.{expr_of, exprs_of}
use Rattle.c_tree.proofs.TreeLists.{cut_at}
use Rattle.c_rules.specs.Seen.{is_flat}
use Rattle.c_rules.specs.declared.spine.Along.TheVariants.{Operands}
use Rattle.c_rules.proofs.Descent.{risen, at_top}
use Rattle.c_resolve.specs.DeclaredNames.{IsTypeOf}
use Rattle.low_labels.specs.Emission.{emit_all, IsTooLong}
use Rattle.low_labels.specs.Operation.{width_of}
use Rattle.low_expr.specs.declared.wanted.Wanted.TheVariants.{Value}
use Rattle.low_expr.specs.ExprCode.{labels_in_all}
use Rattle.low_expr.specs.LabelledNames.{HasLabels}
use Rattle.low_expr.specs.Lowering.{lowered}
use Rattle.low_expr.specs.private.Wanting.{logic_end, conditional_start, conditional_middle, conditional_end, arguments_in}
use Rattle.low_expr.proofs.SecondOperands.{second_lowered, second_refused, last_refused, binary_here, binary_has, binary_same, binary_slots, assign_here, assign_has, assign_same, assign_slots, index_here, call_here, index_has, index_same, index_slots}
use Rattle.low_expr.proofs.LoweredParts.{reached_ready, reached_slots, reached_refused, node_lowered, node_refused, top_lowered}
use Rattle.low_expr.proofs.LoweredBranches.{logic_lowered, logic_second_refused, logic_end_refused, logic_label, second_labels, conditional_lowered, conditional_second_refused, conditional_middle_refused, conditional_third_refused, conditional_end_refused, end_label}
use Rattle.low_expr.proofs.LoweredCalls.{labels_kept, labels_after, labels_behind, arguments_ready, arguments_slots, argument_refused, arguments_lowered, arguments_refused, count_is, call_arguments_refused, call_refused, call_lowered, call_slots, can_call, called_lowered, called_refused}
use Rattle.low_expr.proofs.expression.+lowering.Goals as goal
use Rattle.low_expr.proofs.expression.+lowering.Goals.{lower_at-then-lowest-lt-LIMIT+in_ok-end, lower_at-else-lowest-lt-LIMIT+in_ok-end-2}

pub lower_above-returns-in_err-second-in-Binary-clause-too_long : goal.lower_above-returns-in_err-second-in-Binary-clause-too_long
lower_above-returns-in_err-second-in-Binary-clause-too_long t c =
    let names = c.args.names.now in
    let here = binary_here c.args.e.now c.in-Binary.op c.in-Binary.a c.in-Binary.b c.deref-else-is_logic.result.now c.in-Binary.is c.deref-else-is_logic.ensures in
    let flat : is_logic (group c.in-Binary.op) ≡ false = grind (arith, common_steps) in
    let has = binary_has names c.args.slot here flat c.args.wanted in
    let p = err_from_is_err_and c.from_residual.result c.from_residual.ensures.1 in
    rw (p.1, p.2) (λ said. second_refused has c.args.asm.now (c.in_err-second-in-Binary.ensures.too_long said))

pub lower_above-above_binary-requires-clause-slot : goal.lower_above-above_binary-requires-clause-slot
lower_above-above_binary-requires-clause-slot t c =
    let here = binary_here c.args.e.now c.in-Binary.op c.in-Binary.a c.in-Binary.b c.deref-else-is_logic.result.now c.in-Binary.is c.deref-else-is_logic.ensures in
    let flat : is_logic (group c.in-Binary.op) ≡ false = grind (arith, common_steps) in
    binary_slots c.args.names.now c.args.slot here flat c.requires.slots

pub lower_above-returns-in_ok-second-in-Binary-clause-lowered : goal.lower_above-returns-in_ok-second-in-Binary-clause-lowered
lower_above-returns-in_ok-second-in-Binary-clause-lowered t c =
    let names = c.args.names.now in
    let here = binary_here c.args.e.now c.in-Binary.op c.in-Binary.a c.in-Binary.b c.deref-else-is_logic.result.now c.in-Binary.is c.deref-else-is_logic.ensures in
    let flat : is_logic (group c.in-Binary.op) ≡ false = grind (arith, common_steps) in
    let has = binary_has names c.args.slot here flat c.args.wanted in
    let same = binary_same names c.args.slot here flat c.args.first c.in_ok-second-in-Binary.second c.requires.ty c.in_ok-second-in-Binary.ensures.ty in
    on_ok_weaker c.above_binary.result (second_lowered has c.args.asm.now c.lower_at.new.asm _ same c.in_ok-second-in-Binary.ensures.lowered c.above_binary.new.asm) c.above_binary.ensures.added

pub lower_above-returns-in_ok-second-in-Binary-clause-too_long : goal.lower_above-returns-in_ok-second-in-Binary-clause-too_long
lower_above-returns-in_ok-second-in-Binary-clause-too_long t c =
    let names = c.args.names.now in
    let here = binary_here c.args.e.now c.in-Binary.op c.in-Binary.a c.in-Binary.b c.deref-else-is_logic.result.now c.in-Binary.is c.deref-else-is_logic.ensures in
    let flat : is_logic (group c.in-Binary.op) ≡ false = grind (arith, common_steps) in
    let has = binary_has names c.args.slot here flat c.args.wanted in
    let same = binary_same names c.args.slot here flat c.args.first c.in_ok-second-in-Binary.second c.requires.ty c.in_ok-second-in-Binary.ensures.ty in
    IfErr-weaker c.above_binary.result _ _ (λ fault refused said. last_refused has c.args.asm.now c.lower_at.new.asm _ same c.in_ok-second-in-Binary.ensures.lowered (refused said)) c.above_binary.ensures.too_long

pub lower_above-returns-in_err-second-in-Assign-clause-too_long : goal.lower_above-returns-in_err-second-in-Assign-clause-too_long
lower_above-returns-in_err-second-in-Assign-clause-too_long t c =
    let names = c.args.names.now in
    let here = assign_here c.args.e.now c.in-Assign.how c.in-Assign.a c.in-Assign.b c.deref-in-Assign.result.now c.in-Assign.is c.deref-in-Assign.ensures in
    let has = assign_has names c.args.slot here c.args.wanted in
    let p = err_from_is_err_and c.from_residual-in_err-second-in-Assign.result c.from_residual-in_err-second-in-Assign.ensures.1 in
    rw (p.1, p.2) (λ said. second_refused has c.args.asm.now (c.in_err-second-in-Assign.ensures.too_long said))

pub lower_above-above_assign-requires-clause-slot : goal.lower_above-above_assign-requires-clause-slot
lower_above-above_assign-requires-clause-slot t c =
    let here = assign_here c.args.e.now c.in-Assign.how c.in-Assign.a c.in-Assign.b c.deref-in-Assign.result.now c.in-Assign.is c.deref-in-Assign.ensures in
    assign_slots c.args.names.now c.args.slot here c.requires.slots

pub lower_above-returns-in_ok-second-in-Assign-clause-lowered : goal.lower_above-returns-in_ok-second-in-Assign-clause-lowered
lower_above-returns-in_ok-second-in-Assign-clause-lowered t c =
    let names = c.args.names.now in
    let here = assign_here c.args.e.now c.in-Assign.how c.in-Assign.a c.in-Assign.b c.deref-in-Assign.result.now c.in-Assign.is c.deref-in-Assign.ensures in
    let has = assign_has names c.args.slot here c.args.wanted in
    let same = assign_same names c.args.slot here c.args.first c.in_ok-second-in-Assign.second c.requires.ty c.in_ok-second-in-Assign.ensures.ty in
    on_ok_weaker c.above_assign.result (second_lowered has c.args.asm.now c.lower_at-in-Assign.new.asm _ same c.in_ok-second-in-Assign.ensures.lowered c.above_assign.new.asm) c.above_assign.ensures.added

pub lower_above-returns-in_ok-second-in-Assign-clause-too_long : goal.lower_above-returns-in_ok-second-in-Assign-clause-too_long
lower_above-returns-in_ok-second-in-Assign-clause-too_long t c =
    let names = c.args.names.now in
    let here = assign_here c.args.e.now c.in-Assign.how c.in-Assign.a c.in-Assign.b c.deref-in-Assign.result.now c.in-Assign.is c.deref-in-Assign.ensures in
    let has = assign_has names c.args.slot here c.args.wanted in
    let same = assign_same names c.args.slot here c.args.first c.in_ok-second-in-Assign.second c.requires.ty c.in_ok-second-in-Assign.ensures.ty in
    IfErr-weaker c.above_assign.result _ _ (λ fault refused said. last_refused has c.args.asm.now c.lower_at-in-Assign.new.asm _ same c.in_ok-second-in-Assign.ensures.lowered (refused said)) c.above_assign.ensures.too_long

pub lower_above-returns-in_err-second-in-Index-clause-too_long : goal.lower_above-returns-in_err-second-in-Index-clause-too_long
lower_above-returns-in_err-second-in-Index-clause-too_long t c =
    let names = c.args.names.now in
    let here = index_here c.args.e.now c.in-Index.field-0 c.in-Index.b c.deref-in-Index.result.now c.in-Index.is c.deref-in-Index.ensures in
    let has = index_has names c.args.slot here c.args.wanted in
    let p = err_from_is_err_and c.from_residual-in_err-second-in-Index.result c.from_residual-in_err-second-in-Index.ensures.1 in
    rw (p.1, p.2) (λ said. second_refused has c.args.asm.now (c.in_err-second-in-Index.ensures.too_long said))

pub lower_above-above_index-requires-clause-slot : goal.lower_above-above_index-requires-clause-slot
lower_above-above_index-requires-clause-slot t c =
    let here = index_here c.args.e.now c.in-Index.field-0 c.in-Index.b c.deref-in-Index.result.now c.in-Index.is c.deref-in-Index.ensures in
    index_slots c.args.names.now c.args.slot here c.requires.slots

pub lower_above-returns-in_ok-second-in-Index-clause-lowered : goal.lower_above-returns-in_ok-second-in-Index-clause-lowered
lower_above-returns-in_ok-second-in-Index-clause-lowered t c =
    let names = c.args.names.now in
    let here = index_here c.args.e.now c.in-Index.field-0 c.in-Index.b c.deref-in-Index.result.now c.in-Index.is c.deref-in-Index.ensures in
    let has = index_has names c.args.slot here c.args.wanted in
    let same = index_same names c.args.slot here c.args.wanted c.args.first c.in_ok-second-in-Index.second c.requires.ty c.in_ok-second-in-Index.ensures.ty in
    on_ok_weaker c.above_index.result (second_lowered has c.args.asm.now c.lower_at-in-Index.new.asm _ same c.in_ok-second-in-Index.ensures.lowered c.above_index.new.asm) c.above_index.ensures.added

pub lower_above-returns-in_ok-second-in-Index-clause-too_long : goal.lower_above-returns-in_ok-second-in-Index-clause-too_long
lower_above-returns-in_ok-second-in-Index-clause-too_long t c =
    let names = c.args.names.now in
    let here = index_here c.args.e.now c.in-Index.field-0 c.in-Index.b c.deref-in-Index.result.now c.in-Index.is c.deref-in-Index.ensures in
    let has = index_has names c.args.slot here c.args.wanted in
    let same = index_same names c.args.slot here c.args.wanted c.args.first c.in_ok-second-in-Index.second c.requires.ty c.in_ok-second-in-Index.ensures.ty in
    IfErr-weaker c.above_index.result _ _ (λ fault refused said. last_refused has c.args.asm.now c.lower_at-in-Index.new.asm _ same c.in_ok-second-in-Index.ensures.lowered (refused said)) c.above_index.ensures.too_long

pub lower_logic-end_logic-requires-clause-label : goal.lower_logic-end_logic-requires-clause-label
lower_logic-end_logic-requires-clause-label t c =
    let label = c.in_ok-end.ensures.label in
    let low = logic_label c.args.names.now c.args.op (expr_of c.args.b.now) c.args.slot c.args.asm.now c.begin_logic.new.asm c.in_ok-end.ensures.added c.lower_at.new.asm c.in_ok-second.ensures.lowered in
    omega (arith, label, low)

pub lower_logic-returns-in_err-second-clause-too_long : goal.lower_logic-returns-in_err-second-clause-too_long
lower_logic-returns-in_err-second-clause-too_long t c =
    let p = err_from_is_err_and c.from_residual-in_err-second.result c.from_residual-in_err-second.ensures.1 in
    rw (p.1, p.2) (λ said. logic_second_refused c.args.names.now c.args.op (expr_of c.args.b.now) c.args.slot c.args.asm.now c.begin_logic.new.asm c.in_ok-end.ensures.added (c.in_err-second.ensures.too_long said))

pub lower_logic-returns-in_err-end_logic-clause-too_long : goal.lower_logic-returns-in_err-end_logic-clause-too_long
lower_logic-returns-in_err-end_logic-clause-too_long t c =
    let p = err_from_is_err_and c.from_residual-in_err-end_logic.result c.from_residual-in_err-end_logic.ensures.1 in
    rw (p.1, p.2) (λ said. logic_end_refused c.args.names.now c.args.op (expr_of c.args.b.now) c.args.slot c.args.asm.now c.begin_logic.new.asm c.in_ok-end.ensures.added c.lower_at.new.asm c.in_ok-second.ensures.lowered
    (subst (λ l. IsTooLong (width_of (logic_end c.args.slot l)) c.lower_at.new.asm) c.in_ok-end.ensures.label (c.in_err-end_logic.ensures.too_long said)))

pub lower_logic-returns-clause-lowered : goal.lower_logic-returns-clause-lowered
lower_logic-returns-clause-lowered t c =
    let added = subst (λ l. c.end_logic.new.asm ≡ emit_all (logic_end c.args.slot l) c.lower_at.new.asm) c.in_ok-end.ensures.label c.in_ok-end_logic.ensures.added in
    logic_lowered c.args.names.now c.args.op (expr_of c.args.b.now) c.args.slot c.args.asm.now c.begin_logic.new.asm c.in_ok-end.ensures.added c.lower_at.new.asm c.end_logic.new.asm c.in_ok-second.ensures.lowered added

pub lower_conditional-returns-in_err-left-clause-too_long : goal.lower_conditional-returns-in_err-left-clause-too_long
lower_conditional-returns-in_err-left-clause-too_long t c =
    let p = err_from_is_err_and c.from_residual-in_err-left.result c.from_residual-in_err-left.ensures.1 in
    rw (p.1, p.2) (λ said. conditional_second_refused c.args.names.now (expr_of c.args.a.now) (expr_of c.args.b.now) c.args.slot c.args.asm.now c.begin_conditional.new.asm c.in_ok-ends.ensures.added (c.in_err-left.ensures.too_long said))

pub lower_conditional-begin_third-requires-clause-label : goal.lower_conditional-begin_third-requires-clause-label
lower_conditional-begin_third-requires-clause-label t c =
    let third = c.in_ok-ends.ensures.third in
    let count = second_labels c.args.names.now (expr_of c.args.a.now) (expr_of c.args.b.now) c.args.slot c.args.asm.now c.begin_conditional.new.asm c.in_ok-ends.ensures.added c.lower_at.new.asm c.in_ok-left.ensures.lowered in
    omega (arith, third, count)

pub lower_conditional-begin_third-requires-clause-end : goal.lower_conditional-begin_third-requires-clause-end
lower_conditional-begin_third-requires-clause-end t c =
    let end = c.in_ok-ends.ensures.end in
    let count = second_labels c.args.names.now (expr_of c.args.a.now) (expr_of c.args.b.now) c.args.slot c.args.asm.now c.begin_conditional.new.asm c.in_ok-ends.ensures.added c.lower_at.new.asm c.in_ok-left.ensures.lowered in
    omega (arith, end, count)

pub lower_conditional-returns-in_err-begin_third-clause-too_long : goal.lower_conditional-returns-in_err-begin_third-clause-too_long
lower_conditional-returns-in_err-begin_third-clause-too_long t c =
    let p = err_from_is_err_and c.from_residual-in_err-begin_third.result c.from_residual-in_err-begin_third.ensures.1 in
    rw (p.1, p.2) (λ said. conditional_middle_refused c.args.names.now (expr_of c.args.a.now) (expr_of c.args.b.now) c.args.slot c.args.asm.now c.begin_conditional.new.asm c.in_ok-ends.ensures.added c.lower_at.new.asm c.in_ok-left.ensures.lowered
    (subst (λ l. IsTooLong (width_of (conditional_middle l)) c.lower_at.new.asm) c.in_ok-ends.ensures.third (c.in_err-begin_third.ensures.too_long said)))

pub lower_conditional-lower_at-requires-2 : goal.lower_conditional-lower_at-requires-2
lower_conditional-lower_at-requires-2 t c =
    let names = c.args.names.now in
    let first = labels_kept names 2 (conditional_start c.args.slot (length c.args.asm.now.places)) c.args.asm.now c.begin_conditional.new.asm c.in_ok-ends.ensures.added c.requires.labels in
    let second = labels_after names Value (expr_of c.args.a.now) c.args.slot c.begin_conditional.new.asm c.lower_at.new.asm c.in_ok-left.ensures.lowered first in
    let third = labels_kept names 0 (conditional_middle c.in_ok-ends.ends.third) c.lower_at.new.asm c.begin_third.new.asm c.in_ok-begin_third.ensures.added second in
    (search rules, (c.requires.second, (third, c.requires.other)))

pub lower_conditional-returns-in_err-right-clause-too_long : goal.lower_conditional-returns-in_err-right-clause-too_long
lower_conditional-returns-in_err-right-clause-too_long t c =
    let added = subst (λ l. c.begin_third.new.asm ≡ emit_all (conditional_middle l) c.lower_at.new.asm) c.in_ok-ends.ensures.third c.in_ok-begin_third.ensures.added in
    let p = err_from_is_err_and c.from_residual-in_err-right.result c.from_residual-in_err-right.ensures.1 in
    rw (p.1, p.2) (λ said. conditional_third_refused c.args.names.now (expr_of c.args.a.now) (expr_of c.args.b.now) c.args.slot c.args.asm.now c.begin_conditional.new.asm c.in_ok-ends.ensures.added c.lower_at.new.asm c.begin_third.new.asm c.in_ok-left.ensures.lowered added (c.in_err-right.ensures.too_long said))

pub lower_conditional-end_conditional-requires-clause-end : goal.lower_conditional-end_conditional-requires-clause-end
lower_conditional-end_conditional-requires-clause-end t c =
    let added = subst (λ l. c.begin_third.new.asm ≡ emit_all (conditional_middle l) c.lower_at.new.asm) c.in_ok-ends.ensures.third c.in_ok-begin_third.ensures.added in
    let end = c.in_ok-ends.ensures.end in
    let low = end_label c.args.names.now (expr_of c.args.a.now) (expr_of c.args.b.now) c.args.slot c.args.asm.now c.begin_conditional.new.asm c.in_ok-ends.ensures.added c.lower_at.new.asm c.begin_third.new.asm c.in_ok-left.ensures.lowered added c.lower_at-2.new.asm c.in_ok-right.ensures.lowered in
    omega (arith, end, low)

pub lower_conditional-returns-in_err-end_conditional-clause-too_long : goal.lower_conditional-returns-in_err-end_conditional-clause-too_long
lower_conditional-returns-in_err-end_conditional-clause-too_long t c =
    let added = subst (λ l. c.begin_third.new.asm ≡ emit_all (conditional_middle l) c.lower_at.new.asm) c.in_ok-ends.ensures.third c.in_ok-begin_third.ensures.added in
    let p = err_from_is_err_and c.from_residual-in_err-end_conditional.result c.from_residual-in_err-end_conditional.ensures.1 in
    rw (p.1, p.2) (λ said. conditional_end_refused c.args.names.now (expr_of c.args.a.now) (expr_of c.args.b.now) c.args.slot c.args.asm.now c.begin_conditional.new.asm c.in_ok-ends.ensures.added c.lower_at.new.asm c.begin_third.new.asm c.in_ok-left.ensures.lowered added c.lower_at-2.new.asm c.in_ok-right.ensures.lowered
    (subst (λ l. IsTooLong (width_of (conditional_end l)) c.lower_at-2.new.asm) c.in_ok-ends.ensures.third (c.in_err-end_conditional.ensures.too_long said)))

pub lower_conditional-returns-clause-lowered : goal.lower_conditional-returns-clause-lowered
lower_conditional-returns-clause-lowered t c =
    let added = subst (λ l. c.begin_third.new.asm ≡ emit_all (conditional_middle l) c.lower_at.new.asm) c.in_ok-ends.ensures.third c.in_ok-begin_third.ensures.added in
    let done = subst (λ l. c.end_conditional.new.asm ≡ emit_all (conditional_end l) c.lower_at-2.new.asm) c.in_ok-ends.ensures.third c.in_ok-end_conditional.ensures.added in
    conditional_lowered c.args.names.now (expr_of c.args.a.now) (expr_of c.args.b.now) c.args.slot c.args.asm.now c.begin_conditional.new.asm c.in_ok-ends.ensures.added c.lower_at.new.asm c.begin_third.new.asm c.in_ok-left.ensures.lowered added c.lower_at-2.new.asm c.end_conditional.new.asm c.in_ok-right.ensures.lowered done

cut : (args : List ExprTree) (i : ℕ) (item : ExprTree) → i < length args
    → item ≡ get_or args i item
    → exprs_of (drop i args) ≡ expr.More (expr_of item) (exprs_of (drop (i + 1) args))
cut args i item h e = ap exprs_of (cut_at args i item h e)

pub lower_arguments-returns-in_err-ty-clause-too_long : goal.lower_arguments-returns-in_err-ty-clause-too_long
lower_arguments-returns-in_err-ty-clause-too_long t c =
    let args = c.args.args.now in
    let i = c.loop-arg.arg-index in
    let item = c.arg-item.result in
    let here = cut args i item c.loop-arg-test.true c.arg-item.is in
    let p = err_from_is_err_and c.from_residual.result c.from_residual.ensures.1 in
    rw (p.1, p.2) (λ said definitions.
    c.loop-arg.invariant.too_long definitions (argument_refused c.args.names.now (expr_of item) (exprs_of (drop (i + 1) args)) (exprs_of (drop i args)) here c.loop-arg.into c.loop-arg.asm definitions (c.in_err-ty.ensures.too_long said)))

pub lower_arguments-loop-arg-preserved : goal.lower_arguments-loop-arg-preserved
lower_arguments-loop-arg-preserved t c =
    let names = c.args.names.now in
    let args = c.args.args.now in
    let i = c.loop-arg.arg-index in
    let item = c.arg-item.result in
    let e = expr_of item in
    let rest = exprs_of (drop (i + 1) args) in
    let all = exprs_of (drop i args) in
    let here = cut args i item c.loop-arg-test.true c.arg-item.is in
    let inv = c.loop-arg.invariant in
    let went = c.in_ok-ty.ensures.lowered in
    record {
      taken = λ definitions.
          let before = c.loop-arg.invariant.taken definitions in
          let ty = c.in_ok-ty.ensures.ty definitions in
          grind (arith, common_steps, here, before, ty, and_assoc);
      into = omega (arith, c.loop-arg.invariant.into);
      slots = arguments_slots names e rest all here c.args.slot i c.loop-arg.invariant.slots;
      ready = arguments_ready names e rest all here c.loop-arg.invariant.ready;
      labels = labels_after names Value e c.loop-arg.into c.loop-arg.asm c.lower_at.new.asm went c.loop-arg.invariant.labels;
      lowered = λ definitions.
          arguments_lowered names e rest all here c.loop-arg.into c.loop-arg.asm definitions c.lower_at.new.asm went
          ∙ c.loop-arg.invariant.lowered definitions;
      too_long = λ definitions long.
          c.loop-arg.invariant.too_long definitions
          (arguments_refused names e rest all here c.loop-arg.into c.loop-arg.asm definitions c.lower_at.new.asm went long);
    }

pub lower_arguments-returns-clause-lowered : goal.lower_arguments-returns-clause-lowered
lower_arguments-returns-clause-lowered t c = λ definitions.
    let args = c.args.args.now in
    let end = at_drop_all exprs_of args c.loop-arg.arg-index c.loop-arg-test.false in
    sym (ap (λ es. lowered (labels_in_all es) (arguments_in c.args.names.now es c.loop-arg.into c.loop-arg.asm definitions) c.loop-arg.asm) end)
    ∙ c.loop-arg.invariant.lowered definitions

pub lower_call-returns-in_err-are_taken-clause-too_long : goal.lower_call-returns-in_err-are_taken-clause-too_long
lower_call-returns-in_err-are_taken-clause-too_long t c =
    let args = c.args.args.now in
    let p = err_from_is_err_and c.from_residual.result c.from_residual.ensures.1 in
    rw (p.1, p.2) (λ said. call_arguments_refused c.args.names.now c.args.callee.now (exprs_of args) c.args.at c.args.slot (length args) (count_is args) c.args.asm.now (c.in_err-are_taken.ensures.too_long said))

pub lower_call-overflow_cast-args : goal.lower_call-overflow_cast-args
lower_call-overflow_cast-args t c =
    let args = c.args.args.now in
    omega (arith, call_slots (exprs_of args) c.args.slot (length args) (count_is args) c.requires.slots)

pub lower_call-add_call-requires-clause-labels : goal.lower_call-add_call-requires-clause-labels
lower_call-add_call-requires-clause-labels t c =
    labels_kept c.args.names.now (labels_in_all (exprs_of c.args.args.now)) (arguments_in c.args.names.now (exprs_of c.args.args.now) c.args.slot c.args.asm.now []) c.args.asm.now c.lower_arguments.new.asm (c.in_ok-are_taken.ensures.lowered []) c.requires.labels

pub lower_call-add_call-requires-clause-takes : goal.lower_call-add_call-requires-clause-takes
lower_call-add_call-requires-clause-takes t c =
    let args = c.args.args.now in
    can_call c.args.names.now c.args.callee.now (exprs_of args) c.args.at (length args) (length c.args.asm.now.places) (count_is args) c.requires.labels c.requires.ready

pub lower_call-add_call-requires-clause-slots : goal.lower_call-add_call-requires-clause-slots
lower_call-add_call-requires-clause-slots t c =
    let args = c.args.args.now in
    call_slots (exprs_of args) c.args.slot (length args) (count_is args) c.requires.slots

pub lower_call-returns-in_err-add_call-clause-too_long : goal.lower_call-returns-in_err-add_call-clause-too_long
lower_call-returns-in_err-add_call-clause-too_long t c =
    let args = c.args.args.now in
    let p = err_from_is_err_and c.from_residual-in_err-add_call.result c.from_residual-in_err-add_call.ensures.1 in
    rw (p.1, p.2) (λ said. call_refused c.args.names.now c.args.callee.now (exprs_of args) c.args.at c.args.slot (length args) (count_is args) c.args.asm.now c.lower_arguments.new.asm c.in_ok-are_taken.ensures.lowered (c.in_err-add_call.ensures.too_long said))

pub lower_call-returns-clause-lowered : goal.lower_call-returns-clause-lowered
lower_call-returns-clause-lowered t c =
    let args = c.args.args.now in
    call_lowered c.args.names.now c.args.callee.now (exprs_of args) c.args.at c.args.slot (length args) (count_is args) c.args.asm.now c.lower_arguments.new.asm c.in_ok-are_taken.ensures.lowered c.add_call.new.asm c.in_ok-add_call.ensures.added

pub lower_leaf-returns-in-Call-clause-lowered : goal.lower_leaf-returns-in-Call-clause-lowered
lower_leaf-returns-in-Call-clause-lowered t c =
    let here = call_here c.args.e.now c.in-Call.callee c.in-Call.args c.as_slice.result.now c.in-Call.is c.as_slice.ensures.value in
    on_ok_weaker c.lower_call.result (called_lowered c.args.names.now here c.requires.ready c.args.slot c.args.asm.now c.lower_call.new.asm) c.lower_call.ensures.lowered

pub lower_leaf-returns-in-Call-clause-too_long : goal.lower_leaf-returns-in-Call-clause-too_long
lower_leaf-returns-in-Call-clause-too_long t c =
    let here = call_here c.args.e.now c.in-Call.callee c.in-Call.args c.as_slice.result.now c.in-Call.is c.as_slice.ensures.value in
    IfErr-weaker c.lower_call.result _ _ (λ fault refused said. called_refused c.args.names.now here c.requires.ready c.args.slot c.args.asm.now (refused said)) c.lower_call.ensures.too_long

pub rise-lower_above-requires : goal.rise-lower_above-requires
rise-lower_above-requires t c =
    let e = expr_of c.args.e.now in
    let names = c.args.names.now in
    let left = c.loop-left.left in
    let node = expr_of c.reach-node.result.expr.now in
    let wanted = c.reach-node.result.wanted in
    let small : size-Expr c.reach-node.result.expr.now ≤ size-Expr c.args.e.now = c.reach-node.ensures.small in
    let here = risen Operands left e node c.loop-left-test.true c.reach-node.ensures.expr in
    let ready = reached_ready names c.args.wanted (left - 1) e wanted node c.reach-node.ensures.wanted c.reach-node.ensures.expr c.requires.ready in
    let few = reached_slots names c.args.wanted (left - 1) e wanted node c.reach-node.ensures.wanted c.reach-node.ensures.expr in
    let ty = subst (IsTypeOf names.known c.loop-left.ty) (sym here) c.loop-left.invariant.ty in
    (grind (arith, common_steps, small), (ready, (c.loop-left.invariant.labels, (omega (arith, few), (ty, λ h. c.loop-left.invariant.flat (ap is_place (sym here) ∙ h))))))

pub rise-returns-in_err-ty-clause-too_long : goal.rise-returns-in_err-ty-clause-too_long
rise-returns-in_err-ty-clause-too_long t c =
    let e = expr_of c.args.e.now in
    let left = c.loop-left.left in
    let node = expr_of c.reach-node.result.expr.now in
    let p = err_from_is_err_and c.from_residual.result c.from_residual.ensures.1 in
    rw (p.1, p.2) (λ said start begun.
    node_refused c.args.names.now c.args.wanted left e c.reach-node.result.wanted node c.loop-left-test.true c.reach-node.ensures.wanted c.reach-node.ensures.expr c.requires.ready c.args.slot start c.loop-left.asm (c.loop-left.invariant.lowered start begun) (c.in_err-ty.ensures.too_long said))

pub rise-loop-left-preserved : goal.rise-loop-left-preserved
rise-loop-left-preserved t c =
    let e = expr_of c.args.e.now in
    let names = c.args.names.now in
    let left = c.loop-left.left in
    let node = expr_of c.reach-node.result.expr.now in
    let here = c.reach-node.ensures.expr in
    record {
      ty = subst (IsTypeOf names.known c.in_ok-ty.ty) here c.in_ok-ty.ensures.ty;
      flat = λ h. c.in_ok-ty.ensures.flat (ap is_place here ∙ h);
      labels = labels_behind names c.reach-node.result.wanted node c.args.slot c.loop-left.asm c.lower_above.new.asm c.in_ok-ty.ensures.lowered c.loop-left.invariant.labels;
      lowered = λ start begun.
          node_lowered names c.args.wanted left e c.reach-node.result.wanted node c.loop-left-test.true c.reach-node.ensures.wanted here c.requires.ready c.args.slot start c.loop-left.asm (c.loop-left.invariant.lowered start begun) c.lower_above.new.asm c.in_ok-ty.ensures.lowered;
    }

pub rise-returns-clause-ty : goal.rise-returns-clause-ty
rise-returns-clause-ty t c =
    let top = at_top Operands c.loop-left.left (expr_of c.args.e.now) c.loop-left-test.false in
    subst (IsTypeOf c.args.names.now.known c.loop-left.ty) top c.loop-left.invariant.ty

pub rise-returns-clause-flat : goal.rise-returns-clause-flat
rise-returns-clause-flat t c =
    let top = at_top Operands c.loop-left.left (expr_of c.args.e.now) c.loop-left-test.false in
    λ h. c.loop-left.invariant.flat (ap is_place top ∙ h)

pub rise-returns-clause-lowered : goal.rise-returns-clause-lowered
rise-returns-clause-lowered t c = λ start begun.
    top_lowered c.args.names.now c.args.wanted c.loop-left.left (expr_of c.args.e.now) c.args.slot start c.loop-left.asm c.loop-left-test.false (c.loop-left.invariant.lowered start begun)

pub lower_at-lower_leaf-requires-then-lowest-lt-LIMIT : goal.lower_at-lower_leaf-requires-then-lowest-lt-LIMIT
lower_at-lower_leaf-requires-then-lowest-lt-LIMIT t c =
    let e = expr_of c.args.e.now in
    let n = c.follow-lowest.result.count in
    let end = expr_of c.follow-lowest.result.end.now in
    let small : size-Expr c.follow-lowest.result.end.now ≤ size-Expr c.args.e.now = c.follow-lowest.ensures.small in
    let leaf = c.follow-lowest.ensures.ends c.if-lowest-lt-LIMIT.true in
    let ready = reached_ready c.args.names.now c.args.wanted n e c.reach-below.result.wanted end c.reach-below.ensures.wanted c.follow-lowest.ensures.reaches c.requires.ready in
    let few = reached_slots c.args.names.now c.args.wanted n e c.reach-below.result.wanted end c.reach-below.ensures.wanted c.follow-lowest.ensures.reaches in
    (grind (arith, common_steps, small), (leaf, (ready, (c.requires.labels, omega (arith, few)))))

pub lower_at-returns-in_err-end-clause-too_long : goal.lower_at-returns-in_err-end-clause-too_long
lower_at-returns-in_err-end-clause-too_long t c =
    let p = err_from_is_err_and c.from_residual.result c.from_residual.ensures.1 in
    rw (p.1, p.2) (λ said.
    reached_refused c.args.names.now c.args.wanted c.follow-lowest.result.count (expr_of c.args.e.now) c.reach-below.result.wanted (expr_of c.follow-lowest.result.end.now) c.reach-below.ensures.wanted c.follow-lowest.ensures.reaches c.args.slot c.args.asm.now c.requires.ready (c.in_err-end.ensures.too_long said))

pub lower_at-lower_at-requires : goal.lower_at-lower_at-requires
lower_at-lower_at-requires t c =
    let e = expr_of c.args.e.now in
    let n = c.follow-lowest.result.count in
    let end = expr_of c.follow-lowest.result.end.now in
    let smaller : size-Expr c.follow-lowest.result.end.now < size-Expr c.args.e.now = c.follow-lowest.ensures.smaller (omega arith) in
    let ready = reached_ready c.args.names.now c.args.wanted n e c.reach-below.result.wanted end c.reach-below.ensures.wanted c.follow-lowest.ensures.reaches c.requires.ready in
    let few = reached_slots c.args.names.now c.args.wanted n e c.reach-below.result.wanted end c.reach-below.ensures.wanted c.follow-lowest.ensures.reaches in
    (grind (arith, common_steps, smaller), (ready, (c.requires.labels, omega (arith, few))))

pub lower_at-returns-in_err-end-2-clause-too_long : goal.lower_at-returns-in_err-end-2-clause-too_long
lower_at-returns-in_err-end-2-clause-too_long t c =
    let p = err_from_is_err_and c.from_residual-in_err-end-2.result c.from_residual-in_err-end-2.ensures.1 in
    rw (p.1, p.2) (λ said.
    reached_refused c.args.names.now c.args.wanted c.follow-lowest.result.count (expr_of c.args.e.now) c.reach-below.result.wanted (expr_of c.follow-lowest.result.end.now) c.reach-below.ensures.wanted c.follow-lowest.ensures.reaches c.args.slot c.args.asm.now c.requires.ready (c.in_err-end-2.ensures.too_long said))

pub lower_at-rise-requires : goal.lower_at-rise-requires
lower_at-rise-requires t c =
    let names = c.args.names.now in
    let end = expr_of c.follow-lowest.result.end.now in
    let reaches = c.follow-lowest.ensures.reaches in
    elim c.if-lowest-lt-LIMIT.branch [
      | lower_at-then-lowest-lt-LIMIT+in_ok-end w ↦
          let labels = labels_after names c.reach-below.result.wanted end c.args.slot c.args.asm.now w.lower_leaf-then-lowest-lt-LIMIT.new.asm w.in_ok-end.ensures.lowered c.requires.labels in
          let ty = subst (λ ty. IsTypeOf names.known ty end) (sym w.end-is) w.in_ok-end.ensures.ty in
          (grind (arith, common_steps), (c.requires.ready, (subst (λ m. HasLabels names (length m.places)) (sym w.asm-is) labels, (c.requires.slots, (subst (IsTypeOf names.known c.if-lowest-lt-LIMIT.end) reaches ty, λ h. ap is_flat w.end-is ∙ w.in_ok-end.ensures.flat (ap is_place reaches ∙ h))))))
      | lower_at-else-lowest-lt-LIMIT+in_ok-end-2 w ↦
          let labels = labels_after names c.reach-below.result.wanted end c.args.slot c.args.asm.now w.lower_at.new.asm w.in_ok-end-2.ensures.lowered c.requires.labels in
          let ty = subst (λ ty. IsTypeOf names.known ty end) (sym w.end-is) w.in_ok-end-2.ensures.ty in
          (grind (arith, common_steps), (c.requires.ready, (subst (λ m. HasLabels names (length m.places)) (sym w.asm-is) labels, (c.requires.slots, (subst (IsTypeOf names.known c.if-lowest-lt-LIMIT.end) reaches ty, λ h. ap is_flat w.end-is ∙ w.in_ok-end-2.ensures.flat (ap is_place reaches ∙ h))))))
    ]
