use Rattle.std.proofs.Common.{◌≡◌, List, true, length, drop, ◌+◌, ◌*◌, ◌&&◌, ◌≤◌, max}
use Rattle.c_tree.specs.declared.tree.Expr.{size-Expr}
use Rattle.c_tree.specs.Rules.{is_place}
use Rattle.c_tree.specs.Typing.{type_at, all_taken}
use Rattle.c_tree.specs.View.{expr_of, exprs_of}
use Rattle.c_types.specs.Call.{parameters}
use Rattle.c_rules.specs.Seen.{seen_some, is_flat}
use Rattle.c_rules.specs.Spine.{down}
use Rattle.c_rules.specs.declared.spine.Along.TheVariants.{Operands}
use Rattle.c_layout.specs.Slots.{slots_from}
use Rattle.c_semantics.specs.Names.{Definition, types}
use Rattle.low_labels.specs.Emission.{Emission, IsTooLong}
use Rattle.low_labels.specs.Operation.{width_of}
use Rattle.low_expr.specs.declared.piece.TheConstants.{SLOTS}
use Rattle.low_expr.specs.ExprCode.{labels_in_all}
use Rattle.low_expr.specs.LabelledNames.{scope_in, HasLabels}
use Rattle.low_expr.specs.Lowering.{lowered}
use Rattle.low_expr.specs.private.Wanting.{wanted_down, arguments_in, AreReadyIn, IsLoweredAs}
use Rattle.low_expr.proofs.expression.+lowering.Given as goal

abbrev pub invariant-lower_arguments-loop-arg : goal.invariant-lower_arguments-loop-arg
invariant-lower_arguments-loop-arg l = record {
  taken : (definitions : List Definition)
      → l.passed.typed && all_taken (types (scope_in definitions l.names)) (parameters l.rest)
      (exprs_of (drop l.arg-index l.args))
      ≡ all_taken (types (scope_in definitions l.names)) (parameters l.taken) (exprs_of l.args);
  into : l.into ≡ l.slot + l.arg-index;
  slots : l.slot + slots_from l.arg-index (exprs_of (drop l.arg-index l.args)) ≤ SLOTS;
  ready : AreReadyIn l.names (exprs_of (drop l.arg-index l.args));
  labels : HasLabels l.names (length l.asm.places);
  lowered : (definitions : List Definition)
      → lowered (labels_in_all (exprs_of (drop l.arg-index l.args)))
      (arguments_in l.names (exprs_of (drop l.arg-index l.args)) l.into l.asm definitions) l.asm
      ≡ lowered (labels_in_all (exprs_of l.args))
      (arguments_in l.names (exprs_of l.args) l.slot l.fn.asm definitions) l.fn.asm;
  too_long : (definitions : List Definition)
      → IsTooLong (width_of (arguments_in l.names (exprs_of (drop l.arg-index l.args)) l.into l.asm definitions)) l.asm
      → IsTooLong (width_of (arguments_in l.names (exprs_of l.args) l.slot l.fn.asm definitions)) l.fn.asm;
}

abbrev pub invariant-rise-loop-left : goal.invariant-rise-loop-left
invariant-rise-loop-left l = record {
  ty : (definitions : List Definition)
      → seen_some l.ty ≡ type_at (types (scope_in definitions l.names))
      (down Operands l.left (expr_of l.e));
  flat : is_place (down Operands l.left (expr_of l.e)) ≡ true → is_flat l.ty ≡ true;
  labels : HasLabels l.names (length l.asm.places);
  lowered : (start : Emission)
      → IsLoweredAs l.names (wanted_down l.wanted l.count (expr_of l.e))
      (down Operands l.count (expr_of l.e)) l.slot start l.fn.asm
      → IsLoweredAs l.names (wanted_down l.wanted l.left (expr_of l.e))
      (down Operands l.left (expr_of l.e)) l.slot start l.asm;
}

abbrev pub decreases-rise-loop-left : goal.decreases-rise-loop-left
decreases-rise-loop-left l = l.left

abbrev pub decreases-lower_at : goal.decreases-lower_at
decreases-lower_at l = 4 * size-Expr l.e.now + 2

abbrev pub decreases-rise : goal.decreases-rise
decreases-rise l = 4 * size-Expr l.e.now + 1

abbrev pub decreases-lower_above : goal.decreases-lower_above
decreases-lower_above l = 4 * size-Expr l.e.now

abbrev pub decreases-lower_leaf : goal.decreases-lower_leaf
decreases-lower_leaf l = 4 * size-Expr l.e.now

abbrev pub decreases-lower_logic : goal.decreases-lower_logic
decreases-lower_logic l = 4 * size-Expr l.b.now + 3

abbrev pub decreases-lower_conditional : goal.decreases-lower_conditional
decreases-lower_conditional l = 4 * max (size-Expr l.a.now) (size-Expr l.b.now) + 3

abbrev pub decreases-lower_call : goal.decreases-lower_call
decreases-lower_call l = 4 * goal.size-lower_call l + 4

abbrev pub decreases-lower_arguments : goal.decreases-lower_arguments
decreases-lower_arguments l = 4 * goal.size-lower_arguments l + 3
