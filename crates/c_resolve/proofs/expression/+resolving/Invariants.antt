use Rattle.std.proofs.Common.{◌≡◌, List, true, map, take, drop, ◌+◌, ◌*◌, ◌&&◌}
use Rattle.c_tree.specs.declared.tree.Expr.{size-Expr}
use Rattle.c_tree.specs.Rules.{is_place}
use Rattle.c_tree.specs.Typing.{type_at, all_taken}
use Rattle.c_tree.specs.View.{expr_of, exprs_of}
use Rattle.c_types.specs.Call.{parameters}
use Rattle.c_rules.specs.Seen.{seen_some, is_flat}
use Rattle.c_rules.specs.Spine.{down}
use Rattle.c_rules.specs.declared.spine.Along.TheVariants.{Operands}
use Rattle.c_semantics.specs.Names.{Definition, types}
use Rattle.c_resolve.specs.Nodes.{runs}
use Rattle.c_resolve.specs.private.Resolved.{scope, runs_of}
use Rattle.c_resolve.specs.DeclaredNames.{names_in}
use Rattle.c_resolve.specs.Context.{Context}
use Rattle.c_resolve.proofs.expression.+resolving.Given as goal

abbrev pub invariant-resolve_arguments-loop-arg : goal.invariant-resolve_arguments-loop-arg
invariant-resolve_arguments-loop-arg l = record {
  taken : (definitions : List Definition)
      → l.passed.typed && all_taken (types (names_in definitions l.names)) (parameters l.rest)
      (exprs_of (drop l.arg-index l.args))
      ≡ all_taken (types (names_in definitions l.names)) (parameters l.taken) (exprs_of l.args);
  means : (context : Context)
      → map (runs context) l.nodes.items
      ≡ map (λ e. runs_of context (scope context l.names) (expr_of e))
      (take l.arg-index l.args);
}

abbrev pub invariant-rise-loop-left : goal.invariant-rise-loop-left
invariant-rise-loop-left l = record {
  ty : (definitions : List Definition)
      → seen_some l.typed.ty ≡ type_at (types (names_in definitions l.names))
      (down Operands l.left (expr_of l.e));
  flat : is_place (down Operands l.left (expr_of l.e)) ≡ true → is_flat l.typed.ty ≡ true;
  means : (context : Context)
      → runs context l.typed.node
      ≡ runs_of context (scope context l.names) (down Operands l.left (expr_of l.e));
}

abbrev pub decreases-rise-loop-left : goal.decreases-rise-loop-left
decreases-rise-loop-left l = l.left

abbrev pub decreases-resolve : goal.decreases-resolve
decreases-resolve l = 4 * size-Expr l.e.now + 2

abbrev pub decreases-rise : goal.decreases-rise
decreases-rise l = 4 * size-Expr l.e.now + 1

abbrev pub decreases-resolve_above : goal.decreases-resolve_above
decreases-resolve_above l = 4 * size-Expr l.e.now

abbrev pub decreases-resolve_leaf : goal.decreases-resolve_leaf
decreases-resolve_leaf l = 4 * size-Expr l.e.now

abbrev pub decreases-resolve_call : goal.decreases-resolve_call
decreases-resolve_call l = 4 * goal.size-resolve_call l + 4

abbrev pub decreases-resolve_arguments : goal.decreases-resolve_arguments
decreases-resolve_arguments l = 4 * goal.size-resolve_arguments l + 3
