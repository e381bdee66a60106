use Rattle.std.proofs.Common.{◌≡◌, ◌+◌, ◌*◌, ◌&&◌, true, drop}
use Rattle.c_tree.specs.declared.usage.Use.TheVariants.{Value}
use Rattle.c_tree.specs.declared.breach.Least.{Least}
use Rattle.c_tree.specs.declared.tree.Expr.{size-Expr}
use Rattle.c_tree.specs.View.{expr_of, exprs_of}
use Rattle.c_tree.specs.Breach.{least_of}
use Rattle.c_tree.specs.Rules.{is_place}
use Rattle.c_tree.specs.Typing.{type_at, all_taken}
use Rattle.c_tree.specs.Breaches.{breaches, breaches_in, same_count, all_possible}
use Rattle.c_types.specs.Env.{scope_of}
use Rattle.c_types.specs.Call.{parameters}
use Rattle.c_rules.specs.Seen.{seen_some, is_flat}
use Rattle.c_rules.specs.Spine.{down}
use Rattle.c_rules.specs.declared.spine.Along.TheVariants.{Operands}
use Rattle.c_types.proofs.typing.+types.Given as goal

abbrev pub invariant-type_arguments-loop-arg : goal.invariant-type_arguments-loop-arg
invariant-type_arguments-loop-arg l = record {
  counts : l.passed.counts && same_count (parameters l.rest) (exprs_of (drop l.arg-index l.args))
      ≡ same_count (parameters l.taken) (exprs_of l.args);
  fits : l.passed.fits && all_possible (scope_of l.env) (parameters l.rest)
      (exprs_of (drop l.arg-index l.args))
      ≡ all_possible (scope_of l.env) (parameters l.taken) (exprs_of l.args);
  typed : l.passed.typed && all_taken (scope_of l.env) (parameters l.rest)
      (exprs_of (drop l.arg-index l.args))
      ≡ all_taken (scope_of l.env) (parameters l.taken) (exprs_of l.args);
  least : least_of l.least (breaches_in (scope_of l.env) (exprs_of (drop l.arg-index l.args)))
      ≡ least_of l.initial.least (breaches_in (scope_of l.env) (exprs_of l.args));
}

abbrev pub invariant-rise-loop-left : goal.invariant-rise-loop-left
invariant-rise-loop-left l = record {
  ty : seen_some l.ty ≡ type_at (scope_of l.env) (down Operands l.left (expr_of l.e));
  flat : is_place (down Operands l.left (expr_of l.e)) ≡ true → is_flat l.ty ≡ true;
  least : (start : Least) → l.initial.least
      ≡ least_of start (breaches (scope_of l.env) Value (down Operands l.count (expr_of l.e)))
      → l.least ≡ least_of start
      (breaches (scope_of l.env) Value (down Operands l.left (expr_of l.e)));
}

abbrev pub decreases-rise-loop-left : goal.decreases-rise-loop-left
decreases-rise-loop-left l = l.left

abbrev pub decreases-walk : goal.decreases-walk
decreases-walk l = 4 * size-Expr l.e.now + 2

abbrev pub decreases-rise : goal.decreases-rise
decreases-rise l = 4 * size-Expr l.e.now + 1

abbrev pub decreases-type_above : goal.decreases-type_above
decreases-type_above l = 4 * size-Expr l.e.now

abbrev pub decreases-type_leaf : goal.decreases-type_leaf
decreases-type_leaf l = 4 * size-Expr l.e.now

abbrev pub decreases-type_arguments : goal.decreases-type_arguments
decreases-type_arguments l = 4 * goal.size-type_arguments l + 3
