use Rattle.std.proofs.Common.{◌≡◌, ◌+◌, ◌*◌}
use Rattle.std.specs.Option.{option_map, option_copied}
use Rattle.c_tree.specs.declared.breach.Least.{Least}
use Rattle.c_tree.specs.declared.tree.Expr.{size-Expr}
use Rattle.c_tree.specs.View.{expr_of}
use Rattle.c_tree.specs.Breach.{least_of}
use Rattle.c_tree.specs.Constant.{constant_shape, value_of, constant_breaches}
use Rattle.c_rules.specs.IntegerTypes.{integer}
use Rattle.c_types.specs.Env.{scope_of}
use Rattle.c_rules.specs.Spine.{down}
use Rattle.c_rules.specs.declared.spine.Along.TheVariants.{Constants}
use Rattle.c_types.proofs.constants.+constants.Given as goal

abbrev pub invariant-rise-loop-left : goal.invariant-rise-loop-left
invariant-rise-loop-left l = record {
  ty : integer l.known.ty ≡ constant_shape (down Constants l.left (expr_of l.e));
  value : l.known.value ≡ value_of (down Constants l.left (expr_of l.e));
  least : (start : Least) → l.initial.least
      ≡ least_of start (constant_breaches (option_map scope_of (option_copied l.env)) l.live
      (down Constants l.count (expr_of l.e)))
      → l.least ≡ least_of start
      (constant_breaches (option_map scope_of (option_copied l.env)) l.live
      (down Constants l.left (expr_of l.e)));
}

abbrev pub decreases-rise-loop-left : goal.decreases-rise-loop-left
decreases-rise-loop-left l = l.left

abbrev pub decreases-evaluate : goal.decreases-evaluate
decreases-evaluate l = 4 * size-Expr l.e.now + 2

abbrev pub decreases-rise : goal.decreases-rise
decreases-rise l = 4 * size-Expr l.e.now + 1

abbrev pub decreases-evaluate_above : goal.decreases-evaluate_above
decreases-evaluate_above l = 4 * size-Expr l.e.now
