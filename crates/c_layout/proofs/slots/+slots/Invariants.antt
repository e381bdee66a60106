use Rattle.std.proofs.Common.{◌≡◌, ◌≤◌, ◌+◌, ◌*◌, max, drop}
use Rattle.c_tree.specs.declared.tree.Expr.{size-Expr}
use Rattle.c_tree.specs.View.{expr_of, exprs_of}
use Rattle.c_layout.specs.private.Capped.{few}
use Rattle.c_layout.specs.Slots.{slots, slots_from}
use Rattle.c_layout.proofs.slots.+slots.Given as goal

abbrev pub invariant-slots-loop-first : goal.invariant-slots-loop-first
invariant-slots-loop-first l = record {
  slots : max l.most (few (slots (expr_of l.end))) ≡ few (slots (expr_of l.e));
  most : l.most ≤ 16385;
  small : size-Expr l.end ≤ size-Expr l.e;
}

abbrev pub decreases-slots-loop-first : goal.decreases-slots-loop-first
decreases-slots-loop-first l = size-Expr l.end

abbrev pub invariant-argument_slots-loop-arg : goal.invariant-argument_slots-loop-arg
invariant-argument_slots-loop-arg l = record {
  most : l.most ≤ 16385;
  at : l.at ≡ few l.arg-index;
  done : max l.most (few (slots_from l.arg-index (exprs_of (drop l.arg-index l.args))))
      ≡ few (slots_from 0 (exprs_of l.args));
}

abbrev pub decreases-slots : goal.decreases-slots
decreases-slots l = 4 * size-Expr l.e.now + 1

abbrev pub decreases-part : goal.decreases-part
decreases-part l = 4 * size-Expr l.e.now

abbrev pub decreases-argument_slots : goal.decreases-argument_slots
decreases-argument_slots l = 4 * goal.size-argument_slots l + 3
