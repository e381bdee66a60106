use Rattle.std.proofs.Common.{◌≡◌, ◌+◌, ◌*◌, map, take, All, vec_len}
use Rattle.c_tree.specs.declared.tree.Expr.{size-Expr}
use Rattle.c_tree.specs.View.{expr_of}
use Rattle.c_tree.specs.FirstOperand.{within}
use Rattle.c_tree.proofs.FirstOperandLemmas.{seen, IsWithin}
use Rattle.c_tree.proofs.copy.+expr.Given as goal

abbrev pub invariant-expr-loop-next : goal.invariant-expr-loop-next
invariant-expr-loop-next l = record {
  whole : within (seen l.above.items) (expr_of l.copy) ≡ expr_of l.fn.e;
  small : All (IsWithin l.fn.e) l.above.items;
}

abbrev pub decreases-expr-loop-next : goal.decreases-expr-loop-next
decreases-expr-loop-next l = vec_len l.above

abbrev pub invariant-exprs-loop-e : goal.invariant-exprs-loop-e
invariant-exprs-loop-e l = map expr_of l.copy.items ≡ map expr_of (take l.e-index l.list)

abbrev pub decreases-around : goal.decreases-around
decreases-around l = 3 * size-Expr l.e.now

abbrev pub decreases-end : goal.decreases-end
decreases-end l = 3 * size-Expr l.e.now

abbrev pub decreases-expr : goal.decreases-expr
decreases-expr l = 3 * size-Expr l.e.now + 1

abbrev pub decreases-operand : goal.decreases-operand
decreases-operand l = 3 * size-Expr l.e.now + 2

abbrev pub decreases-exprs : goal.decreases-exprs
decreases-exprs l = 3 * goal.size-exprs l + 2
