use Rattle.std.proofs.Common.{◌≡◌, ◌≤◌, ◌+◌, ◌*◌, drop}
use Rattle.c_tree.specs.declared.tree.Expr.{size-Expr}
use Rattle.c_tree.specs.View.{expr_of, exprs_of}
use Rattle.low_expr.specs.Bound.{nodes, nodes_of_all}
use Rattle.low_stmt.specs.declared.count.TheConstants.{MANY}
use Rattle.low_stmt.specs.private.CappedCount.{capped}
use Rattle.low_stmt.proofs.count.+nodes.Given as goal

abbrev pub invariant-nodes-loop-first : goal.invariant-nodes-loop-first
invariant-nodes-loop-first l = record {
  nodes : capped (l.count + nodes (expr_of l.end)) ≡ capped (nodes (expr_of l.e));
  limit : l.count ≤ MANY;
  small : size-Expr l.end ≤ size-Expr l.e;
}

abbrev pub decreases-nodes-loop-first : goal.decreases-nodes-loop-first
decreases-nodes-loop-first l = size-Expr l.end

abbrev pub invariant-nodes_of_all-loop-e : goal.invariant-nodes_of_all-loop-e
invariant-nodes_of_all-loop-e l = record {
  limit : l.count ≤ MANY;
  done : capped (l.count + nodes_of_all (exprs_of (drop l.e-index l.list)))
      ≡ capped (nodes_of_all (exprs_of l.list));
}

abbrev pub decreases-nodes : goal.decreases-nodes
decreases-nodes l = 4 * size-Expr l.e.now + 1

abbrev pub decreases-part : goal.decreases-part
decreases-part l = 4 * size-Expr l.e.now

abbrev pub decreases-nodes_of_all : goal.decreases-nodes_of_all
decreases-nodes_of_all l = 4 * goal.size-nodes_of_all l + 3
