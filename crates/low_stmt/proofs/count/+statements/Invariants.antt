use Rattle.std.proofs.Common.{◌≡◌, ◌≤◌, ◌+◌, drop}
use Rattle.c_tree.specs.View.{stmts_of}
use Rattle.low_stmt.specs.CodeBound.{count_stmts}
use Rattle.low_stmt.specs.declared.count.TheConstants.{MANY}
use Rattle.low_stmt.specs.private.CappedCount.{capped}
use Rattle.low_stmt.proofs.count.+statements.Given as goal

abbrev pub invariant-body_parts-loop-s : goal.invariant-body_parts-loop-s
invariant-body_parts-loop-s l = record {
  limit : l.count ≤ MANY;
  done : capped (l.count + count_stmts (stmts_of (drop l.s-index l.body)))
      ≡ capped (count_stmts (stmts_of l.body));
}
