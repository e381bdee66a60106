use Rattle.std.proofs.Common.{◌≡◌, ◌≤◌, ◌+◌, map, drop}
use Rattle.c_tree.specs.View.{var_of}
use Rattle.low_stmt.specs.CodeBound.{count_declarators}
use Rattle.low_stmt.specs.declared.count.TheConstants.{MANY}
use Rattle.low_stmt.specs.private.CappedCount.{capped}
use Rattle.low_stmt.proofs.count.var_parts.Given as goal

abbrev pub invariant-loop-v : goal.invariant-loop-v
invariant-loop-v l = record {
  limit : l.count ≤ MANY;
  done : capped (l.count + count_declarators (map var_of (drop l.v-index l.vars)))
      ≡ capped (count_declarators (map var_of l.vars));
}
