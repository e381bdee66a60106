use Rattle.std.proofs.Common.{◌≡◌, ◌≤◌, ◌+◌, map, drop}
use Rattle.c_tree.specs.View.{item_of, items_of}
use Rattle.low_stmt.specs.CodeBound.{count_items, count_text}
use Rattle.low_stmt.specs.declared.count.TheConstants.{MANY}
use Rattle.low_stmt.specs.private.CappedCount.{capped}
use Rattle.low_stmt.proofs.count.has_few_parts.Given as goal

abbrev pub invariant-loop-item : goal.invariant-loop-item
invariant-loop-item l = record {
  limit : l.count ≤ MANY;
  done : capped (l.count + count_items (map item_of (drop l.item-index l.tree.items.items)))
      ≡ capped (count_text (items_of l.tree));
}
