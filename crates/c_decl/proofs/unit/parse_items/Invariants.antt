use Rattle.std.proofs.Common.{◌≡◌, ◌-◌, map}
use Rattle.c_tree.specs.View as view
use Rattle.c_expr.specs.private.ExpressionReading.{turns}
use Rattle.c_decl.specs.private.UnitReading as read
use Rattle.c_decl.proofs.unit.parse_items.Given as goal

abbrev pub invariant-loop : goal.invariant-loop
invariant-loop l = record {
  room : l.cursor.room ≡ l.fn.cursor.room;
  read : read.unit l.fn.cursor.room l.fn.cursor.tokens.now
      ≡ turns (read.unit_turn l.fn.cursor.room) (l.end - l.counter) (map view.item_of l.found.items)
      l.cursor.tokens.now;
}
