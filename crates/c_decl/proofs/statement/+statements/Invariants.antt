use Rattle.std.proofs.Common.{◌≡◌, ◌+◌, ◌-◌, ◌*◌, map}
use Rattle.c_tree.specs.View as view
use Rattle.c_expr.specs.private.ExpressionReading.{turns}
use Rattle.c_decl.specs.private.StatementReading as read
use Rattle.c_decl.proofs.statement.+statements.Given as goal

abbrev pub decreases-parse_stmt : goal.decreases-parse_stmt
decreases-parse_stmt l = 8 * l.cursor.now.room

abbrev pub decreases-parse_opened : goal.decreases-parse_opened
decreases-parse_opened l = 8 * l.cursor.now.room + 5

abbrev pub decreases-parse_block : goal.decreases-parse_block
decreases-parse_block l = 8 * l.cursor.now.room + 4

abbrev pub decreases-parse_while : goal.decreases-parse_while
decreases-parse_while l = 8 * l.cursor.now.room + 2

abbrev pub decreases-parse_if : goal.decreases-parse_if
decreases-parse_if l = 8 * l.cursor.now.room + 2

abbrev pub decreases-parse_else : goal.decreases-parse_else
decreases-parse_else l = 8 * l.cursor.now.room + 1

abbrev pub decreases-parse_do : goal.decreases-parse_do
decreases-parse_do l = 8 * l.cursor.now.room + 1

abbrev pub decreases-parse_for : goal.decreases-parse_for
decreases-parse_for l = 8 * l.cursor.now.room + 1

abbrev pub decreases-parse_block_item : goal.decreases-parse_block_item
decreases-parse_block_item l = 8 * l.cursor.now.room + 1

abbrev pub decreases-parse_body : goal.decreases-parse_body
decreases-parse_body l = 8 * l.cursor.now.room + 2

abbrev pub invariant-parse_body-loop : goal.invariant-parse_body-loop
invariant-parse_body-loop l = record {
  room : l.cursor.room ≡ l.fn.cursor.room;
  read : read.body read.stated l.fn.cursor.room l.fn.cursor.tokens.now
      ≡ turns (read.body_turn read.stated l.fn.cursor.room) (l.end - l.counter)
      (map view.stmt_of l.found.items) l.cursor.tokens.now;
}
