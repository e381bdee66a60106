use Rattle.std.proofs.Common.{◌≡◌, ◌<◌, ◌≤◌, [], length, map, ◌+◌, ◌-◌, ◌*◌}
use Rattle.c_tree.specs.View.{expr_of}
use Rattle.c_expr.specs.private.ExpressionReading as read
use Rattle.c_expr.proofs.parse.+rules.Given as goal

abbrev pub decreases-open_rule : goal.decreases-open_rule
decreases-open_rule l = 16 * l.cursor.now.room

abbrev pub decreases-parse_inside : goal.decreases-parse_inside
decreases-parse_inside l = 16 * l.cursor.now.room + 13

abbrev pub decreases-parse_assign : goal.decreases-parse_assign
decreases-parse_assign l = 16 * l.cursor.now.room + 1

abbrev pub decreases-parse_conditional : goal.decreases-parse_conditional
decreases-parse_conditional l = 16 * l.cursor.now.room + 12

abbrev pub decreases-parse_unary : goal.decreases-parse_unary
decreases-parse_unary l = 16 * l.cursor.now.room + 7

abbrev pub decreases-parse_binary : goal.decreases-parse_binary
decreases-parse_binary l = 16 * l.cursor.now.room + l.at + 1

abbrev pub decreases-parse_cast_or_group : goal.decreases-parse_cast_or_group
decreases-parse_cast_or_group l = 16 * l.cursor.now.room + 2

abbrev pub decreases-parse_suffixes : goal.decreases-parse_suffixes
decreases-parse_suffixes l = 16 * l.cursor.now.room + 1

abbrev pub decreases-parse_primary : goal.decreases-parse_primary
decreases-parse_primary l = 16 * l.cursor.now.room + 6

abbrev pub decreases-parse_reserved : goal.decreases-parse_reserved
decreases-parse_reserved l = 16 * l.cursor.now.room + 4

abbrev pub decreases-parse_name : goal.decreases-parse_name
decreases-parse_name l = 16 * l.cursor.now.room + 4

abbrev pub decreases-parse_call : goal.decreases-parse_call
decreases-parse_call l = 16 * l.cursor.now.room + 3

abbrev pub decreases-parse_arguments : goal.decreases-parse_arguments
decreases-parse_arguments l = 16 * l.cursor.now.room + 1

abbrev pub invariant-parse_arguments-loop : goal.invariant-parse_arguments-loop
invariant-parse_arguments-loop l = record {
  room : l.cursor.room ≡ l.fn.cursor.room;
  read : read.turns (read.argument read.ruled l.fn.cursor.room) (length l.fn.cursor.tokens.now) []
      l.fn.cursor.tokens.now
      ≡ read.turns (read.argument read.ruled l.fn.cursor.room) (l.end - l.counter)
      (map expr_of l.found.items) l.cursor.tokens.now;
}

abbrev pub invariant-parse_binary-loop-operator : goal.invariant-parse_binary-loop-operator
invariant-parse_binary-loop-operator l = record {
  some : 0 < l.at;
  bound : l.cursor.room ≤ l.fn.cursor.room;
  read : read.binary read.ruled l.at l.fn.cursor.room l.fn.cursor.tokens.now
      ≡ read.chain_from (read.binary read.ruled (l.at - 1)) l.at l.cursor.room (expr_of l.left)
      l.cursor.tokens.now;
}

abbrev pub decreases-parse_binary-loop-operator : goal.decreases-parse_binary-loop-operator
decreases-parse_binary-loop-operator l = l.cursor.room

abbrev pub invariant-parse_suffixes-loop-cursor : goal.invariant-parse_suffixes-loop-cursor
invariant-parse_suffixes-loop-cursor l = record {
  bound : l.cursor.room ≤ l.fn.cursor.room;
  read : read.suffixes_from read.ruled l.fn.cursor.room (expr_of l.fn.first)
      l.fn.cursor.tokens.now
      ≡ read.suffixes_from read.ruled l.cursor.room (expr_of l.value) l.cursor.tokens.now;
}

abbrev pub decreases-parse_suffixes-loop-cursor : goal.decreases-parse_suffixes-loop-cursor
decreases-parse_suffixes-loop-cursor l = l.cursor.room
