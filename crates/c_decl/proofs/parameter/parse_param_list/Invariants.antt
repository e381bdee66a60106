use Rattle.std.proofs.Common.{◌≡◌, ◌-◌, map}
use Rattle.c_tree.specs.View as view
use Rattle.c_expr.specs.private.ExpressionReading.{turns}
use Rattle.c_decl.specs.private.DeclarationReading as read
use Rattle.c_decl.proofs.parameter.parse_param_list.Given as goal

abbrev pub invariant-loop : goal.invariant-loop
invariant-loop l = record {
  room : l.cursor.room ≡ l.fn.cursor.room;
  read : read.parameter_list l.fn.cursor.room l.fn.cursor.tokens.now
      ≡ turns (read.parameter_turn l.fn.cursor.room) (l.end - l.counter) (map view.param_of l.found.items)
      l.cursor.tokens.now;
}
