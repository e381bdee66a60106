use Rattle.std.proofs.Common.{◌≡◌, ◌≤◌, [], map}
use Rattle.c_tree.specs.View as view
use Rattle.c_decl.specs.private.DeclarationReading as read
use Rattle.c_decl.proofs.declarator.parse_sizes.Given as goal

abbrev pub invariant-loop-alloc : goal.invariant-loop-alloc
invariant-loop-alloc l = record {
  bound : l.cursor.room ≤ l.fn.cursor.room;
  read : read.sizes_from l.fn.cursor.room [] l.fn.cursor.tokens.now
      ≡ read.sizes_from l.cursor.room (map view.expr_of l.found.items) l.cursor.tokens.now;
}

abbrev pub decreases-loop-alloc : goal.decreases-loop-alloc
decreases-loop-alloc l = l.cursor.room
