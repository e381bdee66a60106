use Rattle.std.proofs.Common.{◌≡◌, ◌+◌}
use Rattle.c_decl.specs.private.DeclarationReading as read
use Rattle.c_decl.proofs.declarator.parse_stars.Given as goal

abbrev pub invariant-loop-cursor : goal.invariant-loop-cursor
invariant-loop-cursor l = record {
  sum : l.count + l.cursor.room ≡ l.fn.cursor.room;
  read : read.stars_from l.fn.cursor.room 0 l.fn.cursor.tokens.now
      ≡ read.stars_from l.cursor.room l.count l.cursor.tokens.now;
}

abbrev pub decreases-loop-cursor : goal.decreases-loop-cursor
decreases-loop-cursor l = l.cursor.room
