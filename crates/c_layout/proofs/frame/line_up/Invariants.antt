use Rattle.std.proofs.Common.{◌≡◌, ◌≤◌, ◌++◌, map, drop}
use Rattle.c_layout.specs.private.Capped.{narrow}
use Rattle.c_layout.specs.Frames.{offsets_from, end_from}
use Rattle.c_layout.proofs.frame.line_up.Given as goal

abbrev pub invariant-loop-room : goal.invariant-loop-room
invariant-loop-room l = record {
  limit : l.at ≤ 65540;
  places : l.places.items ++ map narrow (offsets_from l.at (drop l.room-index l.rooms))
      ≡ map narrow (offsets_from l.fn.from l.rooms);
  end : narrow (end_from l.at (drop l.room-index l.rooms)) ≡ narrow (end_from l.fn.from l.rooms);
}
