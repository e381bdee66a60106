use Rattle.std.proofs.Common.{◌≡◌, ◌≤◌, max, drop}
use Rattle.c_tree.specs.View.{stmts_of}
use Rattle.c_layout.specs.private.Capped.{few}
use Rattle.c_layout.specs.Slots.{body_slots}
use Rattle.c_layout.proofs.slots.+statements.Given as goal

abbrev pub invariant-body_slots-loop-s : goal.invariant-body_slots-loop-s
invariant-body_slots-loop-s l = record {
  limit : l.most ≤ 16385;
  done : max l.most (few (body_slots (stmts_of (drop l.s-index l.body))))
      ≡ few (body_slots (stmts_of l.body));
}
