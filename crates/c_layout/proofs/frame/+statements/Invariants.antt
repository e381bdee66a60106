use Rattle.std.proofs.Common.{◌≡◌, ◌++◌, map, drop}
use Rattle.c_tree.specs.View.{stmts_of}
use Rattle.c_layout.specs.private.Capped.{narrow}
use Rattle.c_layout.specs.Frames.{room_of, body_locals}
use Rattle.c_layout.proofs.frame.+statements.Given as goal

abbrev pub invariant-push_body-loop-s : goal.invariant-push_body-loop-s
invariant-push_body-loop-s l = l.out.items ++ map narrow (map room_of (body_locals (stmts_of (drop l.s-index l.body)))) ≡ l.initial.out.items ++ map narrow (map room_of (body_locals (stmts_of l.body)))
