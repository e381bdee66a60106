use Rattle.std.proofs.Common.{◌≡◌, ◌++◌, map, take}
use Rattle.c_tree.specs.View.{var_of}
use Rattle.c_layout.specs.private.Capped.{narrow}
use Rattle.c_layout.specs.Frames.{room_of}
use Rattle.c_layout.proofs.frame.push_vars.Given as goal

abbrev pub invariant-loop-v : goal.invariant-loop-v
invariant-loop-v l = l.out.items ≡ l.initial.out.items ++ map narrow (map room_of (map var_of (take l.v-index l.vars)))
