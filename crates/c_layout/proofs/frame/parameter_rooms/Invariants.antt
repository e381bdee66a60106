use Rattle.std.proofs.Common.{◌≡◌, map, take}
use Rattle.c_tree.specs.View.{param_of}
use Rattle.c_layout.specs.private.Capped.{narrow}
use Rattle.c_layout.specs.Frames.{room_of_parameter}
use Rattle.c_layout.proofs.frame.parameter_rooms.Given as goal

abbrev pub invariant-loop-param : goal.invariant-loop-param
invariant-loop-param l = l.out.items ≡ map narrow (map room_of_parameter (map param_of (take l._param-index l.params)))
