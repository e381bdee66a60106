use Rattle.std.proofs.Common.{◌≡◌, map, drop}
use Rattle.c_tree.specs.Accepted.{same_all}
use Rattle.c_tree.specs.View.{ty_of}
use Rattle.c_check.proofs.function.same_types.Given as goal

abbrev pub invariant-loop-i : goal.invariant-loop-i
invariant-loop-i l = same_all (map ty_of (drop l.i l.a)) (map ty_of (drop l.i l.b)) ≡ same_all (map ty_of l.a) (map ty_of l.b)
