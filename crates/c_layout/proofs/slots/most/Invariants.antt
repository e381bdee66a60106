use Rattle.std.proofs.Common.{◌≡◌, ◌≤◌, max, drop}
use Rattle.c_tree.specs.View.{exprs_of}
use Rattle.c_layout.specs.private.Capped.{few}
use Rattle.c_layout.specs.Slots.{most}
use Rattle.c_layout.proofs.slots.most.Given as goal

abbrev pub invariant-loop-e : goal.invariant-loop-e
invariant-loop-e l = record {
  limit : l.most ≤ 16385;
  done : max l.most (few (most (exprs_of (drop l.e-index l.list)))) ≡ few (most (exprs_of l.list));
}
