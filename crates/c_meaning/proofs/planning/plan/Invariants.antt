use Rattle.std.proofs.Common.{◌≡◌, ◌≤◌, ◌++◌, drop, length, map, reverse}
use Rattle.c_meaning.specs.declared.pending.Work.TheVariants as item
use Rattle.c_meaning.proofs.planning.plan.Given as goal

abbrev pub invariant-loop-left : goal.invariant-loop-left
invariant-loop-left l = record {
  within : l.left ≤ length l.tasks;
  planned : reverse l.work.items ≡ map item.Task (drop l.left l.tasks) ++ reverse l.fn.work.items;
}

abbrev pub decreases-loop-left : goal.decreases-loop-left
decreases-loop-left l = l.left
