use Rattle.std.proofs.Common.{length, true, ◌≤◌, drop, ◌-◌}
use Rattle.c_token.specs.Directives.{IsTail}
use Rattle.c_token.proofs.tail.is_tail.Given as goal

abbrev pub invariant-loop-at : goal.invariant-loop-at
invariant-loop-at l = (l.at ≤ length l.tail) × (IsTail l.may_return (drop l.at l.tail) → IsTail true l.tail) × (IsTail true l.tail → IsTail l.may_return (drop l.at l.tail))

abbrev pub decreases-loop-at : goal.decreases-loop-at
decreases-loop-at l = length l.tail - l.at
