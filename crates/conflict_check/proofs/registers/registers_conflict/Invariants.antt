use Rattle.std.proofs.Common.{◌≡◌, None}
use Rattle.access_log.specs.Held.{has}
use Rattle.value_check.specs.FirstOf.{first_of}
use Rattle.conflict_check.specs.Verdict.{register_conflict}
use Rattle.conflict_check.proofs.registers.registers_conflict.Given as goal

abbrev pub invariant-loop-r : goal.invariant-loop-r
invariant-loop-r l = first_of (register_conflict (has l.first) l.seen l.now) l.r ≡ None
