use Rattle.std.proofs.Common.{◌≡◌, ◌-◌, ◌++◌}
use Rattle.c_semantics.specs.Memory.{digits}
use Rattle.c_meaning.proofs.machine.starting.push_digits.Given as goal

abbrev pub invariant-loop-byte : goal.invariant-loop-byte
invariant-loop-byte l = l.out.items ++ digits (l.count - l._byte) l.rest ≡ l.fn.out.items ++ digits l.count l.value
