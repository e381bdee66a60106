use Rattle.std.proofs.Common.{◌≡◌, length}
use Rattle.lower_tests.proofs.tests.labels.idle.Given as goal

abbrev pub invariant-loop : goal.invariant-loop
invariant-loop l = length l.asm.places ≡ length l.initial.asm.places
