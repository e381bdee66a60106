use Rattle.std.proofs.Common.{◌≡◌, ◌-◌, ◌^◌, ◌<◌, drop, length, Some}
use Rattle.c_semantics.specs.Memory.{number}
use Rattle.c_semantics.proofs.bytes.number_of_few.Given as goal

abbrev pub invariant-loop-i : goal.invariant-loop-i
invariant-loop-i l = record {
  read : number (drop l.i l.cells) ≡ Some l.number;
  small : l.number < 256 ^ (length l.cells - l.i);
}
