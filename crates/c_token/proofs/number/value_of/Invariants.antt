use Rattle.std.proofs.Common.{◌≡◌, drop, true}
use Rattle.std.specs.List.{list_all}
use Rattle.c_token.specs.Bytes.{value_from, is_digit}
use Rattle.c_token.proofs.number.value_of.Given as goal

abbrev pub invariant-loop-byte : goal.invariant-loop-byte
invariant-loop-byte l = (value_from l.base l.value (drop l.byte-index l.digits) ≡ value_from l.base 0 l.digits) × (list_all (is_digit l.base) (drop l.byte-index l.digits) ≡ true)
