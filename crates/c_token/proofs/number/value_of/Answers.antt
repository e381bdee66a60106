use Rattle.std.proofs.Common.{arith}
use Rattle.c_token.proofs.Digits.{value_grows, chosen_some}
use Rattle.c_token.proofs.number.value_of.Goals as goal

pub returns-in_default-with_digit : goal.returns-in_default-with_digit
returns-in_default-with_digit c =
    value_grows _ _ c.in-Some.digit c.loop-byte.byte-index _ _ _ (omega arith) (omega arith) (chosen_some _ _ _ c.in-Some.ensures) c.in_default-with_digit.ensures c.loop-byte.invariant.0
