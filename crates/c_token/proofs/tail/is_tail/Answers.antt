use Rattle.std.proofs.Common.{arith, length-drop}
use Rattle.c_token.proofs.TokenLists.{no_length}
use Rattle.c_token.specs.Directives.IsTail.{end}
use Rattle.c_token.proofs.tail.is_tail.Goals as goal

pub returns : goal.returns
returns c = c.loop-at.invariant.1 (end (no_length _ (omega (arith, length-drop c.loop-at.at c.args.tail.now, c.loop-at-test.false))))
