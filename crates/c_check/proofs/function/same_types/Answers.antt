use Rattle.std.proofs.Common.{sym}
use Rattle.c_check.proofs.SameTypes.{not_as_many}
use Rattle.c_check.proofs.function.same_types.Goals as goal

pub returns-then-a-b : goal.returns-then-a-b
returns-then-a-b c = sym (not_as_many c.args.a.now c.args.b.now c.if-a-b.true)
