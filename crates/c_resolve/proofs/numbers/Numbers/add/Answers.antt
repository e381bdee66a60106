use Rattle.std.proofs.Common.{◌≡◌, ◌+◌, arith}
use Rattle.std.proofs.lemmas.Grind.{common_steps}
use Rattle.c_resolve.proofs.Numbering.{one_more}
use Rattle.c_resolve.proofs.numbers.Numbers.add.Goals as goal

pub returns : goal.returns
returns c = λ ds d is known.
    let old = c.args.self.now in
    let count : c.in-Some.next ≡ old.count + 1 = grind (arith, common_steps) in
    one_more old (record c.give.new.self { count = c.in-Some.next }) ds d c.args.name.now is known count c.in_ok-give.ensures.numbers
