use Rattle.std.proofs.Common.{◌<◌, ◌≤◌, ◌^◌, arith, length}
use Rattle.bop_bits.proofs.BitSetLemmas.{is_in-difference}
use Rattle.bop_bits.proofs.bit_set.BitSet.difference_with.Goals as goal

pub returns : goal.returns
returns g c = λ j.
    is_in-difference c.loop-i.self.words c.args.self.now.words c.args.other.now.words g.row.WORDS j
    (omega (arith, c.loop-i.invariant.kept)) (omega arith) (λ i h. c.loop-i.invariant.fit i (omega (arith, h, c.loop-i-test.false)))
    (λ i h. c.loop-i.invariant.done i (omega (arith, h, c.loop-i-test.false)))
