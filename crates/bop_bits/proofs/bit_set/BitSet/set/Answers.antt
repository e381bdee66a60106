use Rattle.std.proofs.Common.{arith, length}
use Rattle.bop_bits.proofs.BitSetLemmas.{is_in-with_bit}
use Rattle.bop_bits.proofs.bit_set.BitSet.set.Goals as goal

pub returns : goal.returns
returns g c = λ j. is_in-with_bit c.args.self.now.words c.args.at j (omega arith)
