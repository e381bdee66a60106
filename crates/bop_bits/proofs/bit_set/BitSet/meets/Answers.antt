use Rattle.std.proofs.Common.{◌≡◌, ◌<◌, ◌≤◌, ◌^◌, arith, refl, length}
use Rattle.std.specs.Prelude.{bit_and, slice_index}
use Rattle.std.proofs.lemmas.Nat.{and_le_l}
use Rattle.bop_bits.proofs.BitSetLemmas.{common-bit, no-common-bit}
use Rattle.bop_bits.proofs.bit_set.BitSet.meets.Goals as goal

pub returns-then-ours-theirs-ne0 : goal.returns-then-ours-theirs-ne0
returns-then-ours-theirs-ne0 g c =
    let a = c.args.self.now.words in
    let b = c.args.other.now.words in
    let i = c.loop-i.i in
    let some : 0 < bit_and (slice_index a i) (slice_index b i) = omega (arith, c.if-ours-theirs-ne0.true) in
    let word : slice_index a i < 2 ^ 64 = grind (arith) in
    let fits : bit_and (slice_index a i) (slice_index b i) < 2 ^ 64 = omega (arith, word, and_le_l) in
    ((λ _. common-bit a b i some fits), (λ _. refl))

pub returns : goal.returns
returns g c =
    let a = c.args.self.now.words in
    let most : length a ≤ c.loop-i.i = omega (arith, c.loop-i-test.false) in
    ((λ e. absurd (cc)), (λ meet. absurd (no-common-bit a c.args.other.now.words c.loop-i.i most c.loop-i.invariant meet)))
