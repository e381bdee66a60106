use Rattle.std.proofs.Common.{◌≡◌, ◌≤◌, ◌+◌, ◌*◌, ◌<◌, ◌/◌, ◌%◌, ◌^◌, ap, arith}
use Rattle.std.proofs.lemmas.Nat.{one_shl}
use Rattle.bop_bits.proofs.FieldLemmas.{with_field-fits}
use Rattle.bop_bits.proofs.bits.put.Goals as goal

pub overflow_cast-result : goal.overflow_cast-result
overflow_cast-result g c =
    let w = c.from-word.result in
    let v = c.from-value.result in
    let low = g.row.LO in
    let len = g.row.LEN in
    let e : w ≡ c.args.word = c.from-word.ensures in
    let fits : w < 2 ^ 32 = omega arith in
    let small = with_field-fits w v low len fits c.requires.within in
    let one_len : 1 * 2 ^ len % 2 ^ 64 ≡ 2 ^ len = one_shl len 64 (omega (arith, c.requires.within)) in
    let one_low : 1 * 2 ^ low % 2 ^ 64 ≡ 2 ^ low = one_shl low 64 (omega (arith, c.requires.within)) in
    rw (one_len, one_low) (record { fits = omega (arith, small) })
