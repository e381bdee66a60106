use Rattle.std.proofs.Common.{◌≡◌, suc, ◌-◌, ◌^◌, ◌<◌, ◌≤◌, length, ap, arith, rules}
use Rattle.std.proofs.Math.Nat.{pow-suc, pow-le-pow_right}
use Rattle.c_semantics.proofs.bytes.number_of_few.Goals as goal

pub with_lowest-number-requires : goal.with_lowest-number-requires
with_lowest-number-requires c =
    let left : length c.args.cells.now - c.loop-i.i ≤ 3 = omega arith in
    let base : 0 < 256 = omega arith in
    omega (arith, pow-le-pow_right base left)

pub loop-i-preserved : goal.loop-i-preserved
loop-i-preserved c =
    let places : length c.args.cells.now - (c.loop-i.i - 1) ≡ suc (length c.args.cells.now - c.loop-i.i) = omega arith in
    let more = ap (λ n. 256 ^ n) places in
    record {
      read = search rules;
      small = omega (arith, more, pow-suc 256 (length c.args.cells.now - c.loop-i.i));
    }
