-- A word with a field put into it is a word.
use Rattle.std.proofs.Common.{◌≡◌, ◌≤◌, ◌<◌, ◌+◌, ◌-◌, ◌*◌, ◌/◌, ◌%◌, ◌^◌, ℕ, sym, ◌∙◌, ap, arith}
use Rattle.std.proofs.lemmas.Nat.{pow_pos, pow-add, mul-add-lt, shr_below, mod_below}

-- an upper part, a field and a lower part are below the power of 2 at which the upper part ends
parts-below : (word value low len high : ℕ) → word < 2 ^ (high + (low + len))
    → word / 2 ^ (low + len) * 2 ^ (low + len) + (value % 2 ^ len * 2 ^ low + word % 2 ^ low)
    < 2 ^ (low + len) * 2 ^ high
parts-below word value low len high h =
    let field : value % 2 ^ len < 2 ^ len = mod_below value (2 ^ len) (pow_pos len) in
    let below : word % 2 ^ low < 2 ^ low = mod_below word (2 ^ low) (pow_pos low) in
    let lower : value % 2 ^ len * 2 ^ low + word % 2 ^ low < 2 ^ low * 2 ^ len = mul-add-lt (value % 2 ^ len) (2 ^ low) (word % 2 ^ low) (2 ^ len) field below in
    let lower' : value % 2 ^ len * 2 ^ low + word % 2 ^ low < 2 ^ (low + len) = rw pow-add lower in
    let upper : word / 2 ^ (low + len) < 2 ^ high = shr_below word high (low + len) h in
    mul-add-lt (word / 2 ^ (low + len)) (2 ^ (low + len)) (value % 2 ^ len * 2 ^ low + word % 2 ^ low) (2 ^ high) upper lower'

pub with_field-fits : (word value low len : ℕ) → word < 2 ^ 32 → low + len ≤ 32
    → word / 2 ^ (low + len) * 2 ^ (low + len) + value % 2 ^ len * 2 ^ low + word % 2 ^ low < 2 ^ 32
with_field-fits word value low len fits within =
    let high = 32 - (low + len) in
    let e : high + (low + len) ≡ 32 = omega (arith, within) in
    let fits' : word < 2 ^ (high + (low + len)) = rw e fits in
    let parts = parts-below word value low len high fits' in
    let e' : (low + len) + high ≡ 32 = omega (arith, within) in
    let whole : 2 ^ (low + len) * 2 ^ high ≡ 2 ^ 32 = sym (pow-add 2 (low + len) high) ∙ ap (λ n. 2 ^ n) e' in
    omega (arith, parts, whole)
