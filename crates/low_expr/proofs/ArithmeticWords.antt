-- What arithmetic gives is a word.
use Rattle.std.proofs.Common.{◌≡◌, ℕ, zero, suc, ◌-◌, ◌*◌, ◌/◌, ◌%◌, ◌^◌, ◌<◌, refl, sym, ap, subst, arith, ⊎_elim, Ok, Err}
use Rattle.std.specs.Prelude.{Bool, true, false, ◌==◌, nat_lt, if◌then◌else◌, ℤ, pos, negsuc, neg_ℤ, ◌+ℤ◌, ◌-ℤ◌, ◌*ℤ◌, int_div, int_rem, bit_and, bit_or, bit_xor}
use Rattle.std.specs.Int.{w32, cast_unsigned, int_shr}
use Rattle.std.proofs.lemmas.Nat.{and_mask, and_le_l, or_lt, xor_lt}
use Rattle.std.proofs.Math.Nat.{div-le_self}
use Rattle.std.proofs.lemmas.Bool.Decides.{nat_tests}
use Rattle.std.proofs.lemmas.Bool.{cases_lt}
use lib.Bits.{xor_add_and}
use lib.Signed.{mag, mag_rem, mag_shr}
use Rattle.c_tree.specs.declared.operator.Binary.{Binary}
use Rattle.c_tree.specs.declared.operator.Binary.TheVariants as binary
use Rattle.c_tree.specs.declared.operator.Unary.{Unary}
use Rattle.c_tree.specs.declared.operator.Unary.TheVariants as unary
use Rattle.c_tree.specs.declared.undefined.Undefined.{Undefined}
use Rattle.c_tree.specs.Arithmetic.{Outcome, signed, fits_int, truth, fitted, binary_word, unary_word}
use Rattle.low_expr.proofs.SignedProducts.{low_signed, high_signed}

-- arithmetic gives a value
abbrev pub IsGiven : Outcome → ℕ → Type 0
IsGiven o v = o ≡ Ok v

abbrev word_in : Outcome → ℕ
word_in (Ok w) = w
word_in (Err act) = 0

-- what a test lets through
pub fitted_is : (b : Bool) (w v : ℕ) (act : Undefined) → (if b then Ok w else Err act) ≡ Ok v
    → (b ≡ true) × (w ≡ v)
fitted_is true w v act e = (refl, ap word_in e)
fitted_is false w v act e = cc

pub else_is : (b : Bool) (o : Outcome) (act : Undefined) (v : ℕ) → (if b then Err act else o) ≡ Ok v
    → (b ≡ false) × (o ≡ Ok v)
else_is true o act v e = cc
else_is false o act v e = (refl, e)

pub then_is : (b : Bool) (o : Outcome) (act : Undefined) (v : ℕ) → (if b then o else Err act) ≡ Ok v
    → (b ≡ true) × (o ≡ Ok v)
then_is true o act v e = (refl, e)
then_is false o act v e = cc

pub given_is : (w v : ℕ) → IsGiven (Ok w) v → w ≡ v
given_is w v e = ap word_in e

pub truth_fits : (b : Bool) → truth b < 2 ^ 32
truth_fits true = omega arith
truth_fits false = omega arith

-- the word of a number of 32 bits
pub small_word : (z : ℤ) → mag z < 2 ^ 32 → cast_unsigned w32 z < 2 ^ 32
small_word (pos n) h = h
small_word (negsuc n) h = omega arith

small_mag : (x : ℕ) → x < 2 ^ 32 → mag (signed x) < 2 ^ 32
small_mag x h =
    ⊎_elim (λ l. subst (λ z. mag z < 2 ^ 32) (sym (low_signed x l)) h)
    (λ g. subst (λ z. mag z < 2 ^ 32) (sym (high_signed x g h))
    (of_negative (2 ^ 32 - x) (omega arith)))
    (cases_lt x (2 ^ 31))
  where
    of_negative : (n : ℕ) → n < 2 ^ 32 → mag (neg_ℤ (pos n)) < 2 ^ 32
    of_negative zero h = omega arith
    of_negative (suc n) h = omega arith

pub fits_mag : (z : ℤ) → fits_int z ≡ true → mag z < 2 ^ 32
fits_mag (pos n) h = grind (arith, nat_tests, h)
fits_mag (negsuc n) h = grind (arith, nat_tests, h)

fitted_fits : (z : ℤ) (v : ℕ) → fitted z ≡ Ok v → v < 2 ^ 32
fitted_fits z v e =
    let p = fitted_is (fits_int z) (cast_unsigned w32 z) v _ e in
    subst (λ w. w < 2 ^ 32) p.1 (small_word z (fits_mag z p.0))

wrapped_fits : (n v : ℕ) → IsGiven (Ok (n % 2 ^ 32)) v → v < 2 ^ 32
wrapped_fits n v e = let h = given_is (n % 2 ^ 32) v e in omega (arith, h)

word_given : (w v : ℕ) → w < 2 ^ 32 → IsGiven (Ok w) v → v < 2 ^ 32
word_given w v fits e = subst (λ z. z < 2 ^ 32) (given_is w v e) fits

truth_given : (b : Bool) (v : ℕ) → IsGiven (Ok (truth b)) v → v < 2 ^ 32
truth_given b v e = word_given (truth b) v (truth_fits b) e

pub and_fits : (x y : ℕ) → x < 2 ^ 32 → bit_and x y < 2 ^ 32
and_fits x y h = omega (arith, and_le_l x y)

-- all bits turned round
pub flip_is : (x : ℕ) → x < 2 ^ 32 → bit_xor x (2 ^ 32 - 1) ≡ 2 ^ 32 - 1 - x
flip_is x h =
    let mask : bit_and x (2 ^ 32 - 1) ≡ x % 2 ^ 32 = and_mask x 32 in
    let e = xor_add_and x (2 ^ 32 - 1) in
    omega (arith, mask, e)

pub binary_fits : (op : Binary) (u : Bool) (x y v : ℕ) → x < 2 ^ 32 → y < 2 ^ 32
    → binary_word op u x y ≡ Ok v → v < 2 ^ 32
binary_fits binary.Or u x y v hx hy e = truth_given _ v e
binary_fits binary.And u x y v hx hy e = truth_given _ v e
binary_fits binary.BitOr u x y v hx hy e = word_given (bit_or x y) v (or_lt 32 x y hx hy) e
binary_fits binary.BitXor u x y v hx hy e = word_given (bit_xor x y) v (xor_lt 32 x y hx hy) e
binary_fits binary.BitAnd u x y v hx hy e = word_given (bit_and x y) v (and_fits x y hx) e
binary_fits binary.Equal u x y v hx hy e = truth_given _ v e
binary_fits binary.Unequal u x y v hx hy e = truth_given _ v e
binary_fits binary.Less u x y v hx hy e = truth_given _ v e
binary_fits binary.Greater u x y v hx hy e = truth_given _ v e
binary_fits binary.LessEqual u x y v hx hy e = truth_given _ v e
binary_fits binary.GreaterEqual u x y v hx hy e = truth_given _ v e
binary_fits binary.Left true x y v hx hy e = wrapped_fits _ v (then_is (nat_lt y 32) _ _ v e).1
binary_fits binary.Left false x y v hx hy e =
    let p = fitted_is (nat_lt (x * 2 ^ y) (2 ^ 31)) _ v _ (then_is (nat_lt y 32) _ _ v e).1 in
    below (x * 2 ^ y) v p.0 p.1
  where
    below : (n v : ℕ) → nat_lt n (2 ^ 31) ≡ true → n ≡ v → v < 2 ^ 32
    below n v h e = grind (arith, nat_tests, h, e)
binary_fits binary.Right true x y v hx hy e =
    word_given (x / 2 ^ y) v (omega (arith, div-le_self x (2 ^ y)))
    (then_is (nat_lt y 32) _ _ v e).1
binary_fits binary.Right false x y v hx hy e =
    let m = mag_shr (signed x) (2 ^ y) in
    let s = small_mag x hx in
    word_given _ v (small_word (int_shr (signed x) y) (omega (arith, m, s)))
    (then_is (nat_lt y 32) _ _ v e).1
binary_fits binary.Plus true x y v hx hy e = wrapped_fits _ v e
binary_fits binary.Plus false x y v hx hy e = fitted_fits (signed x +ℤ signed y) v e
binary_fits binary.Minus true x y v hx hy e = wrapped_fits _ v e
binary_fits binary.Minus false x y v hx hy e = fitted_fits (signed x -ℤ signed y) v e
binary_fits binary.Times true x y v hx hy e = wrapped_fits _ v e
binary_fits binary.Times false x y v hx hy e = fitted_fits (signed x *ℤ signed y) v e
binary_fits binary.Divide true x y v hx hy e =
    word_given (x / y) v (omega (arith, div-le_self x y)) (else_is (y == 0) _ _ v e).1
binary_fits binary.Divide false x y v hx hy e =
    fitted_fits (int_div (signed x) (signed y)) v (else_is (y == 0) _ _ v e).1
binary_fits binary.Rest true x y v hx hy e =
    let p = else_is (y == 0) _ _ v e in
    word_given (x % y) v (rest x y hx) p.1
  where
    rest : (x y : ℕ) → x < 2 ^ 32 → x % y < 2 ^ 32
    rest x y h = let m = mag_rem (pos x) (pos y) in omega (arith, m)
binary_fits binary.Rest false x y v hx hy e =
    let p = else_is (y == 0) _ _ v e in
    let q = fitted_is (fits_int (int_div (signed x) (signed y))) _ v _ p.1 in
    let m = mag_rem (signed x) (signed y) in
    let s = small_mag x hx in
    subst (λ w. w < 2 ^ 32) q.1 (small_word (int_rem (signed x) (signed y)) (omega (arith, m, s)))

pub unary_fits : (op : Unary) (u : Bool) (x v : ℕ) → x < 2 ^ 32 → unary_word op u x ≡ Ok v
    → v < 2 ^ 32
unary_fits unary.Plus u x v hx e = word_given x v hx e
unary_fits unary.Minus true x v hx e = wrapped_fits _ v e
unary_fits unary.Minus false x v hx e = fitted_fits (neg_ℤ (signed x)) v e
unary_fits unary.Not u x v hx e = truth_given _ v e
unary_fits unary.Flip u x v hx e = word_given (2 ^ 32 - 1 - x) v (omega arith) e
unary_fits unary.At u x v hx e = word_given x v hx e
unary_fits unary.Address u x v hx e = word_given x v hx e
