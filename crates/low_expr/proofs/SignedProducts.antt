-- The low word of a signed product.
use Rattle.std.proofs.Common.{◌≡◌, ℕ, zero, suc, ◌+◌, ◌-◌, ◌*◌, ◌%◌, ◌^◌, ◌<◌, ◌≤◌, refl, sym, ap, ◌∙◌, subst, arith, ⊎_elim}
use Rattle.std.specs.Prelude.{true, pos, ◌*ℤ◌, neg_ℤ}
use Rattle.std.specs.Int.{w32, cast_unsigned}
use Rattle.std.proofs.lemmas.Grind.{common_steps}
use Rattle.std.proofs.lemmas.Int.{ints}
use Rattle.std.proofs.lemmas.Bool.{cases_lt}
use Rattle.std.proofs.lemmas.Bool.Decides.{nat_tests}
use Rattle.c_tree.specs.Arithmetic.{signed, fits_int}

pub low_signed : (x : ℕ) → x < 2 ^ 31 → signed x ≡ pos x
low_signed x h = grind (arith, common_steps, ints)

pub high_signed : (x : ℕ) → 2 ^ 31 ≤ x → x < 2 ^ 32 → signed x ≡ neg_ℤ (pos (2 ^ 32 - x))
high_signed x h lt = grind (arith, common_steps, ints)

cast_pos : (n : ℕ) → cast_unsigned w32 (pos n) ≡ n
cast_pos n = refl

pub fits_pos : (n : ℕ) → fits_int (pos n) ≡ true → n < 2 ^ 31
fits_pos n h = grind (arith, nat_tests, h)

pub fits_neg : (n : ℕ) → fits_int (neg_ℤ (pos n)) ≡ true → n ≤ 2 ^ 31
fits_neg zero h = omega arith
fits_neg (suc n) h = grind (arith, nat_tests, common_steps, ints, h)

pub split_right : (x y d : ℕ) → x * (y + d) ≡ x * y + x * d
split_right x y d = grind arith

pub split_left : (x y d : ℕ) → (x + d) * y ≡ x * y + d * y
split_left x y d = grind arith

pub cast_neg : (n : ℕ) → n ≤ 2 ^ 31 → cast_unsigned w32 (neg_ℤ (pos n)) ≡ (2 ^ 32 - n) % 2 ^ 32
cast_neg n h = grind (arith, common_steps, ints)

pub times_low : (x y : ℕ) → pos x *ℤ pos y ≡ pos (x * y)
times_low x y = grind (arith, ints)

pub times_right : (x y : ℕ) → pos x *ℤ neg_ℤ (pos y) ≡ neg_ℤ (pos (x * y))
times_right x y = grind (arith, ints)

pub times_left : (x y : ℕ) → neg_ℤ (pos x) *ℤ pos y ≡ neg_ℤ (pos (x * y))
times_left x y = grind (arith, ints)

pub times_both : (x y : ℕ) → neg_ℤ (pos x) *ℤ neg_ℤ (pos y) ≡ pos (x * y)
times_both x y = grind (arith, ints)

mixed_right : (x y : ℕ) → x < 2 ^ 32 → y < 2 ^ 32 → x * (2 ^ 32 - y) ≤ 2 ^ 31
    → x * y % 2 ^ 32 ≡ (2 ^ 32 - x * (2 ^ 32 - y)) % 2 ^ 32
mixed_right x y hx hy few =
    let d = 2 ^ 32 - y in
    let e : y + (2 ^ 32 - y) ≡ 2 ^ 32 = omega arith in
    let s : x * 2 ^ 32 ≡ x * y + x * (2 ^ 32 - y) = ap (λ z. x * z) (sym e) ∙ split_right x y (2 ^ 32 - y) in
    over (x * y) (x * (2 ^ 32 - y)) x s few
  where
    over : (p n x : ℕ) → x * 2 ^ 32 ≡ p + n → n ≤ 2 ^ 31 → p % 2 ^ 32 ≡ (2 ^ 32 - n) % 2 ^ 32
    over p n x s few = omega arith

mixed_left : (x y : ℕ) → x < 2 ^ 32 → y < 2 ^ 32 → (2 ^ 32 - x) * y ≤ 2 ^ 31
    → x * y % 2 ^ 32 ≡ (2 ^ 32 - (2 ^ 32 - x) * y) % 2 ^ 32
mixed_left x y hx hy few =
    let e : x + (2 ^ 32 - x) ≡ 2 ^ 32 = omega arith in
    let s : 2 ^ 32 * y ≡ x * y + (2 ^ 32 - x) * y = ap (λ z. z * y) (sym e) ∙ split_left x y (2 ^ 32 - x) in
    over (x * y) ((2 ^ 32 - x) * y) y s few
  where
    over : (p n y : ℕ) → 2 ^ 32 * y ≡ p + n → n ≤ 2 ^ 31 → p % 2 ^ 32 ≡ (2 ^ 32 - n) % 2 ^ 32
    over p n y s few = omega arith

-- both below zero: the product of the magnitudes
both_high : (x y : ℕ) → x < 2 ^ 32 → y < 2 ^ 32 → (2 ^ 32 - x) * (2 ^ 32 - y) < 2 ^ 31
    → x * y % 2 ^ 32 ≡ (2 ^ 32 - x) * (2 ^ 32 - y)
both_high x y hx hy few =
    let a = 2 ^ 32 - x in
    let e : x + (2 ^ 32 - x) ≡ 2 ^ 32 = omega arith in
    let g : y + (2 ^ 32 - y) ≡ 2 ^ 32 = omega arith in
    let s : 2 ^ 32 * y ≡ x * y + (2 ^ 32 - x) * y = ap (λ z. z * y) (sym e) ∙ split_left x y (2 ^ 32 - x) in
    let t : (2 ^ 32 - x) * 2 ^ 32 ≡ (2 ^ 32 - x) * y + (2 ^ 32 - x) * (2 ^ 32 - y) = ap (λ z. (2 ^ 32 - x) * z) (sym g) ∙ split_right (2 ^ 32 - x) y (2 ^ 32 - y) in
    over (x * y) ((2 ^ 32 - x) * y) ((2 ^ 32 - x) * (2 ^ 32 - y)) y (2 ^ 32 - x) s t few
  where
    over : (p q n y a : ℕ) → 2 ^ 32 * y ≡ p + q → a * 2 ^ 32 ≡ q + n → n < 2 ^ 31 → p % 2 ^ 32 ≡ n
    over p q n y a s t few = omega arith

pub times_signed : (x y : ℕ) → x < 2 ^ 32 → y < 2 ^ 32 → fits_int (signed x *ℤ signed y) ≡ true
    → x * y % 2 ^ 32 ≡ cast_unsigned w32 (signed x *ℤ signed y)
times_signed x y hx hy f =
    ⊎_elim
    (λ xl. ⊎_elim
    (λ yl.
    let e : signed x *ℤ signed y ≡ pos (x * y) = ap (λ a. a *ℤ signed y) (low_signed x xl) ∙ ap (λ b. pos x *ℤ b) (low_signed y yl) ∙ times_low x y in
    let few = fits_pos (x * y) (subst (λ z. fits_int z ≡ true) e f) in
    small (x * y) few ∙ sym (ap (cast_unsigned w32) e))
    (λ yh.
    let e : signed x *ℤ signed y ≡ neg_ℤ (pos (x * (2 ^ 32 - y))) = ap (λ a. a *ℤ signed y) (low_signed x xl) ∙ ap (λ b. pos x *ℤ b) (high_signed y yh hy) ∙ times_right x (2 ^ 32 - y) in
    let few = fits_neg (x * (2 ^ 32 - y)) (subst (λ z. fits_int z ≡ true) e f) in
    mixed_right x y hx hy few ∙ sym (ap (cast_unsigned w32) e ∙ cast_neg (x * (2 ^ 32 - y)) few))
    (cases_lt y (2 ^ 31)))
    (λ xh. ⊎_elim
    (λ yl.
    let e : signed x *ℤ signed y ≡ neg_ℤ (pos ((2 ^ 32 - x) * y)) = ap (λ a. a *ℤ signed y) (high_signed x xh hx) ∙ ap (λ b. neg_ℤ (pos (2 ^ 32 - x)) *ℤ b) (low_signed y yl) ∙ times_left (2 ^ 32 - x) y in
    let few = fits_neg ((2 ^ 32 - x) * y) (subst (λ z. fits_int z ≡ true) e f) in
    mixed_left x y hx hy few ∙ sym (ap (cast_unsigned w32) e ∙ cast_neg ((2 ^ 32 - x) * y) few))
    (λ yh.
    let e : signed x *ℤ signed y ≡ pos ((2 ^ 32 - x) * (2 ^ 32 - y)) = ap (λ a. a *ℤ signed y) (high_signed x xh hx) ∙ ap (λ b. neg_ℤ (pos (2 ^ 32 - x)) *ℤ b) (high_signed y yh hy) ∙ times_both (2 ^ 32 - x) (2 ^ 32 - y) in
    let few = fits_pos ((2 ^ 32 - x) * (2 ^ 32 - y)) (subst (λ z. fits_int z ≡ true) e f) in
    both_high x y hx hy few ∙ sym (ap (cast_unsigned w32) e))
    (cases_lt y (2 ^ 31)))
    (cases_lt x (2 ^ 31))
  where
    small : (n : ℕ) → n < 2 ^ 31 → n % 2 ^ 32 ≡ n
    small n h = omega arith
