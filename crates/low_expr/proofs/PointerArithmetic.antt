-- Arithmetic on pointers, along an object that lives in the memory.
use Rattle.std.proofs.Common.{◌≡◌, ℕ, zero, suc, ◌+◌, ◌-◌, ◌*◌, ◌/◌, ◌%◌, ◌^◌, ◌<◌, ◌≤◌, List, [], ◌∷◌, refl, sym, ap, ◌∙◌, arith, ⊎_elim}
use Rattle.std.specs.Prelude.{true, false, ◌&&◌, ◌==◌, nat_le, if◌then◌else◌, ℤ, pos, negsuc, neg_ℤ, ◌+ℤ◌, ◌-ℤ◌, ◌*ℤ◌, int_div}
use Rattle.std.specs.Int.{w32, cast_unsigned, cast_signed}
use Rattle.std.proofs.lemmas.Grind.{common_steps}
use Rattle.std.proofs.lemmas.Int.{ints}
use Rattle.std.proofs.lemmas.Bool.{or_cases, and_parts, leb-true, cases_lt}
use Rattle.std.proofs.lemmas.Bool.Decides.{nat_tests}
use Rattle.std.proofs.Math.Nat.{div-le_self}
use Rattle.bop_bits.specs.declared.map.TheConstants.{DATA_FROM, STACK_TO}
use Rattle.rv_code.specs.Word.{sum, difference, product, word, number, signed_quotient}
use Rattle.c_tree.specs.Arithmetic.{fits_int}
use Rattle.c_semantics.specs.declared.object.Object.{Object}
use Rattle.c_semantics.specs.declared.kind.Operand.{Operand}
use Rattle.c_semantics.specs.declared.kind.Operand.TheVariants.{Signed, Unsigned, Pointer}
use Rattle.c_semantics.specs.Eval.{amount}
use Rattle.c_semantics.specs.Pointers.{is_along, are_along}
use Rattle.low_expr.specs.Agreement.{AreInside}
use Rattle.low_expr.proofs.SignedProducts.{low_signed, high_signed, times_low, times_left, split_left}
use Rattle.low_expr.proofs.OperatorsLemmas.{quotient_is}

-- a number that is an address of the memory, or its end
pub record IsAddress (z : ℤ) : Type 0 where
  pub at : ℕ
  pub is : z ≡ pos at
  pub low : DATA_FROM ≤ at
  pub high : at ≤ STACK_TO

address_of_object : (o : Object) (z : ℤ) → DATA_FROM ≤ o.address → o.address + o.size ≤ STACK_TO
    → is_along z o ≡ true → IsAddress z
address_of_object o (pos n) low high h =
    let p = and_parts (nat_le o.address n) (nat_le n (o.address + o.size)) h in
    let a = leb-true o.address n p.0 in
    let b = leb-true n (o.address + o.size) p.1 in
    record { at = n; is = refl; low = omega (arith, a); high = omega (arith, b) }
address_of_object o (negsuc n) low high h = cc

-- both are addresses
pub along_inside : (l : List Object) (y z : ℤ) → AreInside l → are_along y z l ≡ true
    → IsAddress y × IsAddress z
along_inside [] y z i h = cc
along_inside (o ∷ l) y z i h =
    ⊎_elim
    (λ e.
    let p = and_parts (is_along y o) (is_along z o) e in
    (address_of_object o y i.0 i.1 p.0, address_of_object o z i.0 i.1 p.1))
    (λ e. along_inside l y z i.2 e)
    (or_cases (is_along y o && is_along z o) (are_along y z l) h)

sum_low : (p t n : ℕ) → pos p +ℤ pos t ≡ pos n → p + t ≡ n
sum_low p t n e = grind (arith, ints)

sum_high : (p t n : ℕ) → pos p +ℤ neg_ℤ (pos t) ≡ pos n → p ≡ n + t
sum_high p t n e = grind (arith, ints)

plus_low : (p t n : ℕ) → p + t ≡ n → n < 2 ^ 32 → sum p (t % 2 ^ 32) ≡ n
plus_low p t n e h = omega arith

plus_high : (p t q s n : ℕ) → p ≡ n + q → 2 ^ 32 * s ≡ t + q → n < 2 ^ 32
    → sum p (t % 2 ^ 32) ≡ n
plus_high p t q s n e g h = omega arith

minus_low : (p t n : ℕ) → p ≡ n + t → p < 2 ^ 32 → difference p (t % 2 ^ 32) ≡ n
minus_low p t n e h = omega arith

minus_high : (p t q s n : ℕ) → p + q ≡ n → 2 ^ 32 * s ≡ t + q → n < 2 ^ 32
    → difference p (t % 2 ^ 32) ≡ n
minus_high p t q s n e g h = omega arith

-- all 2^32 elements
whole : (y size : ℕ) → y < 2 ^ 32 → 2 ^ 32 * size ≡ y * size + (2 ^ 32 - y) * size
whole y size h =
    let e : y + (2 ^ 32 - y) ≡ 2 ^ 32 = omega arith in
    ap (λ z. z * size) (sym e) ∙ split_left y size (2 ^ 32 - y)

neg_times : (x size : ℕ) → neg_ℤ (pos x) *ℤ pos size ≡ neg_ℤ (pos (x * size))
neg_times x size = times_left x size

neg_neg : (x : ℕ) → neg_ℤ (neg_ℤ (pos x)) ≡ pos x
neg_neg x = grind (arith, ints)

plus_unsigned : (p y size n : ℕ) → pos p +ℤ (pos y *ℤ pos size) ≡ pos n → n < 2 ^ 32
    → sum p (product y size) ≡ n
plus_unsigned p y size n e h =
    plus_low p (y * size) n (sum_low p (y * size) n
    (ap (λ z. pos p +ℤ z) (sym (times_low y size)) ∙ e)) h

plus_negative : (p y size n : ℕ) → y < 2 ^ 32
    → pos p +ℤ (neg_ℤ (pos (2 ^ 32 - y)) *ℤ pos size) ≡ pos n → n < 2 ^ 32
    → sum p (product y size) ≡ n
plus_negative p y size n hy e h =
    let q = (2 ^ 32 - y) * size in
    plus_high p (y * size) q size n
    (sum_high p q n (ap (λ z. pos p +ℤ z) (sym (neg_times (2 ^ 32 - y) size)) ∙ e))
    (whole y size hy) h

minus_unsigned : (p y size n : ℕ) → p < 2 ^ 32 → pos p +ℤ (neg_ℤ (pos y) *ℤ pos size) ≡ pos n
    → difference p (product y size) ≡ n
minus_unsigned p y size n hp e =
    minus_low p (y * size) n
    (sum_high p (y * size) n (ap (λ z. pos p +ℤ z) (sym (neg_times y size)) ∙ e)) hp

minus_negative : (p y size n : ℕ) → y < 2 ^ 32 → pos p +ℤ (pos (2 ^ 32 - y) *ℤ pos size) ≡ pos n
    → n < 2 ^ 32 → difference p (product y size) ≡ n
minus_negative p y size n hy e h =
    let q = (2 ^ 32 - y) * size in
    minus_high p (y * size) q size n
    (sum_low p q n (ap (λ z. pos p +ℤ z) (sym (times_low (2 ^ 32 - y) size)) ∙ e))
    (whole y size hy) h

-- so many elements on, and back
pub plus_moves : (d : Operand) (p y size n : ℕ) → y < 2 ^ 32
    → pos p +ℤ (amount d y *ℤ pos size) ≡ pos n → n < 2 ^ 32 → sum p (product y size) ≡ n
plus_moves Unsigned p y size n hy e h = plus_unsigned p y size n e h
plus_moves (Pointer other) p y size n hy e h = plus_unsigned p y size n e h
plus_moves Signed p y size n hy e h =
    ⊎_elim
    (λ l. plus_unsigned p y size n
    (ap (λ z. pos p +ℤ (z *ℤ pos size)) (sym (low_signed y l)) ∙ e) h)
    (λ g. plus_negative p y size n hy
    (ap (λ z. pos p +ℤ (z *ℤ pos size)) (sym (high_signed y g hy)) ∙ e) h)
    (cases_lt y (2 ^ 31))

pub minus_moves : (d : Operand) (p y size n : ℕ) → p < 2 ^ 32 → y < 2 ^ 32
    → pos p +ℤ (neg_ℤ (amount d y) *ℤ pos size) ≡ pos n → n < 2 ^ 32
    → difference p (product y size) ≡ n
minus_moves Unsigned p y size n hp hy e h = minus_unsigned p y size n hp e
minus_moves (Pointer other) p y size n hp hy e h = minus_unsigned p y size n hp e
minus_moves Signed p y size n hp hy e h =
    ⊎_elim
    (λ l. minus_unsigned p y size n hp
    (ap (λ z. pos p +ℤ (neg_ℤ z *ℤ pos size)) (sym (low_signed y l)) ∙ e))
    (λ g. minus_negative p y size n hy
    (ap (λ z. pos p +ℤ (z *ℤ pos size)) (sym (neg_neg (2 ^ 32 - y)))
    ∙ ap (λ z. pos p +ℤ (neg_ℤ z *ℤ pos size)) (sym (high_signed y g hy)) ∙ e) h)
    (cases_lt y (2 ^ 31))

-- the number of bytes between two addresses
apart_is : (x y : ℕ) → x ≤ STACK_TO → y ≤ STACK_TO → number (difference x y) ≡ pos x -ℤ pos y
apart_is x y hx hy = grind (arith, common_steps, ints)

size_is : (size : ℕ) → size < 2 ^ 31 → number size ≡ pos size
size_is size h = low_signed size h

above : (x y : ℕ) → y ≤ x → pos x -ℤ pos y ≡ pos (x - y)
above x y h = grind (arith, ints)

below : (x y : ℕ) → x < y → pos x -ℤ pos y ≡ negsuc (y - x - 1)
below x y h = grind (arith, ints)

fits_low : (n : ℕ) → n < 2 ^ 31 → fits_int (pos n) ≡ true
fits_low n h = grind (arith, nat_tests)

fits_high : (n : ℕ) → n < 2 ^ 31 → fits_int (neg_ℤ (pos n)) ≡ true
fits_high zero h = refl
fits_high (suc n) h = grind (arith, nat_tests)

-- the elements between two addresses are an int
pub elements_fit : (x y size : ℕ) → x ≤ STACK_TO → y ≤ STACK_TO
    → fits_int (int_div (pos x -ℤ pos y) (pos size)) ≡ true
elements_fit x y size hx hy =
    ⊎_elim
    (λ lt.
    let le = div-le_self (suc (y - x - 1)) size in
    ap (λ z. fits_int (int_div z (pos size))) (below x y lt) ∙ fits_high (suc (y - x - 1) / size)
    (omega (arith, le)))
    (λ ge.
    let le = div-le_self (x - y) size in
    ap (λ z. fits_int (int_div z (pos size))) (above x y ge) ∙ fits_low ((x - y) / size)
    (omega (arith, le)))
    (cases_lt x y)

pub elements_are : (x y size : ℕ) → x ≤ STACK_TO → y ≤ STACK_TO → 0 < size → size < 2 ^ 31
    → signed_quotient (difference x y) size
    ≡ cast_unsigned w32 (int_div (pos x -ℤ pos y) (pos size))
elements_are x y size hx hy positive fits =
    let z = int_div (pos x -ℤ pos y) (pos size) in
    let nonzero : (size == 0) ≡ false = grind (arith, nat_tests) in
    ap (λ b. if b then 2 ^ 32 - 1
    else word (cast_signed w32
    (cast_unsigned w32 (int_div (number (difference x y)) (number size))))) nonzero
    ∙ ap (λ a. word (cast_signed w32 (cast_unsigned w32 (int_div a (number size)))))
    (apart_is x y hx hy)
    ∙ ap (λ b. word (cast_signed w32 (cast_unsigned w32 (int_div (pos x -ℤ pos y) b))))
    (size_is size fits)
    ∙ quotient_is z (elements_fit x y size hx hy)
