-- A bit set in a word of a list; words that have a bit in common.
use Rattle.std.proofs.Common.{◌≡◌, ◌≢◌, ℕ, ◌+◌, ◌*◌, ◌/◌, ◌%◌, ◌^◌, ◌<◌, ◌≤◌, List, length, min, max, zero, suc, ◌-◌, refl, sym, ap, ◌∙◌, subst, arith, Bool, true, false}
use Rattle.std.specs.Prelude.{◌==◌, ◌||◌, ◌&&◌, not, nat_lt, slice_index, slice_set, bit_or, bit_and}
use Rattle.std.specs.Int.{bit_at, bit_not, w64, trailing_zeros}
use Rattle.std.proofs.lemmas.Grind.{get_or-set_at}
use Rattle.std.proofs.lemmas.List.{get_or-set_other, get_or_past}
use Rattle.std.proofs.lemmas.Bool.Decides.{nat_tests}
use Rattle.std.proofs.lemmas.Nat.Bits.{bit_at_set_same, bit_at_set_other, bit_at_and, bit_at_or, bit_at_not, bit_at-zero, bit_at-trailing_zeros, bit_at-lt}
use Rattle.bop_bits.specs.BitSets.{is_in, Meet}

pub by_cases : {P : Type 0} (b : Bool) → (b ≡ true → P) → (b ≡ false → P) → P
by_cases true f g = f refl
by_cases false f g = g refl

or_true : (b : Bool) → b || true ≡ true
or_true true = refl
or_true false = refl

or_false : (b : Bool) → b || false ≡ b
or_false true = refl
or_false false = refl

-- the words with a bit set
abbrev pub with_bit : List ℕ → ℕ → List ℕ
with_bit words at = slice_set words (at / 64) (bit_or (slice_index words (at / 64)) (1 * 2 ^ (at % 64) % 2 ^ 64))

pub is_in-with_bit : (words : List ℕ) (at j : ℕ) → at / 64 < length words
    → is_in (with_bit words at) j ≡ (is_in words j || (j == at))
is_in-with_bit words at j h =
    let w = slice_index words (at / 64) in
    let v = bit_or w (1 * 2 ^ (at % 64) % 2 ^ 64) in
    by_cases (j == at)
    (λ e.
    let q : j ≡ at = grind (arith, nat_tests) in
    let r : slice_index (slice_set words (at / 64) v) (j / 64) ≡ v = get_or-set_at words (at / 64) (j / 64) v 0 (omega arith) h in
    let s : bit_at v (at % 64) ≡ 1 = bit_at_set_same w64 w (at % 64) (omega arith) in
    let t : j % 64 ≡ at % 64 = omega arith in
    let u : bit_at (slice_index (slice_set words (at / 64) v) (j / 64)) (j % 64) ≡ 1 = ap (λ n. bit_at n (j % 64)) r ∙ ap (bit_at v) t ∙ s in
    ap (λ n. n == 1) u ∙ sym (ap (λ b. is_in words j || b) e ∙ or_true (is_in words j)))
    (λ e.
    let q : j ≢ at = grind (arith, nat_tests) in
    let same : bit_at (slice_index (slice_set words (at / 64) v) (j / 64)) (j % 64) ≡ bit_at (slice_index words (j / 64)) (j % 64) =
    by_cases (j / 64 == at / 64)
    (λ f.
    let i : j / 64 ≡ at / 64 = grind (arith, nat_tests) in
    let n : j % 64 ≢ at % 64 = omega arith in
    ap (λ x. bit_at x (j % 64)) (get_or-set_at words (at / 64) (j / 64) v 0 i h)
    ∙ bit_at_set_other w64 w (at % 64) (omega arith) (j % 64) n
    ∙ ap (λ x. bit_at (slice_index words x) (j % 64)) (sym i))
    (λ f.
    let i : j / 64 ≢ at / 64 = grind (arith, nat_tests) in
    ap (λ x. bit_at x (j % 64)) (get_or-set_other words (at / 64) (j / 64) v 0 i)) in
    ap (λ n. n == 1) same ∙ sym (ap (λ b. is_in words j || b) e ∙ or_false (is_in words j)))

one_of : (a b : ℕ) → a < 2 → b < 2 → min a b ≡ 1 → (a ≡ 1) × (b ≡ 1)
one_of a b h g e = (omega (arith, h, g, e), omega (arith, h, g, e))

-- words that have a bit in common
pub common-bit : (a b : List ℕ) (i : ℕ) → 0 < bit_and (slice_index a i) (slice_index b i)
    → bit_and (slice_index a i) (slice_index b i) < 2 ^ 64 → Meet a b
common-bit a b i some fits =
    let x = slice_index a i in
    let y = slice_index b i in
    let k = trailing_zeros w64 (bit_and x y) in
    let found = bit_at-trailing_zeros w64 (bit_and x y) some fits in
    let both = one_of (bit_at x k) (bit_at y k) (bit_at-lt x k) (bit_at-lt y k) (sym (bit_at_and x y k) ∙ found.1) in
    let within : k < 64 = found.0 in
    let word : (i * 64 + k) / 64 ≡ i = omega (arith, within) in
    let bit : (i * 64 + k) % 64 ≡ k = omega (arith, within) in
    let at : (xs : List ℕ) → bit_at (slice_index xs i) k ≡ 1 → is_in xs (i * 64 + k) ≡ true =
    λ xs e. ap (λ n. n == 1) (ap (λ n. bit_at (slice_index xs n) ((i * 64 + k) % 64)) word ∙ ap (bit_at (slice_index xs i)) bit ∙ e) in
    (i * 64 + k, (at a both.0, at b both.1))

-- words without a bit in common
pub no-common-bit : (a b : List ℕ) (n : ℕ) → length a ≤ n
    → ((i : ℕ) → i < n → bit_and (slice_index a i) (slice_index b i) ≡ 0) → Meet a b → ⊥
no-common-bit a b n most none (at, (inA, inB)) =
    let x = slice_index a (at / 64) in
    let y = slice_index b (at / 64) in
    let one : (m : ℕ) → (m == 1) ≡ true → m ≡ 1 = λ m e. grind (arith, nat_tests) in
    let setA : bit_at x (at % 64) ≡ 1 = one (bit_at x (at % 64)) inA in
    let setB : bit_at y (at % 64) ≡ 1 = one (bit_at y (at % 64)) inB in
    by_cases (nat_lt (at / 64) n)
    (λ e.
    let within : at / 64 < n = grind (arith, nat_tests) in
    let z : min (bit_at x (at % 64)) (bit_at y (at % 64)) ≡ 0 =
    sym (bit_at_and x y (at % 64)) ∙ ap (λ w. bit_at w (at % 64)) (none (at / 64) within) ∙ bit_at-zero (at % 64) in
    omega (arith, z, setA, setB))
    (λ e.
    let past : n ≤ at / 64 = grind (arith, nat_tests) in
    let z : bit_at x (at % 64) ≡ 0 = ap (λ w. bit_at w (at % 64)) (get_or_past a (at / 64) 0 (omega (arith, past, most))) ∙ bit_at-zero (at % 64) in
    omega (arith, z, setA))

or_bits : (x y : ℕ) → x < 2 → y < 2 → (max x y == 1) ≡ ((x == 1) || (y == 1))
or_bits zero zero h g = refl
or_bits zero (suc zero) h g = refl
or_bits (suc zero) zero h g = refl
or_bits (suc zero) (suc zero) h g = refl
or_bits (suc (suc x)) y h g = absurd (omega (arith, h))
or_bits zero (suc (suc y)) h g = absurd (omega (arith, g))
or_bits (suc zero) (suc (suc y)) h g = absurd (omega (arith, g))

without_bits : (x y : ℕ) → x < 2 → y < 2 → (min x (1 - y) == 1) ≡ ((x == 1) && not (y == 1))
without_bits zero zero h g = refl
without_bits zero (suc zero) h g = refl
without_bits (suc zero) zero h g = refl
without_bits (suc zero) (suc zero) h g = refl
without_bits (suc (suc x)) y h g = absurd (omega (arith, h))
without_bits zero (suc (suc y)) h g = absurd (omega (arith, g))
without_bits (suc zero) (suc (suc y)) h g = absurd (omega (arith, g))

-- a number whose word is past the end is in no set
is_in-past : (words : List ℕ) (j : ℕ) → length words ≤ j / 64 → is_in words j ≡ false
is_in-past words j h =
    ap (λ n. n == 1) (ap (λ w. bit_at w (j % 64)) (get_or_past words (j / 64) 0 h) ∙ bit_at-zero (j % 64))

pub is_in-union : (new a b : List ℕ) (n j : ℕ) → length new ≤ n → length a ≤ n → length b ≤ n
    → ((i : ℕ) → i < n → slice_index new i ≡ bit_or (slice_index a i) (slice_index b i))
    → is_in new j ≡ (is_in a j || is_in b j)
is_in-union new a b n j hn ha hb each = by_cases (nat_lt (j / 64) n)
    (λ e.
    let within : j / 64 < n = grind (arith, nat_tests) in
    let x = slice_index a (j / 64) in
    let y = slice_index b (j / 64) in
    let k = j % 64 in
    ap (λ m. m == 1) (ap (λ w. bit_at w k) (each (j / 64) within) ∙ bit_at_or x y k)
    ∙ or_bits (bit_at x k) (bit_at y k) (bit_at-lt x k) (bit_at-lt y k))
    (λ e.
    let past : n ≤ j / 64 = grind (arith, nat_tests) in
    is_in-past new j (omega (arith, past, hn))
    ∙ sym (ap (λ p. p || is_in b j) (is_in-past a j (omega (arith, past, ha))) ∙ is_in-past b j (omega (arith, past, hb))))

pub is_in-difference : (new a b : List ℕ) (n j : ℕ) → length new ≤ n → length a ≤ n
    → ((i : ℕ) → i < n → slice_index b i < 2 ^ 64)
    → ((i : ℕ) → i < n → slice_index new i ≡ bit_and (slice_index a i) (bit_not w64 (slice_index b i)))
    → is_in new j ≡ (is_in a j && not (is_in b j))
is_in-difference new a b n j hn ha fits each = by_cases (nat_lt (j / 64) n)
    (λ e.
    let within : j / 64 < n = grind (arith, nat_tests) in
    let x = slice_index a (j / 64) in
    let y = slice_index b (j / 64) in
    let k = j % 64 in
    let kept : bit_at (bit_not w64 y) k ≡ 1 - bit_at y k = bit_at_not w64 y k (fits (j / 64) within) (omega arith) in
    ap (λ m. m == 1) (ap (λ w. bit_at w k) (each (j / 64) within) ∙ bit_at_and x (bit_not w64 y) k ∙ ap (min (bit_at x k)) kept)
    ∙ without_bits (bit_at x k) (bit_at y k) (bit_at-lt x k) (bit_at-lt y k))
    (λ e.
    let past : n ≤ j / 64 = grind (arith, nat_tests) in
    is_in-past new j (omega (arith, past, hn))
    ∙ sym (ap (λ p. p && not (is_in b j)) (is_in-past a j (omega (arith, past, ha)))))
