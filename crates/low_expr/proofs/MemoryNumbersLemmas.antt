-- Numbers in the memory that are written and read.
use Rattle.std.proofs.Common.{◌≡◌, ◌≢◌, ℕ, zero, suc, ◌+◌, ◌-◌, ◌*◌, ◌/◌, ◌%◌, ◌^◌, ◌<◌, ◌≤◌, ◌⊎◌, List, [], ◌∷◌, length, refl, ◌∙◌, arith, inl, inr, ⊎_elim}
use Rattle.std.specs.Prelude.{slice_index, slice_set}
use Rattle.std.proofs.lemmas.List.{get_or-set_other}
use Rattle.std.proofs.lemmas.Grind.{get_or-set_at}
use Rattle.std.proofs.Math.ListN.{length-set}
use Rattle.bop_bits.specs.declared.map.TheConstants.{DATA_FROM}
use Rattle.bop_bits.specs.MemoryNumbers.{byte_at, with_byte, number_at, with_number}

pub length-with_number : (m : List ℕ) (at n v : ℕ) → length (with_number m at n v) ≡ length m
length-with_number m at zero v = refl
length-with_number m at (suc n) v =
    length-with_number (with_byte m at v) (at + 1) n (v / 2 ^ 8)
    ∙ length-set m (at - DATA_FROM) (v % 2 ^ 8)

other_than_one : (m : List ℕ) (at v b : ℕ) → DATA_FROM ≤ at → DATA_FROM ≤ b → b ≢ at
    → byte_at (with_byte m at v) b ≡ byte_at m b
other_than_one m at v b low low_b ne =
    let apart : b - DATA_FROM ≢ at - DATA_FROM = λ e. ne (omega (arith, e)) in
    get_or-set_other m (at - DATA_FROM) (b - DATA_FROM) (v % 2 ^ 8) 0 apart

-- a byte that isn't among those that are written
pub other_byte : (m : List ℕ) (at n v b : ℕ) → DATA_FROM ≤ at → DATA_FROM ≤ b
    → (b < at) ⊎ (at + n ≤ b) → byte_at (with_number m at n v) b ≡ byte_at m b
other_byte m at zero v b low low_b h = refl
other_byte m at (suc n) v b low low_b h =
    let ne : b ≢ at = omega arith in
    let rest : (b < at + 1) ⊎ (at + 1 + n ≤ b) = ⊎_elim (λ x. inl (omega arith)) (λ x. inr (omega arith)) h in
    other_byte (with_byte m at v) (at + 1) n (v / 2 ^ 8) b (omega arith) low_b rest
    ∙ other_than_one m at v b low low_b ne

abbrev pub AreBytes : List ℕ → Type 0
AreBytes m = (i : ℕ) → slice_index m i < 2 ^ 8

AreBytes-set : (m : List ℕ) (at x : ℕ) → x < 2 ^ 8 → AreBytes m → AreBytes (slice_set m at x)
AreBytes-set [] at x lt h b = h b
AreBytes-set (y ∷ ys) zero x lt h zero = lt
AreBytes-set (y ∷ ys) zero x lt h (suc b) = h (suc b)
AreBytes-set (y ∷ ys) (suc at) x lt h zero = h zero
AreBytes-set (y ∷ ys) (suc at) x lt h (suc b) = AreBytes-set ys at x lt (λ i. h (suc i)) b

pub AreBytes-with_number : (m : List ℕ) (at n v : ℕ) → AreBytes m
    → AreBytes (with_number m at n v)
AreBytes-with_number m at zero v h = h
AreBytes-with_number m at (suc n) v h =
    AreBytes-with_number (with_byte m at v) (at + 1) n (v / 2 ^ 8)
    (AreBytes-set m (at - DATA_FROM) (v % 2 ^ 8) (omega arith) h)

pub same_number : (m m' : List ℕ) (at n : ℕ)
    → ((b : ℕ) → at ≤ b → b < at + n → byte_at m' b ≡ byte_at m b)
    → number_at m' at n ≡ number_at m at n
same_number m m' at zero h = refl
same_number m m' at (suc n) h =
    let e = h at (omega arith) (omega arith) in
    let rest = same_number m m' (at + 1) n (λ b ge lt. h b (omega arith) (omega arith)) in
    omega (arith, e, rest)

-- the lowest bytes of a number as a number
abbrev pub lowest : ℕ → ℕ → ℕ
lowest zero v = 0
lowest (suc n) v = v % 2 ^ 8 + 2 ^ 8 * lowest n (v / 2 ^ 8)

number-with_number : (m : List ℕ) (at n v : ℕ) → DATA_FROM ≤ at → at + n ≤ DATA_FROM + length m
    → number_at (with_number m at n v) at n ≡ lowest n v
number-with_number m at zero v low h = refl
number-with_number m at (suc n) v low h =
    let set = with_byte m at v in
    let len = length-set m (at - DATA_FROM) (v % 2 ^ 8) in
    let same : byte_at set at ≡ v % 2 ^ 8 = get_or-set_at m (at - DATA_FROM) (at - DATA_FROM) (v % 2 ^ 8) 0 refl (omega arith) in
    let front = other_byte set (at + 1) n (v / 2 ^ 8) at (omega arith) low (inl (omega arith)) ∙ same in
    let back = number-with_number set (at + 1) n (v / 2 ^ 8) (omega arith) (omega (arith, len)) in
    omega (arith, front, back)

-- a word that was written is read
pub word-with_word : (m : List ℕ) (at v : ℕ) → DATA_FROM ≤ at → at + 4 ≤ DATA_FROM + length m
    → v < 2 ^ 32 → number_at (with_number m at 4 v) at 4 ≡ v
word-with_word m at v low h fits = number-with_number m at 4 v low h ∙ omega arith

pub word_fits : (m : List ℕ) (at : ℕ) → AreBytes m → number_at m at 4 < 2 ^ 32
word_fits m at h =
    let a = h (at - DATA_FROM) in
    let b = h (at + 1 - DATA_FROM) in
    let c = h (at + 1 + 1 - DATA_FROM) in
    let d = h (at + 1 + 1 + 1 - DATA_FROM) in
    omega (arith, a, b, c, d)

pub byte_fits : (m : List ℕ) (at : ℕ) → AreBytes m → number_at m at 1 < 2 ^ 8
byte_fits m at h = let a = h (at - DATA_FROM) in omega (arith, a)
