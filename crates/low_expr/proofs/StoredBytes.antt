-- The bytes of the store, and those of the memory that are the same.
use Rattle.std.proofs.Common.{◌≡◌, ◌≢◌, ℕ, zero, suc, ◌+◌, ◌-◌, ◌*◌, ◌/◌, ◌%◌, ◌^◌, ◌<◌, ◌≤◌, ◌⊎◌, List, [], ◌∷◌, length, drop, take, refl, sym, ap, ◌∙◌, arith, Option, Some, None, ⊎_elim, inl, inr}
use Rattle.std.specs.Prelude.{slice_get, slice_set, slice_index, true, nat_le, ◌||◌, option_map}
use Rattle.std.specs.List.{list_any}
use Rattle.std.proofs.lemmas.Bool.{or_cases, and_parts, leb-true}
use Rattle.std.proofs.Math.Bool.{or-true}
use Rattle.std.proofs.lemmas.List.{get_or-set_other}
use Rattle.std.proofs.lemmas.Grind.{get_or-set_at}
use Rattle.std.proofs.Math.ListN.{length-set}
use Rattle.bop_bits.specs.declared.map.TheConstants.{DATA_FROM, STACK_TO}
use Rattle.bop_bits.specs.MemoryNumbers.{byte_at, number_at, with_number}
use Rattle.bop_bits.specs.MemoryNumbers as memory
use Rattle.c_semantics.specs.declared.object.Object.{Object}
use Rattle.c_semantics.specs.Memory.{holds, number, digits, with_bytes, with_byte}
use Rattle.low_expr.specs.Agreement.{AreInside}

set_written : (bytes : List (Option ℕ)) (i b x w : ℕ)
    → slice_get (slice_set bytes i (Some x)) b ≡ Some (Some w)
    → ((b ≡ i) × (w ≡ x)) ⊎ ((b ≢ i) × (slice_get bytes b ≡ Some (Some w)))
set_written [] i b x w e = absurd (none e)
  where
    none : ((λ (o : Option (Option ℕ)). o ≡ Some (Some w)) None) → ⊥
    none h = cc
set_written (y ∷ ys) zero zero x w e = inl (refl, cc)
set_written (y ∷ ys) zero (suc b) x w e = inr (omega arith, e)
set_written (y ∷ ys) (suc i) zero x w e = inr (omega arith, e)
set_written (y ∷ ys) (suc i) (suc b) x w e =
    ⊎_elim (λ h. inl (ap suc h.0, h.1)) (λ h. inr (λ q. h.0 (omega arith), h.1))
    (set_written ys i b x w e)

-- one byte that is written in both
set_matches : (bytes : List (Option ℕ)) (m : List ℕ) (k x i w : ℕ) → k < length m
    → ((u : ℕ) → slice_get bytes i ≡ Some (Some u) → slice_index m i ≡ u)
    → slice_get (slice_set bytes k (Some x)) i ≡ Some (Some w)
    → slice_index (slice_set m k x) i ≡ w
set_matches bytes m k x i w lt h e =
    ⊎_elim
    (λ p. ap (slice_index (slice_set m k x)) p.0 ∙ get_or-set_at m k k x 0 refl lt ∙ sym p.1)
    (λ p. get_or-set_other m k i x 0 p.0 ∙ h w p.1)
    (set_written bytes k i x w e)

-- a number's bytes that are written in both
pub stored_matches : (n at v i w : ℕ) (bytes : List (Option ℕ)) (m : List ℕ) → DATA_FROM ≤ at
    → at + n ≤ DATA_FROM + length m
    → ((u : ℕ) → slice_get bytes i ≡ Some (Some u) → slice_index m i ≡ u)
    → slice_get (with_bytes at (digits n v) bytes) i ≡ Some (Some w)
    → slice_index (with_number m at n v) i ≡ w
stored_matches zero at v i w bytes m low fits h e = h w e
stored_matches (suc n) at v i w bytes m low fits h e =
    let k = at - DATA_FROM in
    let len = length-set m (at - DATA_FROM) (v % 2 ^ 8) in
    stored_matches n (at + 1) (v / 2 ^ 8) i w (with_byte at (Some (v % 2 ^ 8)) bytes)
    (memory.with_byte m at v) (omega arith) (omega (arith, len))
    (λ u g. set_matches bytes m k (v % 2 ^ 8) i u (omega arith) h g) e

drop_cons : (i : ℕ) (bytes : List (Option ℕ)) → i < length bytes
    → (b : Option ℕ) × (slice_get bytes i ≡ Some b) × (drop i bytes ≡ b ∷ drop (suc i) bytes)
drop_cons i [] lt = absurd (omega arith)
drop_cons zero (b ∷ bytes) lt = (b, refl, refl)
drop_cons (suc i) (b ∷ bytes) lt = drop_cons i bytes (omega arith)

numbered : (b : Option ℕ) (rest : List (Option ℕ)) (v : ℕ) → number (b ∷ rest) ≡ Some v
    → (w : ℕ) × (u : ℕ) × (b ≡ Some w) × (number rest ≡ Some u) × (v ≡ w + 256 * u)
numbered None rest v e = cc
numbered (Some w) rest v e = of_rest (number rest) refl e
  where
    of_rest : (o : Option ℕ) → number rest ≡ o → option_map (λ n. w + 256 * n) o ≡ Some v
        → (x : ℕ) × (u : ℕ) × (Some w ≡ Some x) × (number rest ≡ Some u) × (v ≡ x + 256 * u)
    of_rest None q g = cc
    of_rest (Some u) q g = (w, u, refl, q, cc)

-- what the store reads is what the memory gives
pub read_matches : (n at v : ℕ) (bytes : List (Option ℕ)) (m : List ℕ) → DATA_FROM ≤ at
    → at + n ≤ DATA_FROM + length bytes
    → ((b w : ℕ) → at ≤ b → b < at + n → slice_get bytes (b - DATA_FROM) ≡ Some (Some w)
    → byte_at m b ≡ w)
    → number (take n (drop (at - DATA_FROM) bytes)) ≡ Some v → number_at m at n ≡ v
read_matches zero at v bytes m low fits h e = cc
read_matches (suc n) at v bytes m low fits h e =
    let i = at - DATA_FROM in
    let d = drop_cons (at - DATA_FROM) bytes (omega arith) in
    let e1 : number (d.0 ∷ take n (drop (suc i) bytes)) ≡ Some v = ap (λ l. number (take (suc n) l)) (sym d.2) ∙ e in
    let p = numbered d.0 (take n (drop (suc i) bytes)) v e1 in
    let front = h at p.0 (omega arith) (omega arith) (d.1 ∙ ap Some p.2) in
    let next : suc (at - DATA_FROM) ≡ at + 1 - DATA_FROM = omega arith in
    let e2 : number (take n (drop (at + 1 - DATA_FROM) bytes)) ≡ Some p.1 = ap (λ k. number (take n (drop k bytes))) (sym next) ∙ p.3 in
    let back = read_matches n (at + 1) p.1 bytes m (omega arith) (omega arith) (λ b w ge lt. h b w (omega arith) (omega arith)) e2 in
    omega (arith, front, back, p.4)

holds_in : (o : Object) (at size k : ℕ) → k < size → holds at size o ≡ true
    → holds (at + k) 1 o ≡ true
holds_in o at size k lt h =
    let p = and_parts (nat_le o.address at) (nat_le (at + size) (o.address + o.size)) h in
    let a = leb-true o.address at p.0 in
    let b = leb-true (at + size) (o.address + o.size) p.1 in
    grind (arith, a, b)

-- each byte of what an object holds
pub lives_in : (l : List Object) (at size k : ℕ) → k < size → list_any (holds at size) l ≡ true
    → list_any (holds (at + k) 1) l ≡ true
lives_in [] at size k lt h = h
lives_in (o ∷ l) at size k lt h =
    ⊎_elim
    (λ e. ap (λ b. b || list_any (holds (at + k) 1) l) (holds_in o at size k lt e))
    (λ e. ap (λ b. holds (at + k) 1 o || b) (lives_in l at size k lt e)
    ∙ or-true (holds (at + k) 1 o))
    (or_cases (holds at size o) (list_any (holds at size) l) h)

-- what an object holds is in the memory
pub held_inside : (l : List Object) (at size : ℕ) → AreInside l
    → list_any (holds at size) l ≡ true → (DATA_FROM ≤ at) × (at + size ≤ STACK_TO)
held_inside [] at size i h = cc
held_inside (o ∷ l) at size i h =
    ⊎_elim
    (λ e.
    let p = and_parts (nat_le o.address at) (nat_le (at + size) (o.address + o.size)) e in
    let a = leb-true o.address at p.0 in
    let b = leb-true (at + size) (o.address + o.size) p.1 in
    (omega (arith, i.0), omega (arith, i.1)))
    (λ e. held_inside l at size i.2 e)
    (or_cases (holds at size o) (list_any (holds at size) l) h)
