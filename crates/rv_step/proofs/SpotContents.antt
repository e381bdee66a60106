-- What a change of registers or bytes does to the contents of spots.
use Rattle.std.proofs.Common.{◌≡◌, ◌≢◌, ℕ, zero, suc, ◌+◌, ◌-◌, ◌*◌, ◌/◌, ◌%◌, ◌^◌, ◌≤◌, ◌<◌, List, [], ◌∷◌, ◌++◌, length, refl, sym, ap, ◌∙◌, arith, Bool, true, false}
use Rattle.std.specs.Prelude.{slice_index, slice_set, ◌==◌, ◌&&◌, ◌||◌, not, nat_le, if◌then◌else◌}
use Rattle.std.proofs.lemmas.Grind.{common_steps}
use Rattle.std.proofs.lemmas.Bool.Decides.{nat_tests}
use Rattle.std.proofs.Math.ListN.{length-set}
use Rattle.std.proofs.lemmas.List.{get_or-set_other}
use Rattle.bop_bits.specs.MemoryNumbers.{byte_at, with_byte, number_at, with_number, is_in_memory}
use Rattle.bop_bits.specs.declared.map.TheConstants.{DATA_FROM}
use Rattle.access_log.specs.declared.spot.Spot.{Spot}
use Rattle.access_log.specs.declared.spot.Spot.TheVariants.{Register, Cursor, Byte}
use Rattle.access_log.specs.Things.{same}
use Rattle.rv_code.specs.State.{State, Machine, state_of, stop_of, register, with_register}
use Rattle.rv_code.specs.Step.{goes_to, with_x}
use Rattle.rv_step.specs.Footprint.{content, span}

-- whether a spot is one of some spots
abbrev pub among : Spot → List Spot → Bool
among x [] = false
among x (y ∷ ys) = same x y || among x ys

-- two states have equal content at some spots
abbrev pub Alike : State → State → List Spot → Type 0
Alike s t [] = Unit {0}
Alike s t (x ∷ xs) = (content s x ≡ content t x) × Alike s t xs

-- a step from s to m puts out these bytes, and changes these spots alone
pub record Changes (s : State) (put : List ℕ) (written : List Spot) (m : Machine) : Type 0 where
  pub count : (state_of m).count ≡ s.count + 1
  pub output : (state_of m).output ≡ s.output ++ put
  pub outside : (x : Spot) → among x written ≡ false → content (state_of m) x ≡ content s x
  pub registers : length (state_of m).registers ≡ length s.registers
  pub memory : length (state_of m).memory ≡ length s.memory

-- two machines have one pc and one stop, and equal content at some spots
pub record EqualAt (spots : List Spot) (m n : Machine) : Type 0 where
  pub pc : (state_of m).pc ≡ (state_of n).pc
  pub stop : stop_of m ≡ stop_of n
  pub alike : Alike (state_of m) (state_of n) spots

pub length-with_register : (registers : List ℕ) (rd v : ℕ)
    → length (with_register registers rd v) ≡ length registers
length-with_register registers rd v = grind (arith, common_steps, nat_tests)

pub same-set : (xs ys : List ℕ) (i v : ℕ) → length xs ≡ length ys
    → slice_index (slice_set xs i v) i ≡ slice_index (slice_set ys i v) i
same-set [] [] i v h = refl
same-set [] (y ∷ ys) i v h = absurd (omega arith)
same-set (x ∷ xs) [] i v h = absurd (omega arith)
same-set (x ∷ xs) (y ∷ ys) zero v h = refl
same-set (x ∷ xs) (y ∷ ys) (suc i) v h = same-set xs ys i v (omega arith)

pub same-register : (xs ys : List ℕ) (rd v w : ℕ) → length xs ≡ length ys → v ≡ w
    → register (with_register xs rd v) rd ≡ register (with_register ys rd w) rd
same-register xs ys rd v w h e = grind (arith, nat_tests, same-set xs ys rd v h)

pub outside-with_x : (s : State) (rd v to : ℕ) (x : Spot) → among x (Register rd ∷ []) ≡ false
    → content (state_of (goes_to (with_x s rd v) to)) x ≡ content s x
outside-with_x s rd v to (Register q) h = grind (arith, common_steps, nat_tests)
outside-with_x s rd v to Cursor h = refl
outside-with_x s rd v to (Byte at) h = refl

-- states with the same registers, cursor and memory
pub same-content : (s t : State) → t.registers ≡ s.registers → t.cursor ≡ s.cursor
    → t.memory ≡ s.memory → (x : Spot) → content t x ≡ content s x
same-content s t r c b (Register q) = ap (λ xs. register xs q) r
same-content s t r c b Cursor = c
same-content s t r c b (Byte at) = ap (λ xs. if nat_le DATA_FROM at then byte_at xs at else 0) b

pub or-left : (a b : Bool) → a || b ≡ false → a ≡ false
or-left true b h = h
or-left false b h = refl

pub or-right : (a b : Bool) → a || b ≡ false → b ≡ false
or-right true b h = absurd (cc)
or-right false b h = h

not-in-span : (n at b : ℕ) → b < at → among (Byte b) (span at n) ≡ false
not-in-span zero at b h = refl
not-in-span (suc n) at b h =
    let e : (b == at) ≡ false = grind (arith, nat_tests) in
    rw e (not-in-span n (at + 1) b (omega arith))

pub outside-store : (n : ℕ) (memory : List ℕ) (at v b : ℕ) → DATA_FROM ≤ at → DATA_FROM ≤ b
    → among (Byte b) (span at n) ≡ false
    → byte_at (with_number memory at n v) b ≡ byte_at memory b
outside-store zero memory at v b h g o = refl
outside-store (suc n) memory at v b h g o =
    let e : (b == at) ≡ false = or-left (b == at) (among (Byte b) (span (at + 1) n)) o in
    let other : b - DATA_FROM ≢ at - DATA_FROM = grind (arith, nat_tests) in
    outside-store n (with_byte memory at v) (at + 1) (v / 2 ^ 8) b (omega arith) g (or-right (b == at) (among (Byte b) (span (at + 1) n)) o)
    ∙ get_or-set_other memory (at - DATA_FROM) (b - DATA_FROM) (v % 2 ^ 8) 0 other

pub length-with_number : (n : ℕ) (memory : List ℕ) (at v : ℕ)
    → length (with_number memory at n v) ≡ length memory
length-with_number zero memory at v = refl
length-with_number (suc n) memory at v =
    length-with_number n (with_byte memory at v) (at + 1) (v / 2 ^ 8)
    ∙ length-set memory (at - DATA_FROM) (v % 2 ^ 8)

-- after the same store to two memories, its bytes are alike
pub alike-store : (n : ℕ) (s t : State) (xs ys : List ℕ) (at v : ℕ) → s.memory ≡ with_number xs at n v
    → t.memory ≡ with_number ys at n v → length xs ≡ length ys → DATA_FROM ≤ at → Alike s t (span at n)
alike-store zero s t xs ys at v e f l h = tt
alike-store (suc n) s t xs ys at v e f l h =
    let o : among (Byte at) (span (at + 1) n) ≡ false = not-in-span n (at + 1) at (omega arith) in
    let x : byte_at s.memory at ≡ byte_at t.memory at =
    ap (λ m. byte_at m at) e
    ∙ outside-store n (with_byte xs at v) (at + 1) (v / 2 ^ 8) at (omega arith) h o
    ∙ same-set xs ys (at - DATA_FROM) (v % 2 ^ 8) l
    ∙ sym (outside-store n (with_byte ys at v) (at + 1) (v / 2 ^ 8) at (omega arith) h o)
    ∙ sym (ap (λ m. byte_at m at) f) in
    let m : length (with_byte xs at v) ≡ length (with_byte ys at v) = length-set xs (at - DATA_FROM) (v % 2 ^ 8) ∙ l ∙ sym (length-set ys (at - DATA_FROM) (v % 2 ^ 8)) in
    (ap (λ b. if nat_le DATA_FROM at then b else 0) x, alike-store n s t (with_byte xs at v) (with_byte ys at v) (at + 1) (v / 2 ^ 8) e f m (omega arith))

same-byte : (s t : State) (at : ℕ) → DATA_FROM ≤ at → content s (Byte at) ≡ content t (Byte at)
    → byte_at s.memory at ≡ byte_at t.memory at
same-byte s t at h e = grind (arith, nat_tests)

pub same-number : (n : ℕ) (s t : State) (at : ℕ) → DATA_FROM ≤ at → Alike s t (span at n)
    → number_at s.memory at n ≡ number_at t.memory at n
same-number zero s t at h e = refl
same-number (suc n) s t at h e =
    ap (λ b. b + 2 ^ 8 * number_at s.memory (at + 1) n) (same-byte s t at h e.0)
    ∙ ap (λ b. byte_at t.memory at + 2 ^ 8 * b) (same-number n s t (at + 1) (omega arith) e.1)

pub from-data : (at : ℕ) → is_in_memory at ≡ true → DATA_FROM ≤ at
from-data at h = grind (arith, nat_tests)
