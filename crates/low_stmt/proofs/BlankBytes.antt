-- The bytes of locals that nothing is written into.
use Rattle.std.proofs.Common.{◌≡◌, ◌≢◌, ℕ, zero, suc, ◌+◌, ◌-◌, ◌*◌, ◌<◌, ◌≤◌, ◌⊎◌, List, [], ◌∷◌, ◌++◌, length, take, map, refl, ap, ◌∙◌, arith, Option, Some, None, ⊎_elim, inl, inr}
use Rattle.std.specs.Prelude.{slice_get, slice_set, true, nat_le}
use Rattle.std.specs.List.{list_any}
use Rattle.std.proofs.lemmas.Bool.{or_cases, and_parts, leb-true, cases_lt}
use Rattle.bop_bits.specs.declared.map.TheConstants.{DATA_FROM}
use Rattle.c_semantics.specs.declared.local.Local.{Local}
use Rattle.c_semantics.specs.declared.object.Object.{Object}
use Rattle.c_semantics.specs.Memory.{holds, with_byte, blank}
use Rattle.c_semantics.specs.Names.{Definition}
use Rattle.c_semantics.specs.Exec.{object_at, all_blank}
use Rattle.c_semantics.proofs.WrittenMemory.{length-blank}
use Rattle.low_stmt.specs.StmtReadiness.{AreWithin}

-- a byte that is written is another than one that isn't
set_blank : (bytes : List (Option ℕ)) (i b w : ℕ)
    → slice_get (slice_set bytes i None) b ≡ Some (Some w)
    → (b ≢ i) × (slice_get bytes b ≡ Some (Some w))
set_blank [] i b w e = absurd (none e)
  where
    none : ((λ (o : Option (Option ℕ)). o ≡ Some (Some w)) None) → ⊥
    none h = cc
set_blank (y ∷ ys) zero zero w e = absurd (none e)
  where
    none : ((λ (o : Option (Option ℕ)). o ≡ Some (Some w)) (Some None)) → ⊥
    none h = cc
set_blank (y ∷ ys) zero (suc b) w e = (omega arith, e)
set_blank (y ∷ ys) (suc i) zero w e = (omega arith, e)
set_blank (y ∷ ys) (suc i) (suc b) w e =
    let h = set_blank ys i b w e in (λ q. h.0 (omega arith), h.1)

pub blank_written : (size at b w : ℕ) (bytes : List (Option ℕ)) → DATA_FROM ≤ at → DATA_FROM ≤ b
    → slice_get (blank at size bytes) (b - DATA_FROM) ≡ Some (Some w)
    → ((b < at) ⊎ (at + size ≤ b)) × (slice_get bytes (b - DATA_FROM) ≡ Some (Some w))
blank_written zero at b w bytes low low_b e =
    (⊎_elim (λ h. inl h) (λ h. inr (omega arith)) (cases_lt b at), e)
blank_written (suc size) at b w bytes low low_b e =
    let h = blank_written size (at + 1) b w (with_byte at None bytes) (omega arith) low_b e in
    let g = set_blank bytes (at - DATA_FROM) (b - DATA_FROM) w h.1 in
    let ne : b ≢ at = λ q. g.0 (ap (λ z. z - DATA_FROM) q) in
    (⊎_elim (λ x. inl (omega (arith, ne))) (λ x. inr (omega arith)) h.0, g.1)

-- what a byte's holder says of its address
pub holder_of : (o : Object) (b : ℕ) → holds b 1 o ≡ true
    → (o.address ≤ b) × (b + 1 ≤ o.address + o.size)
holder_of o b h =
    let p = and_parts (nat_le o.address b) (nat_le (b + 1) (o.address + o.size)) h in
    (leb-true o.address b p.0, leb-true (b + 1) (o.address + o.size) p.1)

-- a byte that is written after the locals' were blanked is none of theirs
pub all_blank_written : (ls : List Local) (sp b w : ℕ) (bytes : List (Option ℕ)) → DATA_FROM ≤ sp
    → DATA_FROM ≤ b → slice_get (all_blank sp ls bytes) (b - DATA_FROM) ≡ Some (Some w)
    → (list_any (holds b 1) (map (object_at sp) ls) ≡ true → ⊥)
    × (slice_get bytes (b - DATA_FROM) ≡ Some (Some w))
all_blank_written [] sp b w bytes low low_b e = (λ h. cc, e)
all_blank_written (l ∷ ls) sp b w bytes low low_b e =
    let rest = all_blank_written ls sp b w (blank (sp + l.offset) l.size bytes) low low_b e in
    let mine = blank_written l.size (sp + l.offset) b w bytes (omega arith) low_b rest.1 in (
      λ h.
          ⊎_elim
          (λ q. let p = holder_of (object_at sp l) b q in ⊎_elim (λ x. omega arith) (λ x. omega arith) mine.0)
          (λ q. rest.0 q)
          (or_cases (holds b 1 (object_at sp l)) (list_any (holds b 1) (map (object_at sp) ls)) h),
      mine.1,
    )

pub length-all_blank : (ls : List Local) (sp : ℕ) (bytes : List (Option ℕ))
    → length (all_blank sp ls bytes) ≡ length bytes
length-all_blank [] sp bytes = refl
length-all_blank (l ∷ ls) sp bytes =
    length-all_blank ls sp (blank (sp + l.offset) l.size bytes)
    ∙ length-blank l.size (sp + l.offset) bytes

module _ (defined : List ℕ → Option Definition) (room top : ℕ) where
  -- locals that are within the frame hold bytes of it
  pub within_frame : (ls : List Local) (sp b : ℕ) → AreWithin defined room top ls
      → list_any (holds b 1) (map (object_at sp) ls) ≡ true
      → (sp + 4 * room ≤ b) × (b < sp + 4 * top)
  within_frame [] sp b w h = cc
  within_frame (l ∷ ls) sp b w h =
      ⊎_elim
      (λ q. let p = holder_of (object_at sp l) b q in (omega (arith, p.0, w.0), omega (arith, p.1, w.1)))
      (λ q. within_frame ls sp b w.2 q)
      (or_cases (holds b 1 (object_at sp l)) (list_any (holds b 1) (map (object_at sp) ls)) h)

pub take-front : (xs ys : List Object) → take (length xs) (xs ++ ys) ≡ xs
take-front [] ys = refl
take-front (x ∷ xs) ys = ap (λ l. x ∷ l) (take-front xs ys)
