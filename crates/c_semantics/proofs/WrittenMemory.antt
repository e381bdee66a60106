-- Bytes that are written one behind the other, and the number that they make.
use Rattle.std.proofs.Common.{◌≡◌, ℕ, zero, suc, ◌+◌, ◌-◌, ◌<◌, ◌≤◌, min, List, [], ◌∷◌, ◌++◌, length, take, drop, replicate, Option, Some, None, refl, sym, ap, ◌∙◌, inl, inr, arith, length-set, add-zero}
use Rattle.std.specs.Prelude.{slice_index_or}
use Rattle.std.proofs.lemmas.Bool.{cases_lt}
use Rattle.std.proofs.lemmas.List.{set_past, take_more, take-append-drop, take_all, length-take}
use Rattle.bop_bits.specs.declared.map.TheConstants.{DATA_FROM, MEMORY_BYTES}
use Rattle.c_semantics.specs.Contents.{unwritten}
use Rattle.c_semantics.specs.Memory.{with_byte, with_bytes, blank}

past_end : (at : ℕ) (b : Option ℕ) (cells : List (Option ℕ)) → length cells ≤ MEMORY_BYTES
    → DATA_FROM + MEMORY_BYTES ≤ at → with_byte at b cells ≡ cells
past_end at b cells few past = set_past cells (at - DATA_FROM) b (omega arith)

pub length-with_bytes : (bytes : List ℕ) (at : ℕ) (cells : List (Option ℕ))
    → length (with_bytes at bytes cells) ≡ length cells
length-with_bytes [] at cells = refl
length-with_bytes (b ∷ bytes) at cells = length-with_bytes bytes (at + 1) (with_byte at (Some b) cells) ∙ length-set cells (at - DATA_FROM) (Some b)

with_bytes-append : (first rest : List ℕ) (at : ℕ) (cells : List (Option ℕ))
    → with_bytes at (first ++ rest) cells
    ≡ with_bytes (at + length first) rest (with_bytes at first cells)
with_bytes-append [] rest at cells = ap (λ n. with_bytes n rest cells) (sym (add-zero at))
with_bytes-append (b ∷ first) rest at cells =
    let next : at + 1 + length first ≡ at + suc (length first) = omega arith in
    with_bytes-append first rest (at + 1) (with_byte at (Some b) cells) ∙ ap (λ n. with_bytes n rest (with_bytes (at + 1) first (with_byte at (Some b) cells))) next

with_bytes_past : (bytes : List ℕ) (at : ℕ) (cells : List (Option ℕ)) → length cells ≤ MEMORY_BYTES
    → DATA_FROM + MEMORY_BYTES ≤ at → with_bytes at bytes cells ≡ cells
with_bytes_past [] at cells few past = refl
with_bytes_past (b ∷ bytes) at cells few past = ap (λ cs. with_bytes (at + 1) bytes cs) (past_end at (Some b) cells few past) ∙ with_bytes_past bytes (at + 1) cells few (omega arith)

-- one byte more
pub with_bytes_more : (bytes : List ℕ) (n at d : ℕ) (cells : List (Option ℕ)) → n < length bytes
    → with_bytes at (take (n + 1) bytes) cells
    ≡ with_byte (at + n) (Some (slice_index_or bytes n d)) (with_bytes at (take n bytes) cells)
with_bytes_more bytes n at d cells lt =
    let front : length (take n bytes) ≡ n = omega (arith, length-take n bytes) in
    ap (λ bs. with_bytes at bs cells) (take_more bytes n d lt)
    ∙ with_bytes-append (take n bytes) (slice_index_or bytes n d ∷ []) at cells
    ∙ ap (λ k. with_byte (at + k) (Some (slice_index_or bytes n d)) (with_bytes at (take n bytes) cells)) front

-- those before the end of the memory are all that are written
pub with_bytes_all : (bytes : List ℕ) (n at : ℕ) (cells : List (Option ℕ))
    → length cells ≤ MEMORY_BYTES → n ≡ min (length bytes) (DATA_FROM + MEMORY_BYTES - at)
    → with_bytes at (take n bytes) cells ≡ with_bytes at bytes cells
with_bytes_all bytes n at cells few is =
    elim (cases_lt n (length bytes)) [
      | inl lt ↦
          let front : length (take n bytes) ≡ n = omega (arith, length-take n bytes) in
          sym (ap (λ bs. with_bytes at bs cells) (sym (take-append-drop n bytes))
          ∙ with_bytes-append (take n bytes) (drop n bytes) at cells
          ∙ with_bytes_past (drop n bytes) (at + length (take n bytes)) (with_bytes at (take n bytes) cells) (omega (arith, length-with_bytes (take n bytes) at cells)) (omega arith))
      | inr all ↦ ap (λ bs. with_bytes at bs cells) (take_all n bytes all)
    ]

pub length-blank : (n at : ℕ) (cells : List (Option ℕ)) → length (blank at n cells) ≡ length cells
length-blank zero at cells = refl
length-blank (suc n) at cells = length-blank n (at + 1) (with_byte at None cells) ∙ length-set cells (at - DATA_FROM) None

blank-add : (first rest at : ℕ) (cells : List (Option ℕ))
    → blank at (first + rest) cells ≡ blank (at + first) rest (blank at first cells)
blank-add zero rest at cells =
    let none : zero + rest ≡ rest = omega arith in
    ap (λ n. blank at n cells) none ∙ ap (λ n. blank n rest cells) (sym (add-zero at))
blank-add (suc first) rest at cells =
    let one : suc first + rest ≡ suc (first + rest) = omega arith in
    let next : at + 1 + first ≡ at + suc first = omega arith in
    ap (λ n. blank at n cells) one ∙ blank-add first rest (at + 1) (with_byte at None cells) ∙ ap (λ n. blank n rest (blank (at + 1) first (with_byte at None cells))) next

blank_past : (n at : ℕ) (cells : List (Option ℕ)) → length cells ≤ MEMORY_BYTES
    → DATA_FROM + MEMORY_BYTES ≤ at → blank at n cells ≡ cells
blank_past zero at cells few past = refl
blank_past (suc n) at cells few past = ap (λ cs. blank (at + 1) n cs) (past_end at None cells few past) ∙ blank_past n (at + 1) cells few (omega arith)

-- one byte more
pub blank_more : (n at : ℕ) (cells : List (Option ℕ))
    → blank at (n + 1) cells ≡ with_byte (at + n) None (blank at n cells)
blank_more n at cells = blank-add n 1 at cells

-- those before the end of the memory are all that are blank
pub blank_all : (size n at : ℕ) (cells : List (Option ℕ)) → length cells ≤ MEMORY_BYTES
    → n ≡ min size (DATA_FROM + MEMORY_BYTES - at) → blank at n cells ≡ blank at size cells
blank_all size n at cells few is =
    elim (cases_lt n size) [
      | inl lt ↦
          let whole : n + (size - n) ≡ size = omega arith in
          sym (ap (λ k. blank at k cells) (sym whole) ∙ blank-add n (size - n) at cells ∙ blank_past (size - n) (at + n) (blank at n cells) (omega (arith, length-blank n at cells)) (omega arith))
      | inr all ↦
          let same : n ≡ size = omega arith in
          ap (λ k. blank at k cells) same
    ]

-- the bytes of a memory where none is written
pub unwritten_is : (n : ℕ) → unwritten n ≡ replicate n None
unfolding unwritten
unwritten_is n = refl
