-- The data of a program are the bytes that its globals hold first.
use Rattle.std.proofs.Common.{◌≡◌, ℕ, zero, suc, ◌+◌, ◌-◌, ◌*◌, ◌≤◌, List, [], ◌∷◌, take, map, replicate, Option, Some, None, refl, sym, ap, ◌∙◌, arith}
use Rattle.std.specs.Prelude.{slice_set, false}
use Rattle.std.proofs.lemmas.Bool.{ltb-false}
use Rattle.std.proofs.lemmas.List.{map-set}
use Rattle.bop_bits.specs.declared.map.TheConstants.{DATA_FROM, STACK_FROM, MEMORY_BYTES, PAGE_BYTES}
use Rattle.c_tree.specs.Item.{Item}
use Rattle.c_tree.specs.Var.{Var}
use Rattle.c_layout.specs.Globals.{Global, globals, addresses, private_to, page_of}
use Rattle.c_layout.specs.Laid.{is_data_too_large}
use Rattle.c_semantics.specs.Memory.{with_byte, with_bytes}
use Rattle.c_semantics.specs.Meaning.{first_bytes, with_first_bytes, global_declarators}
use Rattle.low_stmt.specs.TextCode.{byte_or_zero, data_of}
use Rattle.low_link.specs.private.DataBytes.{with_data, with_first_data}

take_set : (n : ℕ) (xs : List ℕ) (i b : ℕ) → take n (slice_set xs i b) ≡ slice_set (take n xs) i b
take_set zero xs i b = refl
take_set (suc n) [] i b = refl
take_set (suc n) (x ∷ xs) zero b = refl
take_set (suc n) (x ∷ xs) (suc i) b = ap (λ ys. x ∷ ys) (take_set n xs i b)

none_written : (n m : ℕ) → n ≤ m → take n (map byte_or_zero (replicate m None)) ≡ replicate n 0
none_written zero m le = refl
none_written (suc n) zero le = absurd (omega (arith, le))
none_written (suc n) (suc m) le = ap (λ ys. 0 ∷ ys) (none_written n m (omega (arith, le)))

-- the first n cells as bytes
abbrev cells_in : ℕ → List (Option ℕ) → List ℕ
cells_in n cells = take n (map byte_or_zero cells)

bytes_in : (n : ℕ) (bytes : List ℕ) (at : ℕ) (cells : List (Option ℕ))
    → cells_in n (with_bytes at bytes cells) ≡ with_data at bytes (cells_in n cells)
bytes_in n [] at cells = refl
bytes_in n (b ∷ bs) at cells =
    bytes_in n bs (at + 1) (with_byte at (Some b) cells)
    ∙ ap (with_data (at + 1) bs)
    (ap (take n) (map-set byte_or_zero cells (at - DATA_FROM) (Some b))
    ∙ take_set n (map byte_or_zero cells) (at - DATA_FROM) b)

first_in : (n : ℕ) (places : List ℕ) (ds : List Var) (cells : List (Option ℕ))
    → cells_in n (with_first_bytes places ds cells) ≡ with_first_data places ds (cells_in n cells)
first_in n [] ds cells = refl
first_in n (address ∷ rest) [] cells = refl
first_in n (address ∷ rest) (d ∷ ds) cells =
    first_in n rest ds (with_bytes address (first_bytes d) cells)
    ∙ ap (with_first_data rest ds) (bytes_in n (first_bytes d) address cells)

-- the data are whole pages, before the stack
pub whole_pages : (gs : List Global) → page_of (private_to gs) * PAGE_BYTES ≡ private_to gs - DATA_FROM
whole_pages gs = omega arith

pub data_before_stack : (text : List Item) → is_data_too_large text ≡ false
    → private_to (globals text) ≤ STACK_FROM
data_before_stack text e = omega (arith, ltb-false STACK_FROM (private_to (globals text)) e)

pub no_global : (places out : List ℕ) → with_first_data places [] out ≡ out
no_global [] out = refl
no_global (address ∷ rest) out = refl

pub data_is : (text : List Item) (n : ℕ) → is_data_too_large text ≡ false
    → n ≡ private_to (globals text) - DATA_FROM
    → with_first_data (addresses (globals text)) (global_declarators text) (replicate n 0) ≡ data_of text
data_is text n fits is =
    let places = addresses (globals text) in
    let ds = global_declarators text in
    let small : n ≤ MEMORY_BYTES = omega (arith, data_before_stack text fits) in
    ap (with_first_data places ds) (sym (none_written n MEMORY_BYTES small))
    ∙ (sym (first_in n places ds (replicate MEMORY_BYTES None))
    ∙ ap (λ k. cells_in k (with_first_bytes places ds (replicate MEMORY_BYTES None))) is)
