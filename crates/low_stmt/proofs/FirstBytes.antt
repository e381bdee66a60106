-- The bytes of globals before `main` starts, and the memory of the machine.
use Rattle.std.proofs.Common.{◌≡◌, ℕ, zero, suc, ◌+◌, ◌-◌, ◌/◌, ◌^◌, ◌<◌, ◌≤◌, List, [], ◌∷◌, ◌++◌, length, take, map, replicate, refl, ap, ◌∙◌, arith, Option, Some, None, ⊎_elim, length-append}
use Rattle.std.specs.Prelude.{slice_get, slice_set, slice_index, true}
use Rattle.std.specs.List.{list_any}
use Rattle.std.proofs.lemmas.Bool.{or_cases}
use Rattle.std.proofs.lemmas.List.{length-replicate}
use Rattle.bop_bits.specs.declared.map.TheConstants.{DATA_FROM, STACK_TO, MEMORY_BYTES}
use Rattle.c_tree.specs.Expr.{Expr, Exprs}
use Rattle.c_tree.specs.Expr as expr
use Rattle.c_tree.specs.Init.{Init}
use Rattle.c_tree.specs.Init as initial
use Rattle.c_tree.specs.Item.{Item}
use Rattle.c_tree.specs.Ty.{Ty}
use Rattle.c_tree.specs.Var.{Var}
use Rattle.c_tree.specs.Declarators.{declared_shape, element_shape}
use Rattle.c_layout.specs.Sizes.{size}
use Rattle.c_layout.specs.Globals.{globals, addresses, private_to}
use Rattle.c_semantics.specs.declared.object.Object.{Object}
use Rattle.c_semantics.specs.Memory.{holds, digits, with_byte, with_bytes}
use Rattle.c_semantics.specs.Meaning.{item_bytes, items_bytes, given_bytes, filled, first_bytes, with_first_bytes, global_declarators, start}
use Rattle.c_semantics.proofs.WrittenMemory.{length-with_bytes}
use Rattle.low_expr.specs.Agreement.{AreInside}
use Rattle.low_stmt.specs.TextCode.{byte_or_zero, data_of}
use Rattle.low_stmt.specs.TextReadiness.{AreBetween}
use Rattle.low_stmt.proofs.BlankBytes.{holder_of}

-- numbers that are bytes
abbrev pub AreSmall : List ℕ → Type 0
AreSmall [] = Unit {0}
AreSmall (b ∷ bs) = (b < 2 ^ 8) × AreSmall bs

small_append : (xs ys : List ℕ) → AreSmall xs → AreSmall ys → AreSmall (xs ++ ys)
small_append [] ys h g = g
small_append (x ∷ xs) ys h g = (h.0, small_append xs ys h.1 g)

small_take : (n : ℕ) (xs : List ℕ) → AreSmall xs → AreSmall (take n xs)
small_take zero xs h = tt
small_take (suc n) [] h = tt
small_take (suc n) (x ∷ xs) h = (h.0, small_take n xs h.1)

small_zeros : (n : ℕ) → AreSmall (replicate n 0)
small_zeros zero = tt
small_zeros (suc n) = (omega arith, small_zeros n)

small_digits : (n v : ℕ) → AreSmall (digits n v)
small_digits zero v = tt
small_digits (suc n) v = (omega arith, small_digits n (v / 256))

small_items : (t : Ty) (es : Exprs) → AreSmall (items_bytes t es)
small_items t expr.NoMore = tt
small_items t (expr.More e rest) = small_append (item_bytes t e) (items_bytes t rest) (small_digits _ _) (small_items t rest)

small_given : (t : Ty) (init : Option Init) → AreSmall (given_bytes t init)
small_given t None = tt
small_given t (Some (initial.One e)) = small_digits _ _
small_given t (Some (initial.Many es)) = small_items t es

small_filled : (n : ℕ) (bytes : List ℕ) → AreSmall bytes → AreSmall (filled n bytes)
small_filled n bytes h = small_take n (bytes ++ replicate n 0) (small_append bytes (replicate n 0) h (small_zeros n))

-- written cells hold bytes
abbrev pub HoldBytes : List (Option ℕ) → Type 0
HoldBytes [] = Unit {0}
HoldBytes (None ∷ cells) = HoldBytes cells
HoldBytes (Some b ∷ cells) = (b < 2 ^ 8) × HoldBytes cells

hold_set : (cells : List (Option ℕ)) (i b : ℕ) → b < 2 ^ 8 → HoldBytes cells
    → HoldBytes (slice_set cells i (Some b))
hold_set [] i b lt h = tt
hold_set (None ∷ cells) zero b lt h = (lt, h)
hold_set (Some c ∷ cells) zero b lt h = (lt, h.1)
hold_set (None ∷ cells) (suc i) b lt h = hold_set cells i b lt h
hold_set (Some c ∷ cells) (suc i) b lt h = (h.0, hold_set cells i b lt h.1)

hold_with : (bytes : List ℕ) (at : ℕ) (cells : List (Option ℕ)) → AreSmall bytes → HoldBytes cells
    → HoldBytes (with_bytes at bytes cells)
hold_with [] at cells small h = h
hold_with (b ∷ bytes) at cells small h =
    hold_with bytes (at + 1) (with_byte at (Some b) cells) small.1 (hold_set cells (at - DATA_FROM) b small.0 h)

hold_first : (addresses : List ℕ) (ds : List Var) (cells : List (Option ℕ)) → HoldBytes cells
    → HoldBytes (with_first_bytes addresses ds cells)
hold_first [] ds cells h = h
hold_first (at ∷ rest) [] cells h = h
hold_first (at ∷ rest) (d ∷ ds) cells h =
    hold_first rest ds (with_bytes at (first_bytes d) cells)
    (hold_with (first_bytes d) at cells (small_filled (size (declared_shape d)) (given_bytes (element_shape d) d.init)
    (small_given (element_shape d) d.init)) h)

hold_none : (n : ℕ) → HoldBytes (replicate n None)
hold_none zero = tt
hold_none (suc n) = hold_none n

length-first : (addresses : List ℕ) (ds : List Var) (cells : List (Option ℕ))
    → length (with_first_bytes addresses ds cells) ≡ length cells
length-first [] ds cells = refl
length-first (at ∷ rest) [] cells = refl
length-first (at ∷ rest) (d ∷ ds) cells =
    length-first rest ds (with_bytes at (first_bytes d) cells)
    ∙ length-with_bytes (first_bytes d) at cells

-- cells as bytes, from which the machine starts
small_map : (cells : List (Option ℕ)) → HoldBytes cells → AreSmall (map byte_or_zero cells)
small_map [] h = tt
small_map (None ∷ cells) h = (omega arith, small_map cells h)
small_map (Some b ∷ cells) h = (h.0, small_map cells h.1)

small_index : (bytes : List ℕ) (i : ℕ) → AreSmall bytes → slice_index bytes i < 2 ^ 8
small_index [] i h = omega arith
small_index (b ∷ bytes) zero h = h.0
small_index (b ∷ bytes) (suc i) h = small_index bytes i h.1

-- a written cell before the end of what is taken is in the memory
taken_at : (cells : List (Option ℕ)) (n i v : ℕ) (zs : List ℕ) → i < n
    → slice_get cells i ≡ Some (Some v) → slice_index (take n (map byte_or_zero cells) ++ zs) i ≡ v
taken_at [] n i v zs lt e = absurd (none e)
  where
    none : ((λ (o : Option (Option ℕ)). o ≡ Some (Some v)) None) → ⊥
    none h = cc
taken_at (c ∷ cells) zero i v zs lt e = absurd (omega arith)
taken_at (c ∷ cells) (suc n) zero v zs lt e = ap byte_or_zero (same e)
  where
    same : Some c ≡ Some (Some v) → c ≡ Some v
    same h = cc
taken_at (c ∷ cells) (suc n) (suc i) v zs lt e = taken_at cells n i v zs (omega arith) e

-- a byte of objects that are between two addresses
pub between : (from to : ℕ) (os : List Object) (b : ℕ) → AreBetween from to os
    → list_any (holds b 1) os ≡ true → (from ≤ b) × (b < to)
between from to [] b w h = cc
between from to (o ∷ os) b w h =
    ⊎_elim
    (λ e. let p = holder_of o b e in (omega (arith, p.0, w.0), omega (arith, p.1, w.1)))
    (λ e. between from to os b w.2 e)
    (or_cases (holds b 1 o) (list_any (holds b 1) os) h)

pub between_inside : (to : ℕ) (os : List Object) → to ≤ STACK_TO → AreBetween DATA_FROM to os
    → AreInside os
between_inside to [] le w = tt
between_inside to (o ∷ os) le w = (w.0, omega (arith, w.1), between_inside to os le w.2)

-- the machine's memory at the start
abbrev pub first_memory : List Item → List ℕ
first_memory text = data_of text ++ replicate (MEMORY_BYTES - length (data_of text)) 0

unwritten_hold : (n : ℕ) (addresses : List ℕ) (ds : List Var)
    → HoldBytes (with_first_bytes addresses ds (replicate n None))
unwritten_hold n addresses ds = hold_first addresses ds (replicate n None) (hold_none n)

unwritten_length : (n : ℕ) (addresses : List ℕ) (ds : List Var)
    → length (with_first_bytes addresses ds (replicate n None)) ≡ n
unwritten_length n addresses ds =
    length-first addresses ds (replicate n None) ∙ length-replicate n None

taken_length : (k : ℕ) (cells : List (Option ℕ))
    → length (take k (map byte_or_zero cells)) ≤ length cells
taken_length zero cells = omega arith
taken_length (suc k) [] = omega arith
taken_length (suc k) (c ∷ cells) = let h = taken_length k cells in omega (arith, h)

filled_length : (n : ℕ) (bytes : List ℕ) → length bytes ≤ n
    → length (bytes ++ replicate (n - length bytes) 0) ≡ n
filled_length n bytes le =
    omega (arith, length-append bytes (replicate (n - length bytes) 0), length-replicate {A = ℕ} (n - length bytes) 0)

memory_small_of : (k n : ℕ) (cells : List (Option ℕ)) (i : ℕ) → HoldBytes cells
    → slice_index (take k (map byte_or_zero cells) ++ replicate n 0) i < 2 ^ 8
memory_small_of k n cells i h =
    small_index (take k (map byte_or_zero cells) ++ replicate n 0) i
    (small_append (take k (map byte_or_zero cells)) (replicate n 0)
    (small_take k (map byte_or_zero cells) (small_map cells h)) (small_zeros n))

module _ (text : List Item) where
  pub cells_length : length (start text).bytes ≡ MEMORY_BYTES
  cells_length = unwritten_length MEMORY_BYTES (addresses (globals text)) (global_declarators text)

  pub memory_length : length (first_memory text) ≡ MEMORY_BYTES
  memory_length =
      filled_length MEMORY_BYTES (data_of text)
      (omega (arith, taken_length (private_to (globals text) - DATA_FROM) (start text).bytes, cells_length))

  pub memory_small : (i : ℕ) → slice_index (first_memory text) i < 2 ^ 8
  memory_small i =
      memory_small_of (private_to (globals text) - DATA_FROM) (MEMORY_BYTES - length (data_of text))
      (start text).bytes i
      (unwritten_hold MEMORY_BYTES (addresses (globals text)) (global_declarators text))

  pub memory_at : (i v : ℕ) → i < private_to (globals text) - DATA_FROM
      → slice_get (start text).bytes i ≡ Some (Some v) → slice_index (first_memory text) i ≡ v
  memory_at i v lt e =
      taken_at (start text).bytes (private_to (globals text) - DATA_FROM) i v
      (replicate (MEMORY_BYTES - length (data_of text)) 0) lt e
