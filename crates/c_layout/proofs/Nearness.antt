-- Addresses up to a limit: what follows from one is known as far as the address is.
use Rattle.std.proofs.Common.{◌≡◌, ℕ, ◌+◌, ◌<◌, ◌≤◌, inl, inr, true, false, List, [], ◌∷◌, ◌++◌, map, refl, ap, sym, ◌∙◌, arith, append-nil, add-zero}
use Rattle.std.proofs.lemmas.Bool.{cases_lt}
use Rattle.bop_bits.specs.declared.map.TheConstants.{PAGE_BYTES}
use Rattle.c_tree.specs.declared.operator.Keep.{Keep}
use Rattle.c_tree.specs.Declarators.{declared_shape}
use Rattle.c_tree.specs.Ty.{Ty}
use Rattle.c_tree.specs.Ty as ty
use Rattle.c_tree.specs.Var.{Var}
use Rattle.c_tree.specs.Item.{Item}
use Rattle.c_tree.specs.Item as item
use Rattle.c_layout.specs.private.Capped.{near}
use Rattle.c_layout.specs.Sizes.{size, alignment, rounded}
use Rattle.c_layout.specs.Globals.{Global, global_of, globals, is_kept, kept, placed, behind, end_of}

pub le_rounded : (unit n : ℕ) → 0 < unit → n ≤ rounded unit n
le_rounded unit n h = omega arith

pub small_alignment : (t : Ty) → (0 < alignment t) × (alignment t ≤ 4)
small_alignment ty.Int = (omega arith, omega arith)
small_alignment ty.Unsigned = (omega arith, omega arith)
small_alignment ty.Char = (omega arith, omega arith)
small_alignment ty.Void = (omega arith, omega arith)
small_alignment (ty.Pointer t) = (omega arith, omega arith)
small_alignment (ty.Array t n) = small_alignment t

pub near_rounded : (unit s a b : ℕ) → 0 < unit → near a ≡ near b
    → near (rounded unit a + s) ≡ near (rounded unit b + s)
near_rounded unit s a b p h =
    elim (cases_lt a 8388608) [
      | inl below ↦ let same : a ≡ b = omega arith in ap (λ n. near (rounded unit n + s)) same
      | inr above ↦
          let more : b ≤ rounded unit b = le_rounded unit b p in
          let most : a ≤ rounded unit a = le_rounded unit a p in
          omega arith
    ]

pub near_behind : (t : Ty) (a b : ℕ) → near a ≡ near b → near (behind a t) ≡ near (behind b t)
near_behind t a b h = near_rounded (alignment t) (size t) a b (small_alignment t).0 h

pub near_placed : (t : Ty) (a b : ℕ) → near a ≡ near b → near (placed a t) ≡ near (placed b t)
near_placed t a b h = simp add-zero at (near_rounded (alignment t) 0 a b (small_alignment t).0 h)

pub near_end : (ts : List Ty) (a b : ℕ) → near a ≡ near b → near (end_of a ts) ≡ near (end_of b ts)
near_end [] a b h = h
near_end (t ∷ ts) a b h = near_end ts (behind a t) (behind b t) (near_behind t a b h)

pub end_of-append : (a : ℕ) (ts us : List Ty) → end_of a (ts ++ us) ≡ end_of (end_of a ts) us
end_of-append a [] us = refl
end_of-append a (t ∷ ts) us = end_of-append (behind a t) ts us

pub kept_those : (keep by : Keep) (ds : List Var) (rest : List Global) → is_kept keep by ≡ true
    → kept keep (map (global_of by) ds ++ rest) ≡ map declared_shape ds ++ kept keep rest
kept_those keep by [] rest h = refl
kept_those keep by (d ∷ ds) rest h = rw h (ap (λ ts. declared_shape d ∷ ts) (kept_those keep by ds rest h))

pub kept_others : (keep by : Keep) (ds : List Var) (rest : List Global) → is_kept keep by ≡ false
    → kept keep (map (global_of by) ds ++ rest) ≡ kept keep rest
kept_others keep by [] rest h = refl
kept_others keep by (d ∷ ds) rest h = rw h (kept_others keep by ds rest h)

pub globals-cons : (p : Item) (ps : List Item) → globals (p ∷ ps) ≡ globals (p ∷ []) ++ globals ps
globals-cons (item.Vars keep ds) ps = rw append-nil refl
globals-cons (item.Fun f) ps = refl

pub near_near : (n : ℕ) → near (near n) ≡ near n
near_near n = omega arith

-- where variables end from the next one on
pub end_of-next : (t : Ty) (ts : List Ty) (at to : ℕ) → to ≡ near (behind at t)
    → near (end_of to ts) ≡ near (end_of at (t ∷ ts))
end_of-next t ts at to h =
    let same : near to ≡ near (behind at t) = ap near h ∙ near_near (behind at t) in
    near_end ts to (behind at t) same

-- the page behind a section
pub page_behind : (ts : List Ty) (from at end : ℕ) → near at ≡ near from
    → end ≡ near (end_of at ts)
    → near (rounded PAGE_BYTES end) ≡ near (rounded PAGE_BYTES (end_of from ts))
page_behind ts from at end h k =
    let same : near end ≡ near (end_of from ts) = ap near k ∙ near_near (end_of at ts) ∙ near_end ts at from h in
    simp add-zero at (near_rounded PAGE_BYTES 0 end (end_of from ts) (omega arith) same)

-- globals of an item that are kept in the way that is asked for, and others
pub item_kept : (keep by : Keep) (ds : List Var) (rest : List Global) (from to : ℕ)
    → is_kept keep by ≡ true → to ≡ near (end_of from (map declared_shape ds))
    → near (end_of to (kept keep rest)) ≡ near (end_of from (kept keep (globals (item.Vars by ds ∷ []) ++ rest)))
item_kept keep by ds rest from to h k =
    let whole : globals (item.Vars by ds ∷ []) ++ rest ≡ map (global_of by) ds ++ rest = ap (λ gs. gs ++ rest) (append-nil (map (global_of by) ds)) in
    near_end (kept keep rest) to (end_of from (map declared_shape ds)) (ap near k ∙ near_near _)
    ∙ ap near (sym (end_of-append from (map declared_shape ds) (kept keep rest)))
    ∙ ap (λ ts. near (end_of from ts)) (sym (kept_those keep by ds rest h))
    ∙ ap (λ gs. near (end_of from (kept keep gs))) (sym whole)

pub item_other : (keep by : Keep) (ds : List Var) (rest : List Global) (from : ℕ)
    → is_kept keep by ≡ false
    → near (end_of from (kept keep rest)) ≡ near (end_of from (kept keep (globals (item.Vars by ds ∷ []) ++ rest)))
item_other keep by ds rest from h =
    let whole : globals (item.Vars by ds ∷ []) ++ rest ≡ map (global_of by) ds ++ rest = ap (λ gs. gs ++ rest) (append-nil (map (global_of by) ds)) in
    ap (λ ts. near (end_of from ts)) (sym (kept_others keep by ds rest h))
    ∙ ap (λ gs. near (end_of from (kept keep gs))) (sym whole)

pub ruleset spans = (le_rounded, small_alignment)

pub ruleset items = (item_kept, item_other)
