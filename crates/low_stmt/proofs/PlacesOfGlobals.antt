-- The globals of a text that has a layout are in the data.
use Rattle.std.proofs.Common.{◌≡◌, ℕ, ◌^◌, ◌<◌, ◌≤◌, List, [], ◌∷◌, ◌++◌, map, refl, ap, arith}
use Rattle.std.specs.Prelude.{false}
use Rattle.std.proofs.lemmas.Bool.{ltb-false}
use Rattle.bop_bits.specs.declared.map.TheConstants.{DATA_FROM, STACK_FROM, PAGE_BYTES}
use Rattle.c_tree.specs.declared.operator.Keep.{Keep}
use Rattle.c_tree.specs.declared.operator.Keep.TheVariants.{Shared, Checked, Private}
use Rattle.c_tree.specs.Ty.{Ty}
use Rattle.c_tree.specs.Var.{Var}
use Rattle.c_tree.specs.Item.{Item}
use Rattle.c_tree.specs.Item as item
use Rattle.c_tree.specs.Declarators.{declared_shape}
use Rattle.c_layout.specs.Globals.{Global, global_of, globals, kept, placed, behind, end_of, shared_end, checked_from, checked_end, private_from, private_end, private_to, Cursors, cursor, moved, starts, addresses_from, addresses}
use Rattle.c_layout.specs.Laid.{is_data_too_large}
use Rattle.c_layout.specs.Sizes.{size, alignment}
use Rattle.c_layout.proofs.Nearness.{le_rounded, small_alignment}
use Rattle.c_semantics.specs.Meaning.{global_declarators, global_objects, start}
use Rattle.low_stmt.specs.TextReadiness.{AreBetween}
use Rattle.low_stmt.proofs.FileNamesFit.{AreLow}

placed_later : (at : ℕ) (t : Ty) → at ≤ placed at t
placed_later at t = le_rounded (alignment t) at (small_alignment t).0

pub end_later : (at : ℕ) (ts : List Ty) → at ≤ end_of at ts
end_later at [] = omega arith
end_later at (t ∷ ts) =
    omega (arith, placed_later at t, end_later (behind at t) ts)

-- the cursors are from one address on, and the globals that follow end before another
record Bounded (low high : ℕ) (c : Cursors) (gs : List Global) : Type 0 where
  pub shared_from : low ≤ c.shared
  pub shared_to : end_of c.shared (kept Shared gs) ≤ high
  pub checked_from : low ≤ c.checked
  pub checked_to : end_of c.checked (kept Checked gs) ≤ high
  pub private_from : low ≤ c.private
  pub private_to : end_of c.private (kept Private gs) ≤ high

-- declarators of just these types
abbrev pub AreOf : List Global → List Var → Type 0
AreOf [] [] = Unit {0}
AreOf (g ∷ gs) (d ∷ ds) = (g.shape ≡ declared_shape d) × AreOf gs ds
AreOf [] (d ∷ ds) = ⊥
AreOf (g ∷ gs) [] = ⊥

of_append : (keep : Keep) (ds : List Var) (gs : List Global) (es : List Var) → AreOf gs es
    → AreOf (map (global_of keep) ds ++ gs) (ds ++ es)
of_append keep [] gs es h = h
of_append keep (d ∷ ds) gs es h = (refl, of_append keep ds gs es h)

pub of_text : (text : List Item) → AreOf (globals text) (global_declarators text)
of_text [] = tt
of_text (item.Vars keep ds ∷ rest) =
    of_append keep ds (globals rest) (global_declarators rest) (of_text rest)
of_text (item.Fun f ∷ rest) = of_text rest

module _ (low high : ℕ) where
  -- the next global is between the addresses, and so is what follows
  next_bounded : (c : Cursors) (keep : Keep) (t : Ty) (gs : List Global)
      → Bounded low high c (record { keep = keep; shape = t } ∷ gs)
      → (low ≤ placed (cursor keep c) t) × (behind (cursor keep c) t ≤ high)
      × Bounded low high (moved keep (behind (cursor keep c) t) c) gs
  next_bounded c Shared t gs b = (
    omega (arith, b.shared_from, placed_later c.shared t),
    omega (arith, b.shared_to, end_later (behind c.shared t) (kept Shared gs)),
    record {
      shared_from = omega (arith, b.shared_from, placed_later c.shared t);
      shared_to = b.shared_to;
      checked_from = b.checked_from;
      checked_to = b.checked_to;
      private_from = b.private_from;
      private_to = b.private_to;
    },
  )
  next_bounded c Checked t gs b = (
    omega (arith, b.checked_from, placed_later c.checked t),
    omega (arith, b.checked_to, end_later (behind c.checked t) (kept Checked gs)),
    record {
      shared_from = b.shared_from;
      shared_to = b.shared_to;
      checked_from = omega (arith, b.checked_from, placed_later c.checked t);
      checked_to = b.checked_to;
      private_from = b.private_from;
      private_to = b.private_to;
    },
  )
  next_bounded c Private t gs b = (
    omega (arith, b.private_from, placed_later c.private t),
    omega (arith, b.private_to, end_later (behind c.private t) (kept Private gs)),
    record {
      shared_from = b.shared_from;
      shared_to = b.shared_to;
      checked_from = b.checked_from;
      checked_to = b.checked_to;
      private_from = omega (arith, b.private_from, placed_later c.private t);
      private_to = b.private_to;
    },
  )

  objects_between : (c : Cursors) (gs : List Global) (ds : List Var) → AreOf gs ds
      → Bounded low high c gs → AreBetween low high (global_objects (addresses_from c gs) ds)
  objects_between c [] [] h b = tt
  objects_between c [] (d ∷ ds) h b = absurd h
  objects_between c (g ∷ gs) [] h b = absurd h
  objects_between c (g ∷ gs) (d ∷ ds) h b =
      let n = next_bounded c g.keep g.shape gs b in
      let same : size g.shape ≡ size (declared_shape d) = ap size h.0 in (
        n.0,
        omega (arith, n.1, same),
        objects_between (moved g.keep (behind (cursor g.keep c) g.shape) c) gs ds h.1 n.2,
      )

  addresses_low : (c : Cursors) (gs : List Global) → high < 2 ^ 32 → Bounded low high c gs
      → AreLow (addresses_from c gs)
  addresses_low c [] fits b = tt
  addresses_low c (g ∷ gs) fits b =
      let n = next_bounded c g.keep g.shape gs b in (
        omega (arith, n.1),
        addresses_low (moved g.keep (behind (cursor g.keep c) g.shape) c) gs fits n.2,
      )

module _ (text : List Item) where
  abbrev gs : List Global
  gs = globals text

  ends_in_order : (shared_end gs ≤ checked_from gs) × (checked_from gs ≤ checked_end gs)
      × (checked_end gs ≤ private_from gs) × (private_from gs ≤ private_end gs)
      × (private_end gs ≤ private_to gs)
  ends_in_order = (
    le_rounded PAGE_BYTES (shared_end gs) (omega arith),
    end_later (checked_from gs) (kept Checked gs),
    le_rounded PAGE_BYTES (checked_end gs) (omega arith),
    end_later (private_from gs) (kept Private gs),
    le_rounded PAGE_BYTES (private_end gs) (omega arith),
  )

  bounded : Bounded DATA_FROM (private_end gs) (starts gs) gs
  bounded =
      let o = ends_in_order in
      let first = end_later DATA_FROM (kept Shared gs) in
      record {
        shared_from = omega arith;
        shared_to = omega (arith, o.0, o.1, o.2, o.3);
        checked_from = omega (arith, first, o.0);
        checked_to = omega (arith, o.2, o.3);
        private_from = omega (arith, first, o.0, o.1, o.2);
        private_to = omega arith;
      }

  pub globals_between : AreBetween DATA_FROM (private_end gs) (start text).live
  globals_between =
      objects_between DATA_FROM (private_end gs) (starts gs) gs (global_declarators text) (of_text text)
      bounded

  pub data_apart : is_data_too_large text ≡ false → private_end gs ≤ STACK_FROM
  data_apart e = let o = ends_in_order in omega (arith, o.4, ltb-false STACK_FROM (private_to gs) e)

  pub globals_low : is_data_too_large text ≡ false → AreLow (addresses gs)
  globals_low e =
      addresses_low DATA_FROM (private_end gs) (starts gs) gs (omega (arith, data_apart e)) bounded
