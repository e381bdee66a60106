-- The globals of a text without a breach fit, where the data aren't too large, and each is at a
-- place that a marker can read.
use Rattle.std.proofs.Common.{◌≡◌, ℕ, ◌+◌, ◌%◌, ◌≤◌, List, [], ◌∷◌, ◌++◌, length, drop, refl, sym, ap, ◌∙◌, subst, arith, Option}
use Rattle.bop_bits.specs.declared.map.TheConstants.{DATA_FROM, STACK_FROM}
use Rattle.c_tree.specs.declared.storage.Storage.TheVariants.{Static}
use Rattle.c_tree.specs.Ty.{Ty}
use Rattle.c_tree.specs.Ty as ty
use Rattle.c_tree.specs.Var.{Var}
use Rattle.c_tree.specs.Item.{Item}
use Rattle.c_tree.specs.Item as item
use Rattle.c_tree.specs.Scope.{Scope}
use Rattle.c_tree.specs.Accepted.{result_shape, parameter_shapes, part_breaches, parts_breaches, with_function}
use Rattle.c_tree.specs.Declarators.{declared_shape, with_declarator, with_declarators, declarator_breaches, declarators_breaches}
use Rattle.c_tree.proofs.NoBreach.{nil_left, nil_right}
use Rattle.c_layout.specs.Globals.{Global, placed, behind, Cursors, cursor, moved, addresses_from}
use Rattle.c_layout.specs.Sizes.{size, alignment, rounded}
use Rattle.c_semantics.specs.declared.home.Home.TheVariants.{Fixed}
use Rattle.c_semantics.specs.Names.{Names, Routine, Definition, held}
use Rattle.c_semantics.specs.Meaning.{with_global, with_globals, global_declarators, global_objects, definition, names_of, with_function as with_routine}
use Rattle.c_semantics.proofs.FileScope.{known_function, behind_parts}
use Rattle.low_expr.specs.FittingNames.{SizeFits}
use Rattle.low_stmt.specs.FittingTexts.{GlobalsFit, ItemsFit}
use Rattle.low_stmt.specs.ParsedTexts.{AreParsedVars, IsParsedText}
use Rattle.low_stmt.specs.TextReadiness.{AreBetween}
use Rattle.low_stmt.proofs.PlacesOfLocals.{Hold, hold_front, hold_back}
use Rattle.low_stmt.proofs.PlacesOfGlobals.{AreOf}
use Rattle.low_stmt.proofs.DeclaredSizes.{declared_fits, result_fits}
use Rattle.low_stmt.proofs.PlacedNames.{IsPlaced, PlacedNames, placed_with, placed_object}

-- addresses as the types of globals want them
abbrev pub AreAlignedAs : List ℕ → List Var → Type 0
AreAlignedAs places [] = Unit {0}
AreAlignedAs [] (d ∷ ds) = ⊥
AreAlignedAs (place ∷ places) (d ∷ ds) =
    (alignment (declared_shape d) ≡ 4 → place % 4 ≡ 0) × AreAlignedAs places ds

aligned_back : (places : List ℕ) (xs ys : List Var) → AreAlignedAs places (xs ++ ys)
    → AreAlignedAs (drop (length xs) places) ys
aligned_back places [] ys h = h
aligned_back [] (x ∷ xs) ys h = absurd h
aligned_back (place ∷ places) (x ∷ xs) ys h = aligned_back places xs ys h.1

aligned_front : (places : List ℕ) (xs ys : List Var) → AreAlignedAs places (xs ++ ys)
    → AreAlignedAs places xs
aligned_front places [] ys h = tt
aligned_front [] (x ∷ xs) ys h = h
aligned_front (place ∷ places) (x ∷ xs) ys h = (h.0, aligned_front places xs ys h.1)

aligned_at : (t : Ty) (at : ℕ) → alignment t ≡ 4 → placed at t % 4 ≡ 0
aligned_at t at h =
    let whole : rounded 4 at % 4 ≡ 0 = omega arith in
    subst (λ n. rounded n at % 4 ≡ 0) (sym h) whole

pub addresses_aligned : (c : Cursors) (gs : List Global) (ds : List Var) → AreOf gs ds
    → AreAlignedAs (addresses_from c gs) ds
addresses_aligned c gs [] h = tt
addresses_aligned c [] (d ∷ ds) h = absurd h
addresses_aligned c (g ∷ gs) (d ∷ ds) h = (
  λ four. aligned_at g.shape (cursor g.keep c) (ap alignment h.0 ∙ four),
  addresses_aligned (moved g.keep (behind (cursor g.keep c) g.shape) c) gs ds h.1,
)

pub objects_hold : (low high : ℕ) (places : List ℕ) (ds : List Var) → length ds ≤ length places
    → AreBetween low high (global_objects places ds) → Hold low high places ds
objects_hold low high places [] le w = tt
objects_hold low high [] (d ∷ ds) le w = absurd (omega arith)
objects_hold low high (place ∷ places) (d ∷ ds) le w =
    (w.0, w.1, objects_hold low high places ds (omega arith) w.2)

-- Globals end before the stack.
module _ (text : List Item) (high : ℕ) (apart : high ≤ STACK_FROM) where
  globals_fit : (scope : Scope) (places : List ℕ) (ds : List Var) → AreParsedVars ds
      → declarators_breaches Static scope ds ≡ [] → Hold DATA_FROM high places ds → GlobalsFit ds
  globals_fit scope places [] parsed h hold = tt
  globals_fit scope [] (d ∷ ds) parsed h hold = absurd hold
  globals_fit scope (place ∷ places) (d ∷ ds) parsed h hold =
      let own = declarator_breaches Static scope d in
      let fits = declared_fits Static scope d parsed.0.0 (nil_left _ _ h) (omega (arith, apart, hold.1)) in (
        fits.0,
        fits.1,
        globals_fit (with_declarator d scope) places ds parsed.1 (nil_right own _ h) hold.2,
      )

  pub items_fit : (items before : List Item) (scope : Scope) (places : List ℕ)
      → IsParsedText items → parts_breaches text before scope items ≡ []
      → Hold DATA_FROM high places (global_declarators items) → ItemsFit items
  items_fit [] before scope places parsed h hold = tt
  items_fit (item.Vars keep ds ∷ rest) before scope places parsed h hold =
      let own = part_breaches text before scope (item.Vars keep ds) in (
        globals_fit scope places ds parsed.0 (nil_left _ _ h)
            (hold_front DATA_FROM high places ds (global_declarators rest) hold),
        items_fit rest (before ++ item.Vars keep ds ∷ []) (with_declarators ds scope)
            (drop (length ds) places) parsed.1 (nil_right own _ h)
            (hold_back DATA_FROM high places ds (global_declarators rest) hold),
      )
  items_fit (item.Fun f ∷ rest) before scope places parsed h hold =
      let own = part_breaches text before scope (item.Fun f) in (
        result_fits f.base f.stars parsed.0.0,
        items_fit rest (before ++ item.Fun f ∷ []) (with_function text f scope) places parsed.1
            (nil_right own _ h) hold,
      )

  -- For the frame of any function.
  module _ (defined : List ℕ → Option Definition) (room top : ℕ) where
    in_data : (t : Ty) (place : ℕ) → (alignment t ≡ 4 → place % 4 ≡ 0) → SizeFits t
        → DATA_FROM ≤ place → place + size t ≤ high
        → IsPlaced defined room top (held t) (Fixed place)
    in_data ty.Char place aligned fits ge le = tt
    in_data (ty.Array t n) place aligned fits ge le = omega (arith, apart, le)
    in_data ty.Void place aligned fits ge le = absurd (omega (arith, fits.0))
    in_data ty.Int place aligned fits ge le = (aligned refl, ge, omega (arith, apart, le))
    in_data ty.Unsigned place aligned fits ge le = (aligned refl, ge, omega (arith, apart, le))
    in_data (ty.Pointer t) place aligned fits ge le = (aligned refl, ge, omega (arith, apart, le))

    placed_globals : (scope : Scope) (names : Names) (places : List ℕ) (ds : List Var)
        → GlobalsFit ds → Hold DATA_FROM high places ds → AreAlignedAs places ds
        → PlacedNames defined room top scope names
        → PlacedNames defined room top (with_declarators ds scope) (with_globals places ds names)
    placed_globals scope names places [] fits hold aligned p = p
    placed_globals scope names [] (d ∷ ds) fits hold aligned p = absurd hold
    placed_globals scope names (place ∷ places) (d ∷ ds) fits hold aligned p =
        let t = declared_shape d in
        placed_globals (with_declarator d scope) (with_global (place ∷ places) d names) places ds
        fits.2 hold.2 aligned.1
        (placed_object defined room top d.name t (Fixed place)
        (in_data t place aligned.0 fits.0 hold.0 hold.1) p)

    pub placed_items : (items : List Item) (scope : Scope) (names : Names) (places : List ℕ)
        → ItemsFit items → Hold DATA_FROM high places (global_declarators items)
        → AreAlignedAs places (global_declarators items)
        → PlacedNames defined room top scope names
        → PlacedNames defined room top (behind_parts text items scope)
        (names_of text places items names)
    placed_items [] scope names places fits hold aligned p = p
    placed_items (item.Vars keep ds ∷ rest) scope names places fits hold aligned p =
        let others = global_declarators rest in
        placed_items rest (with_declarators ds scope) (with_globals places ds names)
        (drop (length ds) places) fits.1 (hold_back DATA_FROM high places ds others hold)
        (aligned_back places ds others aligned)
        (placed_globals scope names places ds fits.0 (hold_front DATA_FROM high places ds others hold)
        (aligned_front places ds others aligned) p)
    placed_items (item.Fun f ∷ rest) scope names places fits hold aligned p =
        placed_items rest (with_function text f scope) (with_routine text f names) places fits.1 hold
        aligned
        (placed_with defined room top f.name (known_function text f)
        (Routine (result_shape f) (parameter_shapes f.parameters) (definition text f.name))
        (λ t h. absurd cc) p)
