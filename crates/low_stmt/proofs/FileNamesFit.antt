-- The names of a text fit, where what it declares does.
use Rattle.std.proofs.Common.{◌≡◌, ℕ, zero, suc, ◌^◌, ◌<◌, ◌≤◌, List, [], ◌∷◌, length, drop, refl, sym, ap, ◌∙◌, subst, Option, Some, None}
use Rattle.std.specs.Prelude.{Bool, true, false, bytes_eq, if◌then◌else◌, IfSome}
use Rattle.std.proofs.lemmas.Slice.Eq.{bytes_eq-Decides}
use Rattle.c_tree.specs.Var.{Var}
use Rattle.c_tree.specs.Fun.{Fun}
use Rattle.c_tree.specs.Item.{Item}
use Rattle.c_tree.specs.Item as item
use Rattle.c_tree.specs.Stmt.{Stmts}
use Rattle.c_tree.specs.Accepted.{result_shape, parameter_shapes}
use Rattle.c_tree.specs.Declarators.{declared_shape}
use Rattle.c_layout.specs.Globals.{globals, addresses}
use Rattle.c_semantics.specs.declared.home.Home.TheVariants.{Fixed}
use Rattle.c_semantics.specs.Names.{Names, Named, Variable, Routine, Definition, no_names, with_name}
use Rattle.c_semantics.specs.Meaning.{with_global, with_globals, defined_by, definition, names_of, with_function}
use Rattle.low_expr.specs.FittingNames.{ShapeFits, HasCode, NamedFits, NamesFit}
use Rattle.low_stmt.specs.FittingTexts.{GlobalsFit, ItemsFit, FunFits, FunsFit}
use Rattle.low_stmt.specs.TextCode.{names_in}
use Rattle.low_stmt.proofs.CallsLemmas.{the_definition}

-- places that are words
abbrev pub AreLow : List ℕ → Type 0
AreLow [] = Unit {0}
AreLow (place ∷ places) = (place < 2 ^ 32) × AreLow places

low_drop : (n : ℕ) (places : List ℕ) → AreLow places → AreLow (drop n places)
low_drop zero places h = h
low_drop (suc n) [] h = tt
low_drop (suc n) (place ∷ places) h = low_drop n places h.1

module _ (text : List Item) (functions : FunsFit text text) where
  abbrev defined : List ℕ → Option Definition
  defined = definition text

  -- a name more
  more_fits : (names : Names) (name : List ℕ) (named : Named) → NamesFit defined names
      → ((other : List ℕ) → name ≡ other → NamedFits defined other named)
      → NamesFit defined (with_name name named names)
  more_fits names name named fit new other found is = decided (bytes_eq name other) refl is
    where
      same : Some named ≡ Some found → named ≡ found
      same h = cc

      decided : (b : Bool) → bytes_eq name other ≡ b
          → (if b then Some named else names other) ≡ Some found → NamedFits defined other found
      decided true h e =
          subst (NamedFits defined other) (same e) (new other ((bytes_eq-Decides name other).0 h))
      decided false h e = fit other found e

  globals_fit : (names : Names) (places : List ℕ) (ds : List Var) → NamesFit defined names
      → AreLow places → GlobalsFit ds → NamesFit defined (with_globals places ds names)
  globals_fit names places [] fit low ds = fit
  globals_fit names [] (d ∷ ds) fit low fits = globals_fit names [] ds fit low fits.2
  globals_fit names (place ∷ places) (d ∷ ds) fit low fits =
      globals_fit (with_global (place ∷ places) d names) places ds
      (more_fits names d.name (Variable (declared_shape d) (Fixed place)) fit
      (λ other e. (low.0, fits.0, fits.1))) low.1 fits.2

  -- a function that is defined has few parameters
  few_parameters : (items : List Item) (name : List ℕ) (d : Definition) → FunsFit text items
      → definition items name ≡ Some d → length d.function.parameters ≤ 8
  few_parameters [] name d fits e = cc
  few_parameters (item.Vars keep ds ∷ rest) name d fits e = few_parameters rest name d fits e
  few_parameters (item.Fun f ∷ rest) name d fits e =
      split (bytes_eq f.name name) f.body fits.0 (λ h. few_parameters rest name d fits.1 h) e
    where
      split : (b : Bool) (body : Option Stmts)
          → IfSome body (FunFits (definition text) (names_in text) f)
          → (definition rest name ≡ Some d → length d.function.parameters ≤ 8)
          → defined_by b f body (definition rest name) ≡ Some d → length d.function.parameters ≤ 8
      split true None fits next e = next e
      split false None fits next e = next e
      split false (Some body) fits next e = next e
      split true (Some body) fits next e =
          subst (λ q. length q.function.parameters ≤ 8) (same e) fits.few
        where
          same : Some (the_definition f body) ≡ Some d → the_definition f body ≡ d
          same h = cc

  function_fits : (f : Fun) (other : List ℕ) → f.name ≡ other → ShapeFits (result_shape f)
      → NamedFits defined other
      (Routine (result_shape f) (parameter_shapes f.parameters) (definition text f.name))
  function_fits f other e shaped = (shaped, has_code (definition text f.name) refl)
    where
      has_code : (o : Option Definition) → definition text f.name ≡ o
          → IfSome o (HasCode defined other)
      has_code None h = tt
      has_code (Some d) h =
          (ap (definition text) (sym e) ∙ h, few_parameters text f.name d functions h)

  items_fit : (names : Names) (places : List ℕ) (items : List Item) → NamesFit defined names
      → AreLow places → ItemsFit items → NamesFit defined (names_of text places items names)
  items_fit names places [] fit low fits = fit
  items_fit names places (item.Vars keep ds ∷ rest) fit low fits =
      items_fit (with_globals places ds names) (drop (length ds) places) rest
      (globals_fit names places ds fit low fits.0) (low_drop (length ds) places low) fits.1
  items_fit names places (item.Fun f ∷ rest) fit low fits =
      items_fit (with_function text f names) places rest
      (more_fits names f.name
      (Routine (result_shape f) (parameter_shapes f.parameters) (definition text f.name)) fit
      (λ other e. function_fits f other e fits.0)) low fits.1

  pub file_names_fit : AreLow (addresses (globals text)) → ItemsFit text
      → NamesFit defined (names_in text)
  file_names_fit low fits =
      items_fit no_names (addresses (globals text)) text (λ name named e. cc) low fits
