-- An accepted text that has a layout fits, and so is ready.
use Rattle.std.proofs.Common.{◌≡◌, ℕ, ◌^◌, ◌≤◌, List, [], ◌∷◌, ◌++◌, length, refl, sym, ap, ◌∙◌, subst, arith, Option, Some, None}
use Rattle.std.specs.Prelude.{Bool, true, false, nat_le, IfSome}
use Rattle.std.specs.List.{AllByRecursion}
use Rattle.bop_bits.specs.declared.map.TheConstants.{DATA_FROM, STACK_FROM}
use Rattle.c_tree.specs.declared.limits.TheConstants.{MOST_PARAMETERS}
use Rattle.c_tree.specs.declared.breach.Breach.{Breach}
use Rattle.c_tree.specs.declared.breach.Broken.TheVariants.{TooManyParameters}
use Rattle.c_tree.specs.declared.breach.Ranking.TheVariants.{ForChecks}
use Rattle.c_tree.specs.Var.{Var}
use Rattle.c_tree.specs.Fun.{Fun}
use Rattle.c_tree.specs.Item.{Item}
use Rattle.c_tree.specs.Item as item
use Rattle.c_tree.specs.Stmt.{Stmts}
use Rattle.c_tree.specs.Scope.{Known, ObjectOf, Frame, Scope, empty_scope, otherwise, look_outer}
use Rattle.c_tree.specs.Breach.{unless, least_of, nothing_found}
use Rattle.c_tree.specs.Accepted.{result_shape, parameter_shapes, is_defined, again_breaches, definition_breaches, with_function, part_breaches, parts_breaches, text_breaches, has_main, main_fault, text_fault}
use Rattle.c_tree.specs.Declarators.{with_declarator, with_declarators}
use Rattle.c_tree.proofs.LeastBreach.{least_none}
use Rattle.c_tree.proofs.NoBreach.{nil_left, nil_right, holds}
use Rattle.c_layout.specs.Frames.{frame_of, frames}
use Rattle.c_layout.specs.Globals.{globals, addresses, starts, private_end}
use Rattle.c_layout.specs.Laid.{is_data_too_large, first_too_large}
use Rattle.c_semantics.specs.Names.{no_names}
use Rattle.c_semantics.specs.Evaluated.{IsRunnable}
use Rattle.c_semantics.specs.Meaning.{global_declarators, definition}
use Rattle.c_semantics.proofs.FileScope.{behind_parts, stays_known}
use Rattle.c_semantics.proofs.RunnableLemmas.{right_runnable}
use Rattle.low_stmt.specs.FittingTexts.{ItemsFit, FunFits, FunsFit, TextFits}
use Rattle.low_stmt.specs.ParsedTexts.{IsParsedParam, AreParsedStmts, IsParsedText}
use Rattle.low_stmt.specs.TextCode.{names_in}
use Rattle.low_stmt.specs.TextReadiness.{IsReadyText}
use Rattle.low_stmt.proofs.FunctionsFit.{fun_fits}
use Rattle.low_stmt.proofs.GlobalsFit.{AreAlignedAs, addresses_aligned, objects_hold, items_fit, placed_items}
use Rattle.low_stmt.proofs.PlacedNames.{PlacedNames}
use Rattle.low_stmt.proofs.PlacesOfGlobals.{of_text, globals_between, data_apart}
use Rattle.low_stmt.proofs.PlacesOfLocals.{Hold}
use Rattle.low_stmt.proofs.TextsAreReady.{small_frames, text_ready}

only_inner : (o : Option Known) (known : Known) → otherwise o None ≡ Some known → o ≡ Some known
only_inner None known h = cc
only_inner (Some k) known h = h

-- at file scope there is one block
same_outer : (ds : List Var) (scope : Scope) → (with_declarators ds scope).outer ≡ scope.outer
same_outer [] scope = refl
same_outer (d ∷ ds) scope = same_outer ds (with_declarator d scope)

module _ (text : List Item) (parsed : IsParsedText text)
    (right : parts_breaches text [] empty_scope text ≡ []) (runnable : IsRunnable text)
    (data_fits : is_data_too_large text ≡ false) where
  abbrev last_scope : Scope
  last_scope = behind_parts text text empty_scope

  abbrev high : ℕ
  high = private_end (globals text)

  abbrev places : List ℕ
  places = addresses (globals text)

  apart : high ≤ STACK_FROM
  apart = data_apart text data_fits

  hold : Hold DATA_FROM high places (global_declarators text)
  hold =
      objects_hold DATA_FROM high places (global_declarators text)
      (omega (arith, runnable.enough_addresses)) (globals_between text)

  aligned : AreAlignedAs places (global_declarators text)
  aligned =
      addresses_aligned (starts (globals text)) (globals text) (global_declarators text)
      (of_text text)

  whole_items_fit : ItemsFit text
  whole_items_fit = items_fit text high apart text [] empty_scope places parsed right hold

  nothing_yet : (room top : ℕ) → PlacedNames (definition text) room top empty_scope no_names
  nothing_yet room top = record { objects = λ name t h. absurd cc }

  placed_last : (room top : ℕ)
      → PlacedNames (definition text) room top last_scope (names_in text)
  placed_last room top =
      placed_items text high apart (definition text) room top text empty_scope no_names places
      whole_items_fit hold aligned (nothing_yet room top)

  -- what is known at one point of the text is known as the same behind it
  placed_at : (rest before : List Item) (scope : Scope) → scope.outer ≡ []
      → parts_breaches text before scope rest ≡ [] → behind_parts text rest scope ≡ last_scope
      → (room top : ℕ) → PlacedNames (definition text) room top scope (names_in text)
  placed_at rest before scope alone h ends room top = record {
    objects = λ name t found.
        let known = ObjectOf t in
        let here = only_inner (scope.inner name) known
        (subst (λ (outer : List Frame). otherwise (scope.inner name) (look_outer outer name) ≡ Some known) alone found) in
        let last : last_scope.inner name ≡ Some known =
        ap (λ (x : Scope). x.inner name) (sym ends) ∙ stays_known text rest before scope name known tt h here in
        (placed_last room top).objects name t
        (ap (λ o. otherwise o (look_outer last_scope.outer name)) last);
  }

  body_fits : (before : Bool) (scope : Scope) (f : Fun) (body : Option Stmts)
      → ((room top : ℕ) → PlacedNames (definition text) room top scope (names_in text))
      → nat_le (length f.parameters) MOST_PARAMETERS ≡ true
      → AllByRecursion IsParsedParam f.parameters → IfSome body AreParsedStmts
      → IfSome body (λ b. (frame_of f.parameters b).size ≤ 2 ^ 16)
      → definition_breaches before scope f body ≡ []
      → IfSome body (FunFits (definition text) (names_in text) f)
  body_fits before scope f None placed few parameters parsed near h = tt
  body_fits before scope f (Some body) placed few parameters parsed near h =
      fun_fits (definition text) (names_in text) before scope f body placed few parameters parsed near h

  functions_fit : (items before : List Item) (scope : Scope) → scope.outer ≡ []
      → parts_breaches text before scope items ≡ [] → behind_parts text items scope ≡ last_scope
      → IsParsedText items → first_too_large (frames items) ≡ None → FunsFit text items
  functions_fit [] before scope alone h ends parsed small = tt
  functions_fit (item.Vars keep ds ∷ rest) before scope alone h ends parsed small =
      let own = part_breaches text before scope (item.Vars keep ds) in
      functions_fit rest (before ++ item.Vars keep ds ∷ []) (with_declarators ds scope)
      (same_outer ds scope ∙ alone) (nil_right own _ h) ends parsed.1 small
  functions_fit (item.Fun f ∷ rest) before scope alone h ends parsed small =
      let inner = with_function text f scope in
      let own = part_breaches text before scope (item.Fun f) in
      let later = nil_right own _ h in
      let near = small_frames text f f.body (frames rest) small in
      let again = again_breaches (scope.inner f.name) (result_shape f) (parameter_shapes f.parameters) f.place in
      let few = nat_le (length f.parameters) MOST_PARAMETERS in
      let two = nil_right again _ (nil_left own _ h) in (
        body_fits (is_defined before f.name) inner f f.body
            (placed_at rest (before ++ item.Fun f ∷ []) inner alone later ends)
            (holds few TooManyParameters f.place (nil_left _ _ two)) parsed.0.1 parsed.0.2 near.0
            (nil_right (unless few TooManyParameters f.place) _ two),
        functions_fit rest (before ++ item.Fun f ∷ []) inner alone later ends parsed.1 near.1,
      )

  pub text_fits : first_too_large (frames text) ≡ None → TextFits text
  text_fits small = record {
    items = whole_items_fit;
    functions = functions_fit text [] empty_scope refl right refl parsed small;
    data_fits = data_fits;
    frames_fit = small;
  }

-- a text without a fault has no breach, and a `main`
pub no_fault : (least : Option Breach) (main : Bool) → otherwise least (main_fault main) ≡ None
    → (least ≡ None) × (main ≡ true)
no_fault None true h = (refl, refl)
no_fault None false h = absurd cc
no_fault (Some b) main h = absurd cc

pub accepted_ready : (text : List Item) → IsParsedText text → text_fault text ≡ None
    → is_data_too_large text ≡ false → first_too_large (frames text) ≡ None → IsReadyText text
accepted_ready text parsed faultless data_fits frames_fit =
    let least = least_of (nothing_found ForChecks) (text_breaches text) in
    let none = no_fault least.found (has_main text) faultless in
    let right = least_none (nothing_found ForChecks) (text_breaches text) none.0 in
    let runnable = right_runnable text right none.1 in
    text_ready text runnable
    (text_fits text parsed (nil_left _ _ right) runnable data_fits frames_fit)
