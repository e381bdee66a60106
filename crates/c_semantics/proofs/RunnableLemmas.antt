-- A text without a breach can be run.
use Rattle.std.proofs.Common.{◌≡◌, ℕ, suc, ◌+◌, ◌≤◌, length, drop, map, Bool, true, false, not, List, [], ◌∷◌, ◌++◌, Option, Some, None, is_some, refl, ap, ap₂, sym, subst, ◌∙◌, arith, length-append, length-drop}
use Rattle.std.specs.Prelude.{IfSome}
use Rattle.std.proofs.lemmas.List.{length-map}
use Rattle.c_tree.specs.declared.breach.Broken.TheVariants.{Twice, Arguments, TooManyParameters}
use Rattle.c_tree.specs.declared.place.Place.{Place}
use Rattle.c_tree.specs.declared.tree.Tree.{Tree}
use Rattle.c_tree.specs.Ty.{Ty}
use Rattle.c_tree.specs.Stmt.{Stmts}
use Rattle.c_tree.specs.Fun.{Param, Fun}
use Rattle.c_tree.specs.Item.{Item}
use Rattle.c_tree.specs.Item as item
use Rattle.c_tree.specs.View.{items_of}
use Rattle.c_tree.specs.Scope.{Known, ObjectOf, FunctionOf, Frame, Scope, empty_scope, otherwise, look_outer, entered}
use Rattle.c_tree.specs.Breach.{unless}
use Rattle.c_tree.specs.Accepted.{Accepted, result_shape, parameter_shapes, is_defined, again_breaches, parameter_name_breaches, with_name as with_known, with_parameter as with_known_parameter, with_parameters as with_known_parameters, parameters_breaches, definition_breaches, with_function, part_breaches, parts_breaches, text_breaches, has_main}
use Rattle.c_tree.specs.Declarators.{parameter_shape, with_declarators}
use Rattle.c_tree.proofs.Acceptance.{unbroken, with_main}
use Rattle.c_tree.proofs.NoBreach.{nil_left, nil_right, never}
use Rattle.c_layout.specs.Frames.{body_locals, room_of, room_of_parameter, offsets_from, rooms, frame_of}
use Rattle.c_layout.specs.Globals.{Global, Cursors, global_of, globals, addresses_from, addresses, starts}
use Rattle.c_semantics.specs.declared.home.Home.TheVariants.{InFrame}
use Rattle.c_semantics.specs.Names.{Named, Names, no_names}
use Rattle.c_semantics.specs.Evaluated.{HasPlace, ArePassable, IsCallable, AreCallable, IsRunnable}
use Rattle.c_semantics.specs.Meaning.{global_declarators, names_of, with_parameter, with_parameters}
use Rattle.c_semantics.proofs.ConstantValues.{globals_constant}
use Rattle.c_semantics.proofs.SameNames.{Stands, SameNames, same_with, same_entered}
use Rattle.c_semantics.proofs.ExecutedLemmas.{frame_is_somewhere, has_place, fewer, all_executable}
use Rattle.c_semantics.proofs.FileScope.{behind_parts, stays_known}
use Rattle.c_semantics.proofs.FileNames.{StandsInFile, FileNames, same_globals, same_function, places_for_globals, same_file, known_is_flagged, takes, main_is}

-- Parameters.

same_parameter : {scope : Scope} {names : Names} (places : List ℕ) (t : Ty)
    (name : Option (List ℕ)) (at : Place)
    → HasPlace places
    → parameter_name_breaches scope name at ≡ [] → SameNames scope names
    → SameNames (with_known name t scope) (with_parameter places t name names)
same_parameter [] t name at p h s = absurd p
same_parameter (place ∷ places) t None at p h s = never Arguments at h
same_parameter (place ∷ places) t (Some name) at p h s = same_with name t (InFrame place) (frame_is_somewhere place) s

is_named : (scope : Scope) (name : Option (List ℕ)) (at : Place)
    → parameter_name_breaches scope name at ≡ [] → is_some name ≡ true
is_named scope None at h = never Arguments at h
is_named scope (Some name) at h = refl

same_parameters : (places : List ℕ) (ps : List Param) {scope : Scope} {names : Names}
    → length ps ≤ length places → parameters_breaches scope ps ≡ []
    → SameNames scope names
    → SameNames (with_known_parameters ps scope) (with_parameters places ps names)
same_parameters places [] le h s = s
same_parameters places (p ∷ ps) {scope} le h s =
    let own = parameter_name_breaches scope p.name p.place in
    same_parameters (drop 1 places) ps (fewer (length ps) places le) (nil_right own _ h)
    (same_parameter places (parameter_shape p) p.name p.place (has_place (length ps) places le) (nil_left own _ h) s)

passable : (places : List ℕ) (ps : List Param) (scope : Scope) → length ps ≤ length places
    → parameters_breaches scope ps ≡ [] → ArePassable places ps
passable places [] scope le h = tt
passable places (p ∷ ps) scope le h =
    let own = parameter_name_breaches scope p.name p.place in (
      has_place (length ps) places le,
      is_named scope p.name p.place (nil_left own _ h),
      passable (drop 1 places) ps (with_known_parameter p scope) (fewer (length ps) places le) (nil_right own _ h),
    )

-- Places: one for each parameter and each local, and one for each global.

length-offsets : (at : ℕ) (xs : List ℕ) → length (offsets_from at xs) ≡ length xs
length-offsets at [] = refl
length-offsets at (x ∷ xs) = ap suc (length-offsets (at + x) xs)

length-places : (ps : List Param) (body : Stmts)
    → length (frame_of ps body).places ≡ length ps + length (body_locals body)
length-places ps body =
    length-offsets _ (rooms ps body) ∙ length-append (map room_of_parameter ps) (map room_of (body_locals body))
    ∙ ap₂ (λ n m. n + m) (length-map ps room_of_parameter) (length-map (body_locals body) room_of)

length-addresses : (gs : List Global) (c : Cursors) → length (addresses_from c gs) ≡ length gs
length-addresses [] c = refl
length-addresses (g ∷ gs) c = ap suc (length-addresses gs _)

length-globals : (ps : List Item) → length (globals ps) ≡ length (global_declarators ps)
length-globals [] = refl
length-globals (item.Vars keep ds ∷ ps) =
    length-append (map (global_of keep) ds) (globals ps) ∙ ap₂ (λ n m. n + m) (length-map ds (global_of keep)) (length-globals ps)
    ∙ sym (length-append ds (global_declarators ps))
length-globals (item.Fun f ∷ ps) = length-globals ps

module _ (text : List Item) (h : parts_breaches text [] empty_scope text ≡ []) where
  abbrev last_scope : Scope
  last_scope = behind_parts text text empty_scope

  abbrev names : Names
  names = names_of text (addresses (globals text)) text no_names

  each_has_address : length (addresses (globals text)) ≡ length (global_declarators text)
  each_has_address = length-addresses (globals text) (starts (globals text)) ∙ length-globals text

  nothing_yet : FileNames text empty_scope no_names
  nothing_yet = record { alone = refl; stands = λ name. tt }

  last_names : FileNames text last_scope names
  last_names = same_file text text (addresses (globals text)) (omega (arith, each_has_address)) nothing_yet

  in_file : (name : List ℕ) (known : Known) (named : Option Named)
      → last_scope.inner name ≡ Some known → StandsInFile text name (Some known) named
      → Stands (Some known) named
  in_file name (ObjectOf t) named here s = s
  in_file name (FunctionOf t ps d) named here s = record {
    found = _;
    is = s.1;
    takes = λ e. takes text empty_scope h name t ps d here (sym s.0 ∙ e);
  }

  -- what is known at one point of the text stands for the same in the whole
  same_whole : (ps before : List Item) (scope : Scope) (those : Names) → FileNames text scope those
      → parts_breaches text before scope ps ≡ []
      → behind_parts text ps scope ≡ last_scope → SameNames scope names
  same_whole ps before scope those s right ends = record { stands = λ name. at name (scope.inner name) refl }
    where
      at : (name : List ℕ) (k : Option Known) → scope.inner name ≡ k
          → Stands (otherwise k (look_outer scope.outer name)) (names name)
      at name None e = subst (λ (outer : List Frame). Stands (otherwise None (look_outer outer name)) (names name)) (sym s.alone) tt
      at name (Some known) e =
          let here = subst (λ o. StandsInFile text name o (those name)) e (s.stands name) in
          let flag = known_is_flagged text name known (those name) here in
          let stays = stays_known text ps before scope name known flag right e in
          let last : last_scope.inner name ≡ Some known = ap (λ (x : Scope). x.inner name) (sym ends) ∙ stays in
          in_file name known (names name) last (subst (λ o. StandsInFile text name o (names name)) last (last_names.stands name))

  callable_body : (before : Bool) (scope : Scope) (f : Fun) (body : Option Stmts)
      → SameNames scope names → definition_breaches before scope f body ≡ []
      → IfSome body (IsCallable text f)
  callable_body before scope f None s right = tt
  callable_body before scope f (Some body) s right =
      let two = nil_right (unless (not before) Twice f.place) _ right in
      let places = (frame_of f.parameters body).places in
      let count = length-places f.parameters body in
      let few : length f.parameters ≤ length places = omega (arith, count) in
      let own = parameters_breaches (entered scope) f.parameters in
      let locals : length (body_locals body) ≤ length (drop (length f.parameters) places) = omega (arith, count, length-drop (length f.parameters) places) in (
        passable places f.parameters (entered scope) few (nil_left own _ two),
        all_executable (result_shape f) false body (with_known_parameters f.parameters (entered scope)) (with_parameters places f.parameters names)
            (drop (length f.parameters) places) (same_parameters places f.parameters few (nil_left own _ two) (same_entered s)) locals (nil_right own _ two),
      )

  all_callable : (ps before : List Item) (scope : Scope) (those : Names) (places : List ℕ)
      → length (global_declarators ps) ≤ length places → FileNames text scope those
      → parts_breaches text before scope ps ≡ [] → behind_parts text ps scope ≡ last_scope
      → AreCallable text ps
  all_callable [] before scope those places le s right ends = tt
  all_callable (item.Vars keep ds ∷ ps) before scope those places le s right ends =
      let rooms = places_for_globals text ds (global_declarators ps) places le in
      let next = same_globals text places ds rooms.0 s in
      all_callable ps (before ++ item.Vars keep ds ∷ []) (with_declarators ds scope) _ (drop (length ds) places) rooms.1 next
      (nil_right (part_breaches text before scope (item.Vars keep ds)) _ right) ends
  all_callable (item.Fun f ∷ ps) before scope those places le s right ends =
      let next = same_function text f s in
      let rest = nil_right (part_breaches text before scope (item.Fun f)) _ right in
      let inner = same_whole ps (before ++ item.Fun f ∷ []) (with_function text f scope) _ next rest ends in
      let again = again_breaches (scope.inner f.name) (result_shape f) (parameter_shapes f.parameters) f.place in
      let own = nil_right (unless _ TooManyParameters f.place) _ (nil_right again _ (nil_left (part_breaches text before scope (item.Fun f)) _ right)) in (
        callable_body (is_defined before f.name) (with_function text f scope) f f.body inner own,
        all_callable ps (before ++ item.Fun f ∷ []) (with_function text f scope) _ places le next rest ends,
      )

  runnable : has_main text ≡ true → IsRunnable text
  runnable main = record {
    enough_addresses = each_has_address;
    constants = globals_constant text text [] empty_scope h;
    functions = all_callable text [] empty_scope no_names (addresses (globals text)) (omega (arith, each_has_address)) nothing_yet h refl;
    main = main_is text empty_scope h main;
  }

pub right_runnable : (text : List Item) → text_breaches text ≡ [] → has_main text ≡ true
    → IsRunnable text
right_runnable text h main = runnable text (nil_left _ _ h) main

pub accepted_runnable : (tree : Tree) → Accepted tree → IsRunnable (items_of tree)
accepted_runnable tree a = right_runnable (items_of tree) (unbroken tree a) (with_main tree a)
