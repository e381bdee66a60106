-- What the names of a text stand for: what the checker knows at file scope, with an address or a definition.
use Rattle.std.proofs.Common.{◌≡◌, ℕ, ◌≤◌, length, drop, Bool, true, false, List, [], ◌∷◌, ◌++◌, Option, Some, None, is_some, refl, ap, ap₂, sym, ◌∙◌, inl, inr, arith, length-append, length-drop}
use Rattle.std.specs.Prelude.{◌&&◌, ◌||◌, ◌⊎◌, bytes_eq, if◌then◌else◌}
use Rattle.std.proofs.lemmas.List.{length-map}
use Rattle.c_tree.specs.Ty.{Ty}
use Rattle.c_tree.specs.Ty as ty
use Rattle.c_tree.specs.Var.{Var}
use Rattle.c_tree.specs.Stmt.{Stmts}
use Rattle.c_tree.specs.Fun.{Param, Fun}
use Rattle.c_tree.specs.Item.{Item}
use Rattle.c_tree.specs.Item as item
use Rattle.c_tree.specs.Scope.{Known, ObjectOf, FunctionOf, Scope}
use Rattle.c_tree.specs.Shapes.{same}
use Rattle.c_tree.specs.Accepted.{result_shape, parameter_shapes, is_defined, with_function, part_breaches, parts_breaches, has_no_parameter, is_main, has_main}
use Rattle.c_tree.specs.Declarators.{declared_shape, parameter_shape, with_declarator, with_declarators}
use Rattle.c_tree.proofs.Derived.{either, same_is}
use Rattle.c_tree.proofs.NoBreach.{nil_right, left_true, right_true}
use Rattle.c_semantics.specs.declared.home.Home.TheVariants.{Fixed}
use Rattle.c_semantics.specs.Names.{Definition, Named, Names, Variable, Routine as RoutineNamed}
use Rattle.c_semantics.specs.Evaluated.{IsDefinedTaking, IsMain, HasPlace}
use Rattle.c_semantics.specs.Meaning.{with_global, with_globals, global_declarators, defined_by, definition, with_function as with_routine, names_of, main_name}
use Rattle.c_semantics.proofs.SameNames.{IsVariable}
use Rattle.c_semantics.proofs.ExecutedLemmas.{has_place, fewer}
use Rattle.c_semantics.proofs.FileScope.{same_bytes, known_function, behind_parts, stays_known, IsFlagged}

module _ (text : List Item) where
  -- what the checker knows of a name at file scope, and what the name stands for
  abbrev pub StandsInFile : List ℕ → Option Known → Option Named → Type 0
  StandsInFile name None named = Unit {0}
  StandsInFile name (Some (ObjectOf t)) named = IsVariable t named
  StandsInFile name (Some (FunctionOf t ps d)) named = (d ≡ is_defined text name) × (named ≡ Some (RoutineNamed t ps (definition text name)))

  pub record FileNames (scope : Scope) (names : Names) : Type 0 where
    pub alone : scope.outer ≡ []
    pub stands : (name : List ℕ) → StandsInFile name (scope.inner name) (names name)

  hidden : (b : Bool) (name : List ℕ) (k : Known) (n : Named) (inner : Option Known)
      (named : Option Named)
      → (b ≡ true → StandsInFile name (Some k) (Some n))
      → StandsInFile name inner named
      → StandsInFile name (if b then Some k else inner) (if b then Some n else named)
  hidden true name k n inner named new old = new refl
  hidden false name k n inner named new old = old

  same_global : {scope : Scope} {names : Names} (places : List ℕ) (d : Var) → HasPlace places
      → FileNames scope names
      → FileNames (with_declarator d scope) (with_global places d names)
  same_global [] d p s = absurd p
  same_global {scope} {names} (address ∷ places) d p s = record {
    alone = s.alone;
    stands = λ name.
        let new : IsVariable (declared_shape d) (Some (Variable (declared_shape d) (Fixed address))) =
        record { home = Fixed address; is = refl; somewhere = λ e. cc } in
        hidden (bytes_eq d.name name) name (ObjectOf (declared_shape d)) (Variable (declared_shape d) (Fixed address)) (scope.inner name) (names name)
        (λ e. new) (s.stands name);
  }

  pub same_globals : (places : List ℕ) (ds : List Var) {scope : Scope} {names : Names}
      → length ds ≤ length places → FileNames scope names
      → FileNames (with_declarators ds scope) (with_globals places ds names)
  same_globals places [] le s = s
  same_globals places (d ∷ ds) le s =
      same_globals (drop 1 places) ds (fewer (length ds) places le) (same_global places d (has_place (length ds) places le) s)

  pub same_function : {scope : Scope} {names : Names} (f : Fun) → FileNames scope names
      → FileNames (with_function text f scope) (with_routine text f names)
  same_function {scope} {names} f s = record {
    alone = s.alone;
    stands = λ name.
        let t = result_shape f in
        let ps = parameter_shapes f.parameters in
        let new : bytes_eq f.name name ≡ true → StandsInFile name (Some (known_function text f)) (Some (RoutineNamed t ps (definition text f.name))) = λ e.
        let one = same_bytes f.name name e in
        (ap (is_defined text) one, ap (λ n. Some (RoutineNamed t ps (definition text n))) one) in
        hidden (bytes_eq f.name name) name (known_function text f) (RoutineNamed t ps (definition text f.name)) (scope.inner name) (names name) new (s.stands name);
  }

  pub places_for_globals : (ds others : List Var) (places : List ℕ)
      → length (ds ++ others) ≤ length places
      → (length ds ≤ length places) × (length others ≤ length (drop (length ds) places))
  places_for_globals ds others places le = (omega (arith, length-append ds others), omega (arith, length-append ds others, length-drop (length ds) places))

  pub same_file : (ps : List Item) (places : List ℕ) {scope : Scope} {names : Names}
      → length (global_declarators ps) ≤ length places → FileNames scope names
      → FileNames (behind_parts text ps scope) (names_of text places ps names)
  same_file [] places le s = s
  same_file (item.Vars keep ds ∷ ps) places le s =
      let rooms = places_for_globals ds (global_declarators ps) places le in
      same_file ps (drop (length ds) places) rooms.1 (same_globals places ds rooms.0 s)
  same_file (item.Fun f ∷ ps) places le s = same_file ps places le (same_function f s)

  -- what is known of a function says whether the text defines it
  pub known_is_flagged : (name : List ℕ) (known : Known) (named : Option Named)
      → StandsInFile name (Some known) named → IsFlagged text name known
  known_is_flagged name (ObjectOf t) named s = tt
  known_is_flagged name (FunctionOf t ps d) named s = s.0

  -- Functions that are defined.

  picked_one : (b : Bool) (f : Fun) (body : Option Stmts) (other : Option Definition)
      (d : Definition)
      → defined_by b f body other ≡ Some d
      → ((b ≡ true) × (f ≡ d.function)) ⊎ (other ≡ Some d)
  picked_one true f (Some body) other d h = let e : record { function = f; body = body } ≡ d = cc in inl (refl, ap (λ (x : Definition). x.function) e)
  picked_one true f None other d h = inr h
  picked_one false f body other d h = inr h

  abbrev pub known_at : List ℕ → Fun → Known
  known_at name f = FunctionOf (result_shape f) (parameter_shapes f.parameters) (is_defined text name)

  bound_function : (b : Bool) (k : Known) (o : Option Known) → b ≡ true
      → (if b then Some k else o) ≡ Some k
  bound_function true k o h = refl
  bound_function false k o h = cc

  -- behind a function its name is known
  known_behind : (ps before : List Item) (scope : Scope) (f : Fun) (name : List ℕ)
      → bytes_eq f.name name ≡ true
      → parts_breaches text before (with_function text f scope) ps ≡ []
      → (behind_parts text ps (with_function text f scope)).inner name ≡ Some (known_at name f)
  known_behind ps before scope f name e h =
      let one = same_bytes f.name name e in
      let here = bound_function (bytes_eq f.name name) (known_function text f) (scope.inner name) e
      ∙ ap (λ n. Some (FunctionOf (result_shape f) (parameter_shapes f.parameters) (is_defined text n))) one in
      stays_known text ps before (with_function text f scope) name (known_at name f) refl h here

  definition_known : (ps before : List Item) (scope : Scope) (name : List ℕ) (d : Definition)
      → parts_breaches text before scope ps ≡ []
      → definition ps name ≡ Some d
      → (behind_parts text ps scope).inner name ≡ Some (known_at name d.function)
  definition_known [] before scope name d h e = absurd cc
  definition_known (item.Vars keep ds ∷ ps) before scope name d h e =
      let rest = nil_right (part_breaches text before scope (item.Vars keep ds)) _ h in
      definition_known ps (before ++ item.Vars keep ds ∷ []) (with_declarators ds scope) name d rest e
  definition_known (item.Fun f ∷ ps) before scope name d h e =
      let rest = nil_right (part_breaches text before scope (item.Fun f)) _ h in
      let next = before ++ item.Fun f ∷ [] in
      elim (picked_one (bytes_eq f.name name) f f.body (definition ps name) d e) [
        | inl w ↦ known_behind ps next scope f name w.0 rest ∙ ap (λ g. Some (known_at name g)) w.1
        | inr w ↦ definition_known ps next (with_function text f scope) name d rest w
      ]

  has_definition : (b : Bool) (f : Fun) (body : Option Stmts) (other : Option Definition)
      → is_some (defined_by b f body other) ≡ ((is_some body && b) || is_some other)
  has_definition true f (Some body) other = refl
  has_definition true f None other = refl
  has_definition false f (Some body) other = refl
  has_definition false f None other = refl

  defined_there : (ps : List Item) (name : List ℕ)
      → is_some (definition ps name) ≡ is_defined ps name
  defined_there [] name = refl
  defined_there (item.Vars keep ds ∷ ps) name = defined_there ps name
  defined_there (item.Fun f ∷ ps) name =
      has_definition (bytes_eq f.name name) f f.body (definition ps name)
      ∙ ap (λ b. (is_some f.body && bytes_eq f.name name) || b) (defined_there ps name)

  abbrev pub IsOf : Ty → List Ty → Option Definition → Type 0
  IsOf t ps None = ⊥
  IsOf t ps (Some d) = (result_shape d.function ≡ t) × (parameter_shapes d.function.parameters ≡ ps)

  -- a definition has the type that is known
  known_type : (scope : Scope) → parts_breaches text [] scope text ≡ []
      → (name : List ℕ) (t : Ty) (ps : List Ty) (d : Bool)
      → (behind_parts text text scope).inner name ≡ Some (FunctionOf t ps d)
      → is_defined text name ≡ true → IsOf t ps (definition text name)
  known_type scope h name t ps d here there = found (definition text name) refl
    where
      found : (o : Option Definition) → definition text name ≡ o → IsOf t ps o
      found None e = absurd (cc (there, defined_there text name, ap is_some e))
      found (Some g) e =
          let known = definition_known text [] scope name g h e in
          let result : result_shape g.function ≡ t = cc in
          let shapes : parameter_shapes g.function.parameters ≡ ps = cc in
          (result, shapes)

  taking : (t : Ty) (ps : List Ty) (o : Option Definition) → IsOf t ps o
      → IsDefinedTaking (length ps) o
  taking t ps None s = s
  taking t ps (Some d) s = sym (length-map d.function.parameters parameter_shape) ∙ ap length s.1

  -- a definition takes the parameters that are known
  pub takes : (scope : Scope) → parts_breaches text [] scope text ≡ []
      → (name : List ℕ) (t : Ty) (ps : List Ty) (d : Bool)
      → (behind_parts text text scope).inner name ≡ Some (FunctionOf t ps d)
      → is_defined text name ≡ true → IsDefinedTaking (length ps) (definition text name)
  takes scope h name t ps d here there =
      taking t ps (definition text name) (known_type scope h name t ps d here there)

  -- The function `main`.

  none_left : (ps : List Param) → has_no_parameter ps ≡ true → parameter_shapes ps ≡ []
  none_left [] h = refl
  none_left (p ∷ ps) h = cc

  no_parameter : (ps : List Param) → parameter_shapes ps ≡ [] → ps ≡ []
  no_parameter [] h = refl
  no_parameter (p ∷ ps) h = cc

  abbrev known_main : Known
  known_main = FunctionOf ty.Int [] (is_defined text main_name)

  main_type : (f : Fun)
      → same (result_shape f) ty.Int && has_no_parameter f.parameters ≡ true
      → known_at main_name f ≡ known_main
  main_type f h =
      let result = same_is (result_shape f) ty.Int (left_true _ _ h) in
      let none = none_left f.parameters (right_true (same (result_shape f) ty.Int) _ h) in
      ap₂ (λ t ps. FunctionOf t ps (is_defined text main_name)) result none

  main_known : (ps before : List Item) (scope : Scope) → parts_breaches text before scope ps ≡ []
      → has_main ps ≡ true → (behind_parts text ps scope).inner main_name ≡ Some known_main
  main_known [] before scope h m = absurd cc
  main_known (item.Vars keep ds ∷ ps) before scope h m =
      let rest = nil_right (part_breaches text before scope (item.Vars keep ds)) _ h in
      main_known ps (before ++ item.Vars keep ds ∷ []) (with_declarators ds scope) rest m
  main_known (item.Fun f ∷ ps) before scope h m =
      let rest = nil_right (part_breaches text before scope (item.Fun f)) _ h in
      let next = before ++ item.Fun f ∷ [] in
      let here : is_main (item.Fun f) ≡ true → (behind_parts text ps (with_function text f scope)).inner main_name ≡ Some known_main = λ w.
      let named = right_true (is_some f.body) _ w in
      known_behind ps next scope f main_name (left_true (bytes_eq f.name main_name) _ named) rest
      ∙ ap Some (main_type f (right_true (bytes_eq f.name main_name) _ named)) in
      either (is_main (item.Fun f)) (has_main ps) m here (main_known ps next (with_function text f scope) rest)

  defines : (x y other rest later : Bool) → (x && (y && other)) || rest ≡ true
      → (rest ≡ true → later ≡ true) → (x && y) || later ≡ true
  defines true true other rest later h k = refl
  defines true false other rest later h k = k h
  defines false y other rest later h k = k h

  main_defined : (ps : List Item) → has_main ps ≡ true → is_defined ps main_name ≡ true
  main_defined [] m = absurd cc
  main_defined (item.Vars keep ds ∷ ps) m = main_defined ps m
  main_defined (item.Fun f ∷ ps) m =
      defines (is_some f.body) (bytes_eq f.name main_name) _ (has_main ps) (is_defined ps main_name) m (main_defined ps)

  as_main : (o : Option Definition) → IsOf ty.Int [] o → IsMain o
  as_main None s = s
  as_main (Some d) s = (s.0, no_parameter d.function.parameters s.1)

  pub main_is : (scope : Scope) → parts_breaches text [] scope text ≡ [] → has_main text ≡ true
      → IsMain (definition text main_name)
  main_is scope h m =
      as_main (definition text main_name)
      (known_type scope h main_name ty.Int [] (is_defined text main_name) (main_known text [] scope h m) (main_defined text m))
