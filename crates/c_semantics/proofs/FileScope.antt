-- A name that is known at one point of a text without a breach is known behind it, as the same.
use Rattle.std.proofs.Common.{◌≡◌, ℕ, Bool, true, false, not, ◌&&◌, List, [], ◌∷◌, ◌++◌, Option, Some, is_some, refl, ap, ap₂, sym, subst, ◌∙◌}
use Rattle.std.specs.Cmp.Lexicographic.{bytes_decides}
use Rattle.std.specs.Prelude.{bytes_eq, if◌then◌else◌}
use Rattle.c_tree.specs.declared.storage.Storage.TheVariants.{Static}
use Rattle.c_tree.specs.declared.breach.Broken.TheVariants.{Twice, Mismatch}
use Rattle.c_tree.specs.declared.place.Place.{Place}
use Rattle.c_tree.specs.Ty.{Ty}
use Rattle.c_tree.specs.Var.{Var}
use Rattle.c_tree.specs.Fun.{Fun}
use Rattle.c_tree.specs.Item.{Item}
use Rattle.c_tree.specs.Item as item
use Rattle.c_tree.specs.Scope.{Known, ObjectOf, FunctionOf, Scope}
use Rattle.c_tree.specs.Shapes.{same}
use Rattle.c_tree.specs.Accepted.{result_shape, parameter_shapes, is_defined, same_all, again_breaches, with_function, function_breaches, part_breaches, behind_part, parts_breaches}
use Rattle.c_tree.specs.Declarators.{declared_shape, with_declarator, with_declarators, constants_breaches, declarator_breaches, declarators_breaches}
use Rattle.c_tree.proofs.Derived.{same_is}
use Rattle.c_tree.proofs.NoBreach.{nil_left, nil_right, holds, never, left_true, right_true, is_false}

same_shapes : (ts us : List Ty) → same_all ts us ≡ true → ts ≡ us
same_shapes [] [] h = refl
same_shapes [] (u ∷ us) h = absurd cc
same_shapes (t ∷ ts) [] h = absurd cc
same_shapes (t ∷ ts) (u ∷ us) h =
    ap₂ (λ v vs. v ∷ vs) (same_is t u (left_true (same t u) (same_all ts us) h)) (same_shapes ts us (right_true (same t u) (same_all ts us) h))

pub same_bytes : (name other : List ℕ) → bytes_eq name other ≡ true → name ≡ other
same_bytes name other h = (bytes_decides name other).0 h

-- a name more, which may be the same name as the same again
bound_stays : (b : Bool) (new : Known) (o : Option Known) (known : Known) → (b ≡ true → new ≡ known)
    → o ≡ Some known → (if b then Some new else o) ≡ Some known
bound_stays true new o known again h = ap Some (again refl)
bound_stays false new o known again h = h

declared_stays : (scope : Scope) (d : Var) (name : List ℕ) (known : Known)
    → declarator_breaches Static scope d ≡ [] → scope.inner name ≡ Some known
    → (with_declarator d scope).inner name ≡ Some known
declared_stays scope d name known h here =
    let two = nil_right (constants_breaches scope d.sizes) _ h in
    let free = is_false (is_some (scope.inner d.name)) (holds (not (is_some (scope.inner d.name))) Twice d.place (nil_left _ _ two)) in
    let again : bytes_eq d.name name ≡ true → ObjectOf (declared_shape d) ≡ known = λ e.
    let there = subst (λ n. is_some (scope.inner n) ≡ false) (same_bytes d.name name e) free in
    absurd (cc (there, ap is_some here)) in
    bound_stays (bytes_eq d.name name) (ObjectOf (declared_shape d)) (scope.inner name) known again here

declarators_stay : (ds : List Var) (scope : Scope) (name : List ℕ) (known : Known)
    → declarators_breaches Static scope ds ≡ [] → scope.inner name ≡ Some known
    → (with_declarators ds scope).inner name ≡ Some known
declarators_stay [] scope name known h here = here
declarators_stay (d ∷ ds) scope name known h here =
    declarators_stay ds (with_declarator d scope) name known (nil_right (declarator_breaches Static scope d) _ h)
    (declared_stays scope d name known (nil_left _ _ h) here)

module _ (text : List Item) where
  -- of a function, what is known says whether the text defines it
  abbrev pub IsFlagged : List ℕ → Known → Type 0
  IsFlagged name (ObjectOf t) = Unit {0}
  IsFlagged name (FunctionOf t ps d) = d ≡ is_defined text name

  abbrev pub behind_parts : List Item → Scope → Scope
  behind_parts [] scope = scope
  behind_parts (p ∷ ps) scope = behind_parts ps (behind_part text p scope)

  abbrev pub known_function : Fun → Known
  known_function f = FunctionOf (result_shape f) (parameter_shapes f.parameters) (is_defined text f.name)

  same_again : (name : List ℕ) (known : Known) (t : Ty) (ts : List Ty) (at : Place)
      → IsFlagged name known → again_breaches (Some known) t ts at ≡ []
      → FunctionOf t ts (is_defined text name) ≡ known
  same_again name (ObjectOf u) t ts at flag h = never Twice at h
  same_again name (FunctionOf u us d) t ts at flag h =
      let right = holds (same u t && same_all us ts) Mismatch at h in
      let result = same_is u t (left_true (same u t) (same_all us ts) right) in
      let parameters = same_shapes us ts (right_true (same u t) (same_all us ts) right) in
      λ i. FunctionOf (sym result i) (sym parameters i) (sym flag i)

  function_stays : (before : List Item) (scope : Scope) (f : Fun) (name : List ℕ) (known : Known)
      → IsFlagged name known → function_breaches text before scope f ≡ []
      → scope.inner name ≡ Some known → (with_function text f scope).inner name ≡ Some known
  function_stays before scope f name known flag h here =
      let again : bytes_eq f.name name ≡ true → known_function f ≡ known = λ e.
      let one = same_bytes f.name name e in
      let found : scope.inner f.name ≡ Some known = ap scope.inner one ∙ here in
      let right = subst (λ o. again_breaches o (result_shape f) (parameter_shapes f.parameters) f.place ≡ []) found (nil_left _ _ h) in
      ap (λ n. FunctionOf (result_shape f) (parameter_shapes f.parameters) (is_defined text n)) one
      ∙ same_again name known (result_shape f) (parameter_shapes f.parameters) f.place flag right in
      bound_stays (bytes_eq f.name name) (known_function f) (scope.inner name) known again here

  part_stays : (before : List Item) (scope : Scope) (p : Item) (name : List ℕ) (known : Known)
      → IsFlagged name known → part_breaches text before scope p ≡ []
      → scope.inner name ≡ Some known → (behind_part text p scope).inner name ≡ Some known
  part_stays before scope (item.Vars keep ds) name known flag h here = declarators_stay ds scope name known h here
  part_stays before scope (item.Fun f) name known flag h here = function_stays before scope f name known flag h here

  pub stays_known : (ps before : List Item) (scope : Scope) (name : List ℕ) (known : Known)
      → IsFlagged name known → parts_breaches text before scope ps ≡ []
      → scope.inner name ≡ Some known → (behind_parts ps scope).inner name ≡ Some known
  stays_known [] before scope name known flag h here = here
  stays_known (p ∷ ps) before scope name known flag h here =
      stays_known ps (before ++ p ∷ []) (behind_part text p scope) name known flag (nil_right (part_breaches text before scope p) _ h)
      (part_stays before scope p name known flag (nil_left _ _ h) here)
