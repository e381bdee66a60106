-- The names that the checker knows stand for the same in the meaning, and an expression without a breach has the same type there.
use Rattle.std.proofs.Common.{◌≡◌, ℕ, length, Bool, true, false, List, [], ◌∷◌, ◌++◌, Option, Some, None, refl, ap, sym, subst, ◌∙◌}
use Rattle.std.specs.Prelude.{◌≢◌, ◌&&◌, bytes_eq, option_map, if◌then◌else◌}
use Rattle.c_tree.specs.declared.usage.Use.{Use}
use Rattle.c_tree.specs.declared.usage.Use.TheVariants.{Value}
use Rattle.c_tree.specs.declared.breach.Broken.TheVariants.{Mismatch, Unknown}
use Rattle.c_tree.specs.declared.place.Place.{Place}
use Rattle.c_tree.specs.declared.tree.Callee.{Callee}
use Rattle.c_tree.specs.declared.tree.Callee.TheVariants as callee
use Rattle.c_tree.specs.Ty.{Ty}
use Rattle.c_tree.specs.Expr.{Expr, Exprs}
use Rattle.c_tree.specs.Expr as expr
use Rattle.c_tree.specs.Scope.{Known, ObjectOf, FunctionOf, Frame, Scope, otherwise, look, look_outer, declared, entered}
use Rattle.c_tree.specs.Rules.{is_nought, is_place, where_right, binary_rule, conditional_rule, index_rule, assign_rule, step_rule, cast_rule}
use Rattle.c_tree.specs.Typing.{type_at, all_taken, object, called, one, both, unary_type, is_test, parameters_of, result_of, others, takes_first}
use Rattle.c_tree.specs.Breaches.{breaches, breaches_in, name_breaches, call_breaches, same_count, all_possible}
use Rattle.c_tree.proofs.NoBreach.{nil_left, nil_right, holds, never}
use Rattle.c_semantics.specs.declared.home.Home.{Home}
use Rattle.c_semantics.specs.declared.home.Home.TheVariants.{Nowhere}
use Rattle.c_semantics.specs.Names.{Definition, Named, Variable as VariableNamed, Routine, Names, with_name, known, types}
use Rattle.c_semantics.specs.Evaluated.{IsDefinedTaking}

pub record IsVariable (t : Ty) (named : Option Named) : Type 0 where
  pub home : Home
  pub is : named ≡ Some (VariableNamed t home)
  pub somewhere : home ≢ Nowhere

-- where the text defines the function, its definition takes the parameters
pub record IsRoutine (t : Ty) (ps : List Ty) (defined : Bool) (named : Option Named) : Type 0 where
  pub found : Option Definition
  pub is : named ≡ Some (Routine t ps found)
  pub takes : defined ≡ true → IsDefinedTaking (length ps) found

-- what the checker knows of a name, and what the name stands for
abbrev pub Stands : Option Known → Option Named → Type 0
Stands None named = Unit {0}
Stands (Some (ObjectOf t)) named = IsVariable t named
Stands (Some (FunctionOf t ps defined)) named = IsRoutine t ps defined named

pub record SameNames (scope : Scope) (names : Names) : Type 0 where
  pub stands : (name : List ℕ) → Stands (look scope name) (names name)

-- A name more, and a block more.

hidden : (b : Bool) (k : Known) (n : Named) (inner outer : Option Known) (named : Option Named)
    → Stands (Some k) (Some n) → Stands (otherwise inner outer) named
    → Stands (otherwise (if b then Some k else inner) outer) (if b then Some n else named)
hidden true k n inner outer named new old = new
hidden false k n inner outer named new old = old

pub same_with : {scope : Scope} {names : Names} (name : List ℕ) (t : Ty) (home : Home)
    → home ≢ Nowhere → SameNames scope names
    → SameNames (declared name (ObjectOf t) scope) (with_name name (VariableNamed t home) names)
same_with {scope} {names} name t home somewhere s = record {
  stands = λ other.
      let new : IsVariable t (Some (VariableNamed t home)) = record { home = home; is = refl; somewhere = somewhere } in
      hidden (bytes_eq name other) (ObjectOf t) (VariableNamed t home) (scope.inner other) (look_outer scope.outer other) (names other) new (s.stands other);
}

otherwise_assoc : (a b c : Option Known) → otherwise (otherwise a b) c ≡ otherwise a (otherwise b c)
otherwise_assoc None b c = refl
otherwise_assoc (Some x) b c = refl

look_pushed : (frames : List Frame) (frame : Frame) (name : List ℕ)
    → look_outer (frames ++ frame ∷ []) name ≡ otherwise (frame name) (look_outer frames name)
look_pushed [] frame name = otherwise_none (frame name)
  where
    otherwise_none : (o : Option Known) → otherwise None o ≡ otherwise o None
    otherwise_none None = refl
    otherwise_none (Some x) = refl
look_pushed (f ∷ frames) frame name =
    ap (λ o. otherwise o (f name)) (look_pushed frames frame name) ∙ otherwise_assoc (frame name) (look_outer frames name) (f name)

pub same_entered : {scope : Scope} {names : Names} → SameNames scope names
    → SameNames (entered scope) names
same_entered {scope} {names} s = record {
  stands = λ name. subst (λ k. Stands k (names name)) (sym (look_pushed scope.outer scope.inner name)) (s.stands name);
}

-- Expressions without a breach.

same_object : (k : Option Known) (named : Option Named) (at : Place) → Stands k named
    → name_breaches k at ≡ [] → object (otherwise (option_map known named) None) ≡ object k
same_object None named at s h = never Unknown at h
same_object (Some (ObjectOf t)) named at s h = ap (λ o. object (otherwise (option_map known o) None)) s.is
same_object (Some (FunctionOf t ps d)) named at s h = never Mismatch at h

pub is_defined_call : (t : Ty) (ps : List Ty) (d : Bool) (used : Use) (counts fits : Bool) (at : Place)
    → call_breaches used (Some (FunctionOf t ps d)) counts fits at ≡ [] → d ≡ true
is_defined_call t ps d used counts fits at h = holds d Unknown at (nil_left _ _ h)

same_routine : (k : Option Known) (named : Option Named) (used : Use) (counts fits : Bool) (at : Place)
    → Stands k named → call_breaches used k counts fits at ≡ []
    → otherwise (option_map known named) None ≡ k
same_routine None named used counts fits at s h = never Unknown at h
same_routine (Some (ObjectOf t)) named used counts fits at s h = never Mismatch at h
same_routine (Some (FunctionOf t ps d)) named used counts fits at s h =
    ap (λ o. otherwise (option_map known o) None) s.is ∙ ap (λ b. Some (FunctionOf t ps b)) (sym (is_defined_call t ps d used counts fits at h))

module _ (scope : Scope) (names : Names) (s : SameNames scope names) where
  same_called : (c : Callee) (used : Use) (counts fits : Bool) (at : Place)
      → call_breaches used (called scope c) counts fits at ≡ []
      → called (types names) c ≡ called scope c
  same_called (callee.Name name) used counts fits at h = same_routine (look scope name) (names name) used counts fits at (s.stands name) h
  same_called callee.Getchar used counts fits at h = refl
  same_called callee.Putchar used counts fits at h = refl

  mutual
    pub same_type : (used : Use) (e : Expr) → breaches scope used e ≡ []
        → type_at (types names) e ≡ type_at scope e
    same_type used (expr.Name name at) h = same_object (look scope name) (names name) at (s.stands name) h
    same_type used (expr.Number t n at) h = refl
    same_type used (expr.Character code at) h = refl
    same_type used (expr.Eof at) h = refl
    same_type used (expr.Unary op a at) h = ap (unary_type op (is_place a)) (same_type Value a (nil_left _ _ h))
    same_type used (expr.Step how a at) h = ap (λ t. where_right (is_place a) (one step_rule t)) (same_type Value a (nil_left _ _ h))
    same_type used (expr.Cast to a at) h = ap (one (cast_rule to)) (same_type Value a (nil_left _ _ h))
    same_type used (expr.Binary op a b at) h =
        let rule = binary_rule op (is_nought a) (is_nought b) in
        let two = nil_right (breaches scope Value a) _ h in
        λ i. both rule (same_type Value a (nil_left _ _ h) i) (same_type Value b (nil_left _ _ two) i)
    same_type used (expr.Conditional c a b at) h =
        let rule = conditional_rule (is_nought a) (is_nought b) in
        let two = nil_right (breaches scope Value c) _ h in
        let three = nil_right (breaches scope Value a) _ two in
        λ i. where_right (is_test (same_type Value c (nil_left _ _ h) i))
        (both rule (same_type Value a (nil_left _ _ two) i) (same_type Value b (nil_left _ _ three) i))
    same_type used (expr.Assign how a b at) h =
        let rule = assign_rule how (is_nought b) in
        let two = nil_right (breaches scope Value a) _ h in
        λ i. where_right (is_place a) (both rule (same_type Value a (nil_left _ _ h) i) (same_type Value b (nil_left _ _ two) i))
    same_type used (expr.Index a b at) h =
        let two = nil_right (breaches scope Value a) _ h in
        λ i. both index_rule (same_type Value a (nil_left _ _ h) i) (same_type Value b (nil_left _ _ two) i)
    same_type used (expr.Call c all at) h =
        let k = called scope c in
        let own = same_called c used (same_count (parameters_of k) all) (all_possible scope (parameters_of k) all) at (nil_right (breaches_in scope all) _ h) in
        ap (λ found. where_right (all_taken (types names) (parameters_of found) all) (result_of found)) own
        ∙ ap (λ b. where_right b (result_of k)) (same_taken (parameters_of k) all (nil_left _ _ h))

    same_taken : (ps : List Ty) (all : Exprs) → breaches_in scope all ≡ []
        → all_taken (types names) ps all ≡ all_taken scope ps all
    same_taken ps expr.NoMore h = refl
    same_taken ps (expr.More a rest) h =
        let own = same_type Value a (nil_left _ _ h) in
        let next = same_taken (others ps) rest (nil_right (breaches scope Value a) _ h) in
        λ i. takes_first ps (is_nought a) (own i) && next i
