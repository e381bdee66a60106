-- An expression without a breach can be evaluated.
use Rattle.std.proofs.Common.{◌≡◌, suc, length, Bool, true, false, not, List, [], ◌∷◌, Option, Some, None, is_some, refl, ap, sym, subst, ◌∙◌}
use Rattle.std.specs.Prelude.{◌≢◌, ◌&&◌}
use Rattle.c_tree.specs.declared.usage.Use.{Use}
use Rattle.c_tree.specs.declared.usage.Use.TheVariants.{Value, Discarded}
use Rattle.c_tree.specs.declared.breach.Broken.TheVariants.{Mismatch, NotAPlace, Unknown, Arguments}
use Rattle.c_tree.specs.declared.operator.Unary.{Unary}
use Rattle.c_tree.specs.declared.operator.Unary.TheVariants as unary
use Rattle.c_tree.specs.declared.place.Place.{Place}
use Rattle.c_tree.specs.declared.tree.Callee.{Callee}
use Rattle.c_tree.specs.declared.tree.Callee.TheVariants as callee
use Rattle.c_tree.specs.Ty.{Ty}
use Rattle.c_tree.specs.Ty as ty
use Rattle.c_tree.specs.Expr.{Expr, Exprs}
use Rattle.c_tree.specs.Expr as expr
use Rattle.c_tree.specs.Scope.{Known, ObjectOf, FunctionOf, Scope, look}
use Rattle.c_tree.specs.Shapes.{is_void}
use Rattle.c_tree.specs.Breach.{unless}
use Rattle.c_tree.specs.Rules.{is_place}
use Rattle.c_tree.specs.Typing.{called, parameters_of, is_none_left, others, type_at}
use Rattle.c_tree.specs.Breaches.{is_used, breaches, breaches_in, name_breaches, unary_breaches, passing_breaches, call_breaches, same_count}
use Rattle.c_tree.proofs.NoBreach.{nil_left, nil_right, holds, never, left_true, right_true, is_false}
use Rattle.c_tree.proofs.Typed.{place_right, typed}
use Rattle.c_semantics.specs.declared.home.Home.TheVariants.{Nowhere}
use Rattle.c_semantics.specs.Names.{Named, Names, home_of, definition_of}
use Rattle.c_semantics.specs.Evaluated.{IsDefinedTaking, count_of_arguments, IsOperand, IsTyped, Takes, IsEvaluable, IsAddressable, AreEvaluable, IsEvaluableUnused}
use Rattle.c_semantics.proofs.SameNames.{Stands, SameNames, is_defined_call, same_type}

somewhere : (k : Option Known) (named : Option Named) (at : Place) → Stands k named
    → name_breaches k at ≡ [] → home_of named ≢ Nowhere
somewhere None named at s h = never Unknown at h
somewhere (Some (ObjectOf t)) named at s h = λ e. s.somewhere (sym (ap home_of s.is) ∙ e)
somewhere (Some (FunctionOf t ps d)) named at s h = never Mismatch at h

-- the operand of `&` is a place
operand : {Value Address : Type 0} (op : Unary) (place : Bool) (t : Option Ty) (at : Place)
    → unary_breaches op place t at ≡ [] → Value → (place ≡ true → Address)
    → IsOperand op Value Address
operand unary.Address place t at h value address = address (holds place NotAPlace at h)
operand unary.Plus place t at h value address = value
operand unary.Minus place t at h value address = value
operand unary.Not place t at h value address = value
operand unary.Flip place t at h value address = value
operand unary.At place t at h value address = value

counts_right : (void_used counts fits : Bool) (at : Place)
    → passing_breaches void_used counts fits at ≡ [] → counts ≡ true
counts_right true counts fits at h = never Mismatch at h
counts_right false true fits at h = refl
counts_right false false fits at h = never Arguments at h

is_none : (ps : List Ty) → is_none_left ps ≡ true → length ps ≡ 0
is_none [] h = refl
is_none (p ∷ ps) h = cc

count_more : (ps : List Ty) → is_none_left ps ≡ false → length ps ≡ suc (length (others ps))
count_more [] h = cc
count_more (p ∷ ps) h = refl

same_length : (ps : List Ty) (all : Exprs) → same_count ps all ≡ true
    → length ps ≡ count_of_arguments all
same_length ps expr.NoMore h = is_none ps h
same_length ps (expr.More a rest) h =
    count_more ps (is_false _ (left_true _ _ h)) ∙ ap suc (same_length (others ps) rest (right_true (not (is_none_left ps)) _ h))

takes_arguments : (k : Option Known) (named : Option Named) (all : Exprs) (used : Use) (fits : Bool)
    (at : Place)
    → Stands k named
    → call_breaches used k (same_count (parameters_of k) all) fits at ≡ []
    → IsDefinedTaking (count_of_arguments all) (definition_of named)
takes_arguments None named all used fits at s h = never Unknown at h
takes_arguments (Some (ObjectOf t)) named all used fits at s h = never Mismatch at h
takes_arguments (Some (FunctionOf t ps d)) named all used fits at s h =
    let counts = counts_right (is_void t && is_used used) (same_count ps all) fits at (nil_right (unless d Unknown at) _ h) in
    let takes = s.takes (is_defined_call t ps d used (same_count ps all) fits at h) in
    subst (λ o. IsDefinedTaking (count_of_arguments all) (definition_of o)) (sym s.is)
    (subst (λ n. IsDefinedTaking n s.found) (same_length ps all counts) takes)

module _ (scope : Scope) (names : Names) (s : SameNames scope names) where
  callable : (c : Callee) (all : Exprs) (used : Use) (fits : Bool) (at : Place)
      → call_breaches used (called scope c) (same_count (parameters_of (called scope c)) all) fits at ≡ []
      → Takes names c all
  callable (callee.Name name) all used fits at h = takes_arguments (look scope name) (names name) all used fits at (s.stands name) h
  callable callee.Getchar all used fits at h = sym (same_length [] all (counts_right false (same_count [] all) fits at h))
  callable callee.Putchar all used fits at h = sym (same_length (ty.Int ∷ []) all (counts_right false (same_count (ty.Int ∷ []) all) fits at h))

  is_typed : (e : Expr) → breaches scope Value e ≡ [] → IsTyped names e
  is_typed e h = ap is_some (same_type scope names s Value e h) ∙ typed scope e h

  mutual
    pub evaluable : (e : Expr) → breaches scope Value e ≡ [] → IsEvaluable names e
    evaluable (expr.Name name at) h = (is_typed (expr.Name name at) h, somewhere (look scope name) (names name) at (s.stands name) h)
    evaluable (expr.Number t n at) h = tt
    evaluable (expr.Character code at) h = tt
    evaluable (expr.Eof at) h = tt
    evaluable (expr.Unary op a at) h =
        let own = operand op (is_place a) (type_at scope a) at (nil_right (breaches scope Value a) _ h) in
        (is_typed (expr.Unary op a at) h, own (evaluable a (nil_left _ _ h)) (λ place. addressable a (nil_left _ _ h) place))
    evaluable (expr.Step how a at) h =
        let place = place_right (is_place a) _ at (nil_right (breaches scope Value a) _ h) in
        (is_typed (expr.Step how a at) h, addressable a (nil_left _ _ h) place)
    evaluable (expr.Cast to a at) h = (is_typed (expr.Cast to a at) h, evaluable a (nil_left _ _ h))
    evaluable (expr.Binary op a b at) h =
        let two = nil_right (breaches scope Value a) _ h in
        (is_typed (expr.Binary op a b at) h, evaluable a (nil_left _ _ h), evaluable b (nil_left _ _ two))
    evaluable (expr.Conditional c a b at) h =
        let two = nil_right (breaches scope Value c) _ h in
        let three = nil_right (breaches scope Value a) _ two in
        (is_typed (expr.Conditional c a b at) h, evaluable c (nil_left _ _ h), evaluable a (nil_left _ _ two), evaluable b (nil_left _ _ three))
    evaluable (expr.Assign how a b at) h =
        let two = nil_right (breaches scope Value a) _ h in
        let place = place_right (is_place a) _ at (nil_right (breaches scope Value b) _ two) in
        (is_typed (expr.Assign how a b at) h, addressable a (nil_left _ _ h) place, evaluable b (nil_left _ _ two))
    evaluable (expr.Index a b at) h =
        let two = nil_right (breaches scope Value a) _ h in
        (is_typed (expr.Index a b at) h, evaluable a (nil_left _ _ h), evaluable b (nil_left _ _ two))
    evaluable (expr.Call c all at) h =
        let own = nil_right (breaches_in scope all) _ h in
        (is_typed (expr.Call c all at) h, are_evaluable all (nil_left _ _ h), callable c all Value _ at own)

    addressable : (e : Expr) → breaches scope Value e ≡ [] → is_place e ≡ true
        → IsAddressable names e
    addressable (expr.Name name at) h p = (is_typed (expr.Name name at) h, somewhere (look scope name) (names name) at (s.stands name) h)
    addressable (expr.Unary unary.At a at) h p = (is_typed (expr.Unary unary.At a at) h, evaluable a (nil_left _ _ h))
    addressable (expr.Index a b at) h p =
        let two = nil_right (breaches scope Value a) _ h in
        (is_typed (expr.Index a b at) h, evaluable a (nil_left _ _ h), evaluable b (nil_left _ _ two))
    addressable e h p = absurd cc

    pub are_evaluable : (all : Exprs) → breaches_in scope all ≡ [] → AreEvaluable names all
    are_evaluable expr.NoMore h = tt
    are_evaluable (expr.More a rest) h = (evaluable a (nil_left _ _ h), are_evaluable rest (nil_right (breaches scope Value a) _ h))

  pub evaluable_unused : (e : Expr) → breaches scope Discarded e ≡ [] → IsEvaluableUnused names e
  evaluable_unused (expr.Call c all at) h = (are_evaluable all (nil_left _ _ h), callable c all Discarded _ at (nil_right (breaches_in scope all) _ h))
  evaluable_unused (expr.Name name at) h = evaluable (expr.Name name at) h
  evaluable_unused (expr.Number t n at) h = tt
  evaluable_unused (expr.Character code at) h = tt
  evaluable_unused (expr.Eof at) h = tt
  evaluable_unused (expr.Unary op a at) h = evaluable (expr.Unary op a at) h
  evaluable_unused (expr.Step how a at) h = evaluable (expr.Step how a at) h
  evaluable_unused (expr.Cast to a at) h = evaluable (expr.Cast to a at) h
  evaluable_unused (expr.Binary op a b at) h = evaluable (expr.Binary op a b at) h
  evaluable_unused (expr.Conditional c a b at) h = evaluable (expr.Conditional c a b at) h
  evaluable_unused (expr.Assign how a b at) h = evaluable (expr.Assign how a b at) h
  evaluable_unused (expr.Index a b at) h = evaluable (expr.Index a b at) h
