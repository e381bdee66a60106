-- An expression without a breach has a type.
use Rattle.std.proofs.Common.{◌≡◌, Bool, true, false, List, [], ◌∷◌, Option, Some, None, is_some, refl, subst, ◌&&◌}
use Rattle.c_tree.specs.declared.usage.Use.TheVariants.{Value}
use Rattle.c_tree.specs.declared.operator.Unary.{Unary}
use Rattle.c_tree.specs.declared.operator.Unary.TheVariants as unary
use Rattle.c_tree.specs.declared.place.Place.{Place}
use Rattle.c_tree.specs.declared.breach.Broken.TheVariants.{Mismatch, Unknown}
use Rattle.c_tree.specs.Ty.{Ty}
use Rattle.c_tree.specs.Ty as ty
use Rattle.c_tree.specs.Expr.{Expr, Exprs}
use Rattle.c_tree.specs.Expr as expr
use Rattle.c_tree.specs.Scope.{Known, ObjectOf, FunctionOf, Scope, look}
use Rattle.c_tree.specs.Shapes.{is_void}
use Rattle.c_tree.specs.Breach.{unless}
use Rattle.c_tree.specs.Rules.{is_nought, is_place, where_right, step_rule, cast_rule, binary_rule, conditional_rule, index_rule, assign_rule}
use Rattle.c_tree.specs.Typing.{type_at, all_taken, object, called, one, both, unary_type, is_test, parameters_of, result_of, is_none_left, others, takes_first}
use Rattle.c_tree.specs.Breaches.{breaches, breaches_in, name_breaches, unary_breaches, place_breaches, passing_breaches, call_breaches, possible_one, possible_both, possible_test, may_take_first, same_count, all_possible}
use Rattle.c_tree.proofs.NoBreach.{nil_left, nil_right, holds, never, left_true, right_true, and_true, is_false}

name_typed : (known : Option Known) (at : Place) → name_breaches known at ≡ []
    → is_some (object known) ≡ true
name_typed None at h = cc
name_typed (Some (ObjectOf t)) at h = refl
name_typed (Some (FunctionOf t ps d)) at h = cc

one_typed : (rule : Ty → Option Ty) (t : Option Ty) → is_some t ≡ true → possible_one rule t ≡ true
    → is_some (one rule t) ≡ true
one_typed rule None s h = cc
one_typed rule (Some t) s h = h

both_typed : (rule : Ty → Ty → Option Ty) (t u : Option Ty) → is_some t ≡ true → is_some u ≡ true
    → possible_both rule t u ≡ true → is_some (both rule t u) ≡ true
both_typed rule None u s r h = cc
both_typed rule (Some t) None s r h = cc
both_typed rule (Some t) (Some u) s r h = h

right_typed : (right : Bool) (t : Option Ty) → right ≡ true → is_some t ≡ true
    → is_some (where_right right t) ≡ true
right_typed true t r s = s
right_typed false t r s = cc

test_typed : (c : Option Ty) → is_some c ≡ true → possible_test c ≡ true → is_test c ≡ true
test_typed None s h = cc
test_typed (Some c) s h = h

unary_typed : (op : Unary) (place : Bool) (t : Option Ty) (at : Place) → is_some t ≡ true
    → unary_breaches op place t at ≡ [] → is_some (unary_type op place t) ≡ true
unary_typed op place None at s h = cc
unary_typed unary.Address true (Some t) at s h = refl
unary_typed unary.Address false (Some t) at s h = cc
unary_typed unary.Plus place (Some t) at s h = holds _ _ _ h
unary_typed unary.Minus place (Some t) at s h = holds _ _ _ h
unary_typed unary.Not place (Some t) at s h = holds _ _ _ h
unary_typed unary.Flip place (Some t) at s h = holds _ _ _ h
unary_typed unary.At place (Some t) at s h = holds _ _ _ h

-- a node that needs a place has one, and its rule is met
pub place_right : (place possible : Bool) (at : Place) → place_breaches place possible at ≡ []
    → place ≡ true
place_right true possible at h = refl
place_right false possible at h = cc

place_possible : (place possible : Bool) (at : Place) → place_breaches place possible at ≡ []
    → possible ≡ true
place_possible true possible at h = holds _ _ _ h
place_possible false possible at h = cc

takes_typed : (ps : List Ty) (n : Bool) (t : Option Ty) → is_none_left ps ≡ false
    → is_some t ≡ true → may_take_first ps n t ≡ true → takes_first ps n t ≡ true
takes_typed [] n t e s h = cc
takes_typed (to ∷ more) n t e s h = both_typed (assign_rule None n) (Some to) t refl s h

-- a call without a breach counts its arguments, and none is refused
counted : (counts fits : Bool) (at : Place) → passing_breaches false counts fits at ≡ []
    → counts ≡ true
counted true fits at h = refl
counted false fits at h = cc

fitting : (counts fits : Bool) (at : Place) → passing_breaches false counts fits at ≡ []
    → fits ≡ true
fitting true fits at h = holds _ _ _ h
fitting false fits at h = cc

value_typed : (t : Ty) (ps : List Ty) (d counts fits b : Bool) (at : Place)
    → passing_breaches (is_void t) counts fits at ≡ [] → (counts ≡ true → fits ≡ true → b ≡ true)
    → is_some (where_right b (result_of (Some (FunctionOf t ps d)))) ≡ true
value_typed ty.Void ps d counts fits b at h k = never Mismatch at h
value_typed ty.Int ps d counts fits b at h k = right_typed b _ (k (counted counts fits at h) (fitting counts fits at h)) refl
value_typed ty.Unsigned ps d counts fits b at h k = right_typed b _ (k (counted counts fits at h) (fitting counts fits at h)) refl
value_typed ty.Char ps d counts fits b at h k = right_typed b _ (k (counted counts fits at h) (fitting counts fits at h)) refl
value_typed (ty.Pointer t) ps d counts fits b at h k = right_typed b _ (k (counted counts fits at h) (fitting counts fits at h)) refl
value_typed (ty.Array t n) ps d counts fits b at h k = right_typed b _ (k (counted counts fits at h) (fitting counts fits at h)) refl

used_void : (t : Ty) → (is_void t && true) ≡ is_void t
used_void ty.Void = refl
used_void t = refl

function_typed : (t : Ty) (ps : List Ty) (d counts fits b : Bool) (at : Place)
    → call_breaches Value (Some (FunctionOf t ps d)) counts fits at ≡ []
    → (counts ≡ true → fits ≡ true → b ≡ true)
    → is_some (where_right b (result_of (Some (FunctionOf t ps d)))) ≡ true
function_typed t ps d counts fits b at h k =
    value_typed t ps d counts fits b at (subst (λ v. passing_breaches v counts fits at ≡ []) (used_void t) (nil_right (unless d Unknown at) _ h)) k

call_typed : (known : Option Known) (counts fits b : Bool) (at : Place)
    → call_breaches Value known counts fits at ≡ [] → (counts ≡ true → fits ≡ true → b ≡ true)
    → is_some (where_right b (result_of known)) ≡ true
call_typed None counts fits b at h k = never Unknown at h
call_typed (Some (ObjectOf t)) counts fits b at h k = never Mismatch at h
call_typed (Some (FunctionOf t ps d)) counts fits b at h k = function_typed t ps d counts fits b at h k

module _ (scope : Scope) where
  mutual
    pub typed : (e : Expr) → breaches scope Value e ≡ [] → is_some (type_at scope e) ≡ true
    typed (expr.Name name at) h = name_typed (look scope name) at h
    typed (expr.Number t n at) h = refl
    typed (expr.Character code at) h = refl
    typed (expr.Eof at) h = refl
    typed (expr.Unary op a at) h = unary_typed op (is_place a) (type_at scope a) at (typed a (nil_left _ _ h)) (nil_right (breaches scope Value a) _ h)
    typed (expr.Step how a at) h =
        let own = nil_right (breaches scope Value a) _ h in
        right_typed (is_place a) _ (place_right _ _ at own) (one_typed step_rule (type_at scope a) (typed a (nil_left _ _ h)) (place_possible _ _ at own))
    typed (expr.Cast to a at) h = one_typed (cast_rule to) (type_at scope a) (typed a (nil_left _ _ h)) (holds _ _ _ (nil_right (breaches scope Value a) _ h))
    typed (expr.Binary op a b at) h =
        let h1 = nil_right (breaches scope Value a) _ h in
        both_typed (binary_rule op (is_nought a) (is_nought b)) (type_at scope a) (type_at scope b) (typed a (nil_left _ _ h)) (typed b (nil_left _ _ h1)) (holds _ _ _ (nil_right (breaches scope Value b) _ h1))
    typed (expr.Conditional c a b at) h =
        let h1 = nil_right (breaches scope Value c) _ h in
        let h2 = nil_right (breaches scope Value a) _ h1 in
        let own = holds _ _ _ (nil_right (breaches scope Value b) _ h2) in
        right_typed (is_test (type_at scope c)) _ (test_typed (type_at scope c) (typed c (nil_left _ _ h)) (left_true _ _ own))
        (both_typed (conditional_rule (is_nought a) (is_nought b)) (type_at scope a) (type_at scope b) (typed a (nil_left _ _ h1)) (typed b (nil_left _ _ h2)) (right_true _ _ own))
    typed (expr.Assign how a b at) h =
        let h1 = nil_right (breaches scope Value a) _ h in
        let own = nil_right (breaches scope Value b) _ h1 in
        right_typed (is_place a) _ (place_right _ _ at own)
        (both_typed (assign_rule how (is_nought b)) (type_at scope a) (type_at scope b) (typed a (nil_left _ _ h)) (typed b (nil_left _ _ h1)) (place_possible _ _ at own))
    typed (expr.Index a b at) h =
        let h1 = nil_right (breaches scope Value a) _ h in
        both_typed index_rule (type_at scope a) (type_at scope b) (typed a (nil_left _ _ h)) (typed b (nil_left _ _ h1)) (holds _ _ _ (nil_right (breaches scope Value b) _ h1))
    typed (expr.Call name all at) h =
        call_typed (called scope name) _ _ _ at (nil_right (breaches_in scope all) _ h) (all_typed (parameters_of (called scope name)) all (nil_left _ _ h))

    pub all_typed : (ps : List Ty) (all : Exprs) → breaches_in scope all ≡ []
        → same_count ps all ≡ true → all_possible scope ps all ≡ true
        → all_taken scope ps all ≡ true
    all_typed ps expr.NoMore h c p = c
    all_typed ps (expr.More a rest) h c p =
        and_true _ _
        (takes_typed ps (is_nought a) (type_at scope a) (is_false _ (left_true _ _ c)) (typed a (nil_left _ _ h)) (left_true _ _ p))
        (all_typed (others ps) rest (nil_right (breaches scope Value a) _ h) (right_true _ _ c) (right_true _ _ p))
