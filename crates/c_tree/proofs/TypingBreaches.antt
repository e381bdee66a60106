-- The breaches of an expression are of the kinds of typing.
use Rattle.std.proofs.Common.{◌≡◌, Bool, true, false, ◌&&◌, List, [], ◌∷◌, ◌++◌, Option, Some, None, refl}
use Rattle.c_tree.specs.declared.usage.Use.{Use}
use Rattle.c_tree.specs.declared.usage.Use.TheVariants.{Value}
use Rattle.c_tree.specs.declared.operator.Unary.{Unary}
use Rattle.c_tree.specs.declared.operator.Unary.TheVariants as unary
use Rattle.c_tree.specs.declared.place.Place.{Place}
use Rattle.c_tree.specs.declared.breach.Breach.{Breach}
use Rattle.c_tree.specs.declared.breach.Broken.{Broken}
use Rattle.c_tree.specs.declared.breach.Broken.TheVariants.{Unknown, Mismatch, NotAPlace}
use Rattle.c_tree.specs.Ty.{Ty}
use Rattle.c_tree.specs.Expr.{Expr, Exprs}
use Rattle.c_tree.specs.Expr as expr
use Rattle.c_tree.specs.Scope.{Known, ObjectOf, FunctionOf, Scope, look}
use Rattle.c_tree.specs.Shapes.{is_void}
use Rattle.c_tree.specs.Breach.{unless, is_typing}
use Rattle.c_tree.specs.Rules.{is_place}
use Rattle.c_tree.specs.Typing.{type_at, called}
use Rattle.c_tree.specs.Breaches.{is_used, breaches, breaches_in, name_breaches, unary_breaches, place_breaches, passing_breaches, call_breaches}
use Rattle.c_tree.proofs.LeastBreach.{HasEach}

pub each-append : (p : Broken → Bool) (xs ys : List Breach) → HasEach p xs → HasEach p ys
    → HasEach p (xs ++ ys)
each-append p [] ys h k = k
each-append p (x ∷ xs) ys h k = (h.0, each-append p xs ys h.1 k)

pub each_unless : (p : Broken → Bool) (right : Bool) (kind : Broken) (at : Place) → p kind ≡ true
    → HasEach p (unless right kind at)
each_unless p true kind at h = tt
each_unless p false kind at h = (h, tt)

name_kinds : (known : Option Known) (at : Place) → HasEach is_typing (name_breaches known at)
name_kinds None at = (refl, tt)
name_kinds (Some (ObjectOf t)) at = tt
name_kinds (Some (FunctionOf t ps d)) at = (refl, tt)

unary_kinds : (op : Unary) (place : Bool) (t : Option Ty) (at : Place)
    → HasEach is_typing (unary_breaches op place t at)
unary_kinds unary.Address place t at = each_unless is_typing place NotAPlace at refl
unary_kinds unary.Plus place t at = each_unless is_typing _ Mismatch at refl
unary_kinds unary.Minus place t at = each_unless is_typing _ Mismatch at refl
unary_kinds unary.Not place t at = each_unless is_typing _ Mismatch at refl
unary_kinds unary.Flip place t at = each_unless is_typing _ Mismatch at refl
unary_kinds unary.At place t at = each_unless is_typing _ Mismatch at refl

place_kinds : (place possible : Bool) (at : Place)
    → HasEach is_typing (place_breaches place possible at)
place_kinds true possible at = each_unless is_typing possible Mismatch at refl
place_kinds false possible at = (refl, tt)

count_kinds : (void counts fits : Bool) (at : Place)
    → HasEach is_typing (passing_breaches void counts fits at)
count_kinds true counts fits at = (refl, tt)
count_kinds false true fits at = each_unless is_typing fits Mismatch at refl
count_kinds false false fits at = (refl, tt)

call_kinds : (used : Use) (known : Option Known) (counts fits : Bool) (at : Place)
    → HasEach is_typing (call_breaches used known counts fits at)
call_kinds used None counts fits at = (refl, tt)
call_kinds used (Some (ObjectOf t)) counts fits at = (refl, tt)
call_kinds used (Some (FunctionOf t ps d)) counts fits at = each-append is_typing (unless d Unknown at) _ (each_unless is_typing d Unknown at refl) (count_kinds (is_void t && is_used used) counts fits at)

module _ (scope : Scope) where
  mutual
    pub typing_kinds : (used : Use) (e : Expr) → HasEach is_typing (breaches scope used e)
    typing_kinds used (expr.Name name at) = name_kinds (look scope name) at
    typing_kinds used (expr.Number t n at) = tt
    typing_kinds used (expr.Character code at) = tt
    typing_kinds used (expr.Eof at) = tt
    typing_kinds used (expr.Unary op a at) = each-append is_typing (breaches scope Value a) _ (typing_kinds Value a) (unary_kinds op (is_place a) (type_at scope a) at)
    typing_kinds used (expr.Step how a at) = each-append is_typing (breaches scope Value a) _ (typing_kinds Value a) (place_kinds (is_place a) _ at)
    typing_kinds used (expr.Cast to a at) = each-append is_typing (breaches scope Value a) _ (typing_kinds Value a) (each_unless is_typing _ Mismatch at refl)
    typing_kinds used (expr.Binary op a b at) = each-append is_typing (breaches scope Value a) _ (typing_kinds Value a) (each-append is_typing (breaches scope Value b) _ (typing_kinds Value b) (each_unless is_typing _ Mismatch at refl))
    typing_kinds used (expr.Conditional c a b at) =
        each-append is_typing (breaches scope Value c) _ (typing_kinds Value c)
        (each-append is_typing (breaches scope Value a) _ (typing_kinds Value a) (each-append is_typing (breaches scope Value b) _ (typing_kinds Value b) (each_unless is_typing _ Mismatch at refl)))
    typing_kinds used (expr.Assign how a b at) = each-append is_typing (breaches scope Value a) _ (typing_kinds Value a) (each-append is_typing (breaches scope Value b) _ (typing_kinds Value b) (place_kinds (is_place a) _ at))
    typing_kinds used (expr.Index a b at) = each-append is_typing (breaches scope Value a) _ (typing_kinds Value a) (each-append is_typing (breaches scope Value b) _ (typing_kinds Value b) (each_unless is_typing _ Mismatch at refl))
    typing_kinds used (expr.Call name all at) = each-append is_typing (breaches_in scope all) _ (all_kinds all) (call_kinds used (called scope name) _ _ at)

    pub all_kinds : (all : Exprs) → HasEach is_typing (breaches_in scope all)
    all_kinds expr.NoMore = tt
    all_kinds (expr.More a rest) = each-append is_typing (breaches scope Value a) _ (typing_kinds Value a) (all_kinds rest)
