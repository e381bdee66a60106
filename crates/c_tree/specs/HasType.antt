-- The typing rules as a relation, one constructor a rule (C11 6.5).
use Rattle.std.specs.Prelude.{Bool, ◌≡◌, ℕ, true, false, List, [], ◌∷◌, Some, None}
use Rattle.c_tree.specs.declared.operator.Binary.{Binary}
use Rattle.c_tree.specs.declared.operator.Group.{Group}
use Rattle.c_tree.specs.declared.operator.Group.TheVariants as by
use Rattle.c_tree.specs.declared.operator.Unary.{Unary}
use Rattle.c_tree.specs.declared.operator.Unary.TheVariants as unary
use Rattle.c_tree.specs.declared.operator.Step.{Step}
use Rattle.c_tree.specs.declared.place.Place.{Place}
use Rattle.c_tree.specs.declared.tree.Callee.{Callee}
use Rattle.c_tree.specs.Groups.{group, is_logic, is_sum}
use Rattle.c_tree.specs.Ty.{Ty}
use Rattle.c_tree.specs.Ty as ty
use Rattle.c_tree.specs.Expr.{Expr, Exprs}
use Rattle.c_tree.specs.Expr as expr
use Rattle.c_tree.specs.Scope.{ObjectOf, FunctionOf, Scope, look}
use Rattle.c_tree.specs.Shapes.{is_integer, is_scalar, is_void, decayed, promoted, common}
use Rattle.c_tree.specs.Rules.{is_nought, is_place, takes}
use Rattle.c_tree.specs.Typing.{called}

-- `+ - ~`
pub data IsSign : Unary → Type 0 where
  PlusSign : IsSign unary.Plus
  MinusSign : IsSign unary.Minus
  FlipSign : IsSign unary.Flip

-- groups whose operators on two integers give what both are converted to
pub data IsArithmetic : Group → Type 0 where
  ByBitOr : IsArithmetic by.BitOr
  ByBitXor : IsArithmetic by.BitXor
  ByBitAnd : IsArithmetic by.BitAnd
  BySum : IsArithmetic by.Sum
  ByDifference : IsArithmetic by.Difference
  ByProduct : IsArithmetic by.Product

mutual
  -- the type of an expression as it stands
  pub data HasType : Scope → Expr → Ty → Type 0 where
    OfName : (scope : Scope) (name : List ℕ) (at : Place) (t : Ty)
        → look scope name ≡ Some (ObjectOf t) → HasType scope (expr.Name name at) t
    OfNumber : (scope : Scope) (t : Ty) (n : ℕ) (at : Place) → HasType scope (expr.Number t n at) t
    OfCharacter : (scope : Scope) (code : ℕ) (at : Place)
        → HasType scope (expr.Character code at) ty.Int
    OfEof : (scope : Scope) (at : Place) → HasType scope (expr.Eof at) ty.Int
    OfSign : (scope : Scope) (op : Unary) (a : Expr) (at : Place) (t : Ty) → IsSign op
        → HasValue scope a t → is_integer t ≡ true → HasType scope (expr.Unary op a at) (promoted t)
    OfNot : (scope : Scope) (a : Expr) (at : Place) (t : Ty) → HasValue scope a t
        → is_scalar t ≡ true → HasType scope (expr.Unary unary.Not a at) ty.Int
    OfContents : (scope : Scope) (a : Expr) (at : Place) (t : Ty) → HasValue scope a (ty.Pointer t)
        → HasType scope (expr.Unary unary.At a at) t
    OfAddress : (scope : Scope) (a : Expr) (at : Place) (t : Ty) → is_place a ≡ true
        → HasType scope a t → HasType scope (expr.Unary unary.Address a at) (ty.Pointer t)
    OfStep : (scope : Scope) (how : Step) (a : Expr) (at : Place) (t : Ty) → is_place a ≡ true
        → HasType scope a t → is_scalar t ≡ true → HasType scope (expr.Step how a at) t
    OfCast : (scope : Scope) (to : Ty) (a : Expr) (at : Place) (t : Ty) → is_integer to ≡ true
        → HasValue scope a t → is_integer t ≡ true → HasType scope (expr.Cast to a at) to
    OfArithmetic : (scope : Scope) (op : Binary) (a b : Expr) (at : Place) (t u : Ty)
        → IsArithmetic (group op) → HasValue scope a t → HasValue scope b u → is_integer t ≡ true
        → is_integer u ≡ true → HasType scope (expr.Binary op a b at) (common t u)
    OfShift : (scope : Scope) (op : Binary) (a b : Expr) (at : Place) (t u : Ty) → group op ≡ by.Shift
        → HasValue scope a t → HasValue scope b u → is_integer t ≡ true → is_integer u ≡ true
        → HasType scope (expr.Binary op a b at) (promoted t)
    OfPointerPlus : (scope : Scope) (op : Binary) (a b : Expr) (at : Place) (t u : Ty)
        → group op ≡ by.Sum → HasValue scope a (ty.Pointer t) → HasValue scope b u → is_integer u ≡ true
        → HasType scope (expr.Binary op a b at) (ty.Pointer t)
    OfPlusPointer : (scope : Scope) (op : Binary) (a b : Expr) (at : Place) (t u : Ty)
        → group op ≡ by.Sum → HasValue scope a t
        → HasValue scope b (ty.Pointer u) → is_integer t ≡ true
        → HasType scope (expr.Binary op a b at) (ty.Pointer u)
    OfPointerMinus : (scope : Scope) (op : Binary) (a b : Expr) (at : Place) (t u : Ty)
        → group op ≡ by.Difference → HasValue scope a (ty.Pointer t) → HasValue scope b u → is_integer u ≡ true
        → HasType scope (expr.Binary op a b at) (ty.Pointer t)
    OfDistance : (scope : Scope) (op : Binary) (a b : Expr) (at : Place) (t : Ty)
        → group op ≡ by.Difference → HasValue scope a (ty.Pointer t) → HasValue scope b (ty.Pointer t)
        → HasType scope (expr.Binary op a b at) ty.Int
    OfOrder : (scope : Scope) (op : Binary) (a b : Expr) (at : Place) (t u : Ty) → group op ≡ by.Order
        → HasValue scope a t → HasValue scope b u → is_integer t ≡ true → is_integer u ≡ true
        → HasType scope (expr.Binary op a b at) ty.Int
    OfPointerOrder : (scope : Scope) (op : Binary) (a b : Expr) (at : Place) (t : Ty) → group op ≡ by.Order
        → HasValue scope a (ty.Pointer t) → HasValue scope b (ty.Pointer t)
        → HasType scope (expr.Binary op a b at) ty.Int
    OfEquality : (scope : Scope) (op : Binary) (a b : Expr) (at : Place) (t u : Ty) → group op ≡ by.Equality
        → HasValue scope a t → HasValue scope b u → is_integer t ≡ true → is_integer u ≡ true
        → HasType scope (expr.Binary op a b at) ty.Int
    OfPointerEquality : (scope : Scope) (op : Binary) (a b : Expr) (at : Place) (t : Ty)
        → group op ≡ by.Equality → HasValue scope a (ty.Pointer t) → HasValue scope b (ty.Pointer t)
        → HasType scope (expr.Binary op a b at) ty.Int
    OfEqualityNought : (scope : Scope) (op : Binary) (a b : Expr) (at : Place) (t : Ty)
        → group op ≡ by.Equality → HasValue scope a (ty.Pointer t) → is_nought b ≡ true
        → HasType scope (expr.Binary op a b at) ty.Int
    OfNoughtEquality : (scope : Scope) (op : Binary) (a b : Expr) (at : Place) (u : Ty)
        → group op ≡ by.Equality → is_nought a ≡ true → HasValue scope b (ty.Pointer u)
        → HasType scope (expr.Binary op a b at) ty.Int
    OfLogic : (scope : Scope) (op : Binary) (a b : Expr) (at : Place) (t u : Ty) → is_logic (group op) ≡ true
        → HasValue scope a t → HasValue scope b u → is_scalar t ≡ true → is_scalar u ≡ true
        → HasType scope (expr.Binary op a b at) ty.Int
    OfConditional : (scope : Scope) (c a b : Expr) (at : Place) (v t u : Ty) → HasValue scope c v
        → is_scalar v ≡ true → HasValue scope a t → HasValue scope b u → is_integer t ≡ true
        → is_integer u ≡ true → HasType scope (expr.Conditional c a b at) (common t u)
    OfPointerConditional : (scope : Scope) (c a b : Expr) (at : Place) (v t : Ty)
        → HasValue scope c v → is_scalar v ≡ true → HasValue scope a (ty.Pointer t)
        → HasValue scope b (ty.Pointer t) → HasType scope (expr.Conditional c a b at) (ty.Pointer t)
    OfConditionalNought : (scope : Scope) (c a b : Expr) (at : Place) (v t : Ty)
        → HasValue scope c v → is_scalar v ≡ true → HasValue scope a (ty.Pointer t)
        → is_nought b ≡ true → HasType scope (expr.Conditional c a b at) (ty.Pointer t)
    OfNoughtConditional : (scope : Scope) (c a b : Expr) (at : Place) (v u : Ty)
        → HasValue scope c v → is_scalar v ≡ true → is_nought a ≡ true
        → HasValue scope b (ty.Pointer u) → HasType scope (expr.Conditional c a b at) (ty.Pointer u)
    OfAssign : (scope : Scope) (a b : Expr) (at : Place) (t u : Ty) → is_place a ≡ true
        → HasType scope a t → HasValue scope b u → takes t (is_nought b) u ≡ true
        → HasType scope (expr.Assign None a b at) t
    OfIntegerUpdate : (scope : Scope) (op : Binary) (a b : Expr) (at : Place) (t u : Ty)
        → is_place a ≡ true → HasType scope a t → is_integer t ≡ true → HasValue scope b u
        → is_integer u ≡ true → HasType scope (expr.Assign (Some op) a b at) t
    OfPointerUpdate : (scope : Scope) (op : Binary) (a b : Expr) (at : Place) (t u : Ty)
        → is_sum (group op) ≡ true → is_place a ≡ true → HasType scope a (ty.Pointer t)
        → HasValue scope b u → is_integer u ≡ true
        → HasType scope (expr.Assign (Some op) a b at) (ty.Pointer t)
    OfIndex : (scope : Scope) (a b : Expr) (at : Place) (t u : Ty)
        → HasValue scope a (ty.Pointer t) → HasValue scope b u → is_integer u ≡ true
        → HasType scope (expr.Index a b at) t
    OfIndexTurned : (scope : Scope) (a b : Expr) (at : Place) (t u : Ty) → HasValue scope a t
        → is_integer t ≡ true → HasValue scope b (ty.Pointer u)
        → HasType scope (expr.Index a b at) u
    OfCall : (scope : Scope) (name : Callee) (all : Exprs) (at : Place) (t : Ty) (ps : List Ty)
        (defined : Bool) → called scope name ≡ Some (FunctionOf t ps defined) → is_void t ≡ false
        → AreTaken scope ps all → HasType scope (expr.Call name all at) t

  -- the type of its value, where an array is a pointer to its first element
  pub data HasValue : Scope → Expr → Ty → Type 0 where
    ValueOf : (scope : Scope) (a : Expr) (t : Ty) → HasType scope a t → HasValue scope a (decayed t)

  -- arguments that the parameters take, one each
  pub data AreTaken : Scope → List Ty → Exprs → Type 0 where
    NoneTaken : (scope : Scope) → AreTaken scope [] expr.NoMore
    OneTaken : (scope : Scope) (to : Ty) (ps : List Ty) (a : Expr) (rest : Exprs) (u : Ty)
        → HasValue scope a u → takes to (is_nought a) u ≡ true → AreTaken scope ps rest
        → AreTaken scope (to ∷ ps) (expr.More a rest)
