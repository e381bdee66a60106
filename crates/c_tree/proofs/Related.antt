-- The relation gives the types that the function gives.
use Rattle.std.proofs.Common.{◌≡◌, ◌==◌, Bool, true, false, ◌&&◌, ◌||◌, List, Option, Some, None, is_some, refl, ap, ap₂, ◌∙◌, arith}
use Rattle.std.specs.Prelude.{option_map}
use Rattle.std.proofs.lemmas.Bool.Decides.{nat_tests}
use Rattle.c_tree.specs.declared.operator.Binary.{Binary}
use Rattle.c_tree.specs.declared.operator.Group.{Group}
use Rattle.c_tree.specs.declared.operator.Group.TheVariants as by
use Rattle.c_tree.specs.declared.operator.Unary.{Unary}
use Rattle.c_tree.specs.declared.operator.Unary.TheVariants as unary
use Rattle.c_tree.specs.Groups.{group, is_logic}
use Rattle.c_tree.specs.Ty.{Ty}
use Rattle.c_tree.specs.Ty as ty
use Rattle.c_tree.specs.Expr.{Expr, Exprs}
use Rattle.c_tree.specs.Expr as expr
use Rattle.c_tree.specs.Scope.{Scope, FunctionOf}
use Rattle.c_tree.specs.Shapes.{same, is_integer, is_pointer, is_scalar, is_void, decayed, promoted, common}
use Rattle.c_tree.specs.Rules.{is_nought, is_place, takes, where_right, group_rule, conditional_value_rule, shift_rule, order_rule, equality_rule, sum_rule, difference_rule, pointed_some, binary_rule, conditional_rule, index_rule, assign_rule, unary_value_rule, cast_rule, fits}
use Rattle.c_tree.specs.Typing.{type_at, all_taken, one, both, unary_type, is_taken, is_test, result_of}
use Rattle.c_tree.specs.HasType.{HasType, HasValue, AreTaken, IsSign, PlusSign, MinusSign, FlipSign, IsArithmetic, ByBitOr, ByBitXor, ByBitAnd, BySum, ByDifference, ByProduct, OfName, OfNumber, OfCharacter, OfEof, OfSign, OfNot, OfContents, OfAddress, OfStep, OfCast, OfArithmetic, OfShift, OfPointerPlus, OfPlusPointer, OfPointerMinus, OfDistance, OfOrder, OfPointerOrder, OfEquality, OfPointerEquality, OfEqualityNought, OfNoughtEquality, OfLogic, OfConditional, OfPointerConditional, OfConditionalNought, OfNoughtConditional, OfAssign, OfIntegerUpdate, OfPointerUpdate, OfIndex, OfIndexTurned, OfCall, ValueOf, NoneTaken, OneTaken}
use Rattle.c_tree.proofs.ConstantLemmas.{settled}
use Rattle.c_tree.proofs.NoBreach.{left_true, and_true}

-- ---- types

pub same_itself : (t : Ty) → same t t ≡ true
same_itself (ty.Pointer t) = same_itself t
same_itself (ty.Array t n) = let e : n == n ≡ true = grind (arith, nat_tests) in rw e (same_itself t)
same_itself t = refl

not_pointer : (t : Ty) → is_integer t ≡ true → is_pointer t ≡ false
not_pointer (ty.Pointer t) h = cc
not_pointer t h = refl

-- ---- rules on values

one_by : (rule : Ty → Option Ty) (x : Option Ty) (v : Ty) → option_map decayed x ≡ Some v
    → one (λ t. rule (decayed t)) x ≡ rule v
one_by rule None v h = cc
one_by rule (Some t) v h = let e : decayed t ≡ v = cc in ap rule e

both_by : (rule : Ty → Ty → Option Ty) (x y : Option Ty) (v w : Ty) → option_map decayed x ≡ Some v
    → option_map decayed y ≡ Some w → both (λ t u. rule (decayed t) (decayed u)) x y ≡ rule v w
both_by rule None y v w h k = cc
both_by rule (Some t) None v w h k = cc
both_by rule (Some t) (Some u) v w h k = let d : decayed t ≡ v = cc in let e : decayed u ≡ w = cc in ap₂ rule d e

sign_by : (op : Unary) → IsSign op → (place : Bool) (x : Option Ty) (v : Ty)
    → option_map decayed x ≡ Some v → is_integer v ≡ true
    → unary_type op place x ≡ Some (promoted v)
sign_by _ PlusSign place x v h i = one_by (unary_value_rule unary.Plus) x v h ∙ rw i refl
sign_by _ MinusSign place x v h i = one_by (unary_value_rule unary.Minus) x v h ∙ rw i refl
sign_by _ FlipSign place x v h i = one_by (unary_value_rule unary.Flip) x v h ∙ rw i refl

test_by : (x : Option Ty) (v : Ty) → option_map decayed x ≡ Some v → is_scalar v ≡ true
    → is_test x ≡ true
test_by None v h s = cc
test_by (Some t) v h s = let e : decayed t ≡ v = cc in ap is_scalar e ∙ s

cast_by : (to : Ty) (x : Option Ty) (v : Ty) → option_map decayed x ≡ Some v → is_integer to ≡ true
    → is_integer v ≡ true → one (cast_rule to) x ≡ Some to
cast_by to x v h i j = one_by (λ v. where_right (is_integer to && is_integer v) (Some to)) x v h ∙ rw (i, j) refl

arithmetic_by : (g : Group) → IsArithmetic g → (n m : Bool) (t u : Ty) → is_integer t ≡ true
    → is_integer u ≡ true → group_rule g n m t u ≡ Some (common t u)
arithmetic_by _ ByBitOr n m t u i j = rw (i, j) refl
arithmetic_by _ ByBitXor n m t u i j = rw (i, j) refl
arithmetic_by _ ByBitAnd n m t u i j = rw (i, j) refl
arithmetic_by _ BySum n m t u i j = rw (i, j) refl
arithmetic_by _ ByDifference n m t u i j = rw (i, j) refl
arithmetic_by _ ByProduct n m t u i j = rw (i, j) refl

-- the rule of a group that is known
at_group : (g h : Group) → g ≡ h → (n m : Bool) (t u : Ty)
    → group_rule g n m t u ≡ group_rule h n m t u
at_group g h k n m t u = ap (λ g. group_rule g n m t u) k

shift_by : (t u : Ty) → is_integer t ≡ true → is_integer u ≡ true
    → shift_rule t u ≡ Some (promoted t)
shift_by t u i j = rw (i, j) refl

order_by : (t u : Ty) → is_integer t ≡ true → is_integer u ≡ true → order_rule t u ≡ Some ty.Int
order_by t u i j = rw (i, j) refl

pointer_order_by : (t : Ty) → order_rule (ty.Pointer t) (ty.Pointer t) ≡ Some ty.Int
pointer_order_by t = rw (same_itself t) refl

equality_by : (n m : Bool) (t u : Ty) → is_integer t ≡ true → is_integer u ≡ true
    → equality_rule n m t u ≡ Some ty.Int
equality_by n m t u i j = rw (i, j) refl

pointer_equality_by : (n m : Bool) (t : Ty)
    → equality_rule n m (ty.Pointer t) (ty.Pointer t) ≡ Some ty.Int
pointer_equality_by n m t = rw (same_itself t) refl

or_true : (b : Bool) → b || true ≡ true
or_true true = refl
or_true false = refl

pointer_with : (t u : Ty) (n : Bool) → n ≡ true
    → is_pointer (ty.Pointer t) && (same (ty.Pointer t) u || n) ≡ true
pointer_with t u n h = rw (h, or_true (same (ty.Pointer t) u)) refl

equality_nought_by : (n m : Bool) (t u : Ty) → m ≡ true
    → equality_rule n m (ty.Pointer t) u ≡ Some ty.Int
equality_nought_by n m t u h = rw (h, or_true (same (ty.Pointer t) u)) refl

right_true : (a b c : Bool) → c ≡ true → a || b || c ≡ true
right_true true b c h = refl
right_true false true c h = refl
right_true false false c h = h

nought_equality_by : (n m : Bool) (t u : Ty) → n ≡ true
    → equality_rule n m t (ty.Pointer u) ≡ Some ty.Int
nought_equality_by n m t u h = rw (right_true (is_integer t && false) (is_pointer t && (same t (ty.Pointer u) || m)) _ (pointer_with u t n h)) refl

logic_by : (g : Group) → is_logic g ≡ true → (n m : Bool) (t u : Ty) → is_scalar t ≡ true
    → is_scalar u ≡ true → group_rule g n m t u ≡ Some ty.Int
logic_by by.Or k n m t u i j = rw (i, j) refl
logic_by by.And k n m t u i j = rw (i, j) refl
logic_by by.BitOr k n m t u i j = cc
logic_by by.BitXor k n m t u i j = cc
logic_by by.BitAnd k n m t u i j = cc
logic_by by.Equality k n m t u i j = cc
logic_by by.Order k n m t u i j = cc
logic_by by.Shift k n m t u i j = cc
logic_by by.Sum k n m t u i j = cc
logic_by by.Difference k n m t u i j = cc
logic_by by.Product k n m t u i j = cc

plus_pointer_by : (t u : Ty) → is_integer t ≡ true → sum_rule t (ty.Pointer u) ≡ Some (ty.Pointer u)
plus_pointer_by t u i = let p : is_pointer t ≡ false = not_pointer t i in rw (i, p) refl

sum_by : (t u : Ty) → is_integer t ≡ true → pointed_some (sum_rule t (ty.Pointer u)) ≡ Some u
sum_by t u i = ap pointed_some (plus_pointer_by t u i)

pointer_sum_by : (t u : Ty) → is_integer u ≡ true → sum_rule (ty.Pointer t) u ≡ Some (ty.Pointer t)
pointer_sum_by t u i = rw i refl

pointer_difference_by : (t u : Ty) → is_integer u ≡ true
    → difference_rule (ty.Pointer t) u ≡ Some (ty.Pointer t)
pointer_difference_by t u i = rw i refl

distance_by : (t : Ty) → difference_rule (ty.Pointer t) (ty.Pointer t) ≡ Some ty.Int
distance_by t = rw (same_itself t) refl

index_by : (x y : Option Ty) (v w : Ty) → option_map decayed x ≡ Some v
    → option_map decayed y ≡ Some w → both index_rule x y ≡ pointed_some (sum_rule v w)
index_by x y v w h k = both_by (λ t u. pointed_some (sum_rule t u)) x y v w h k

binary_by : (op : Binary) (n m : Bool) (x y : Option Ty) (v w : Ty) → option_map decayed x ≡ Some v
    → option_map decayed y ≡ Some w → both (binary_rule op n m) x y ≡ group_rule (group op) n m v w
binary_by op n m x y v w h k = both_by (group_rule (group op) n m) x y v w h k

conditional_by : (n m : Bool) (z x y : Option Ty) (s v w r : Ty) → option_map decayed z ≡ Some s
    → is_scalar s ≡ true → option_map decayed x ≡ Some v → option_map decayed y ≡ Some w
    → conditional_value_rule n m v w ≡ Some r → where_right (is_test z) (both (conditional_rule n m) x y) ≡ Some r
conditional_by n m z x y s v w r g c h k e =
    let t : is_test z ≡ true = test_by z s g c in
    let b : both (conditional_rule n m) x y ≡ Some r = both_by (conditional_value_rule n m) x y v w h k ∙ e in
    rw (t, b) refl

conditional_nought : (n m : Bool) (t u : Ty) → m ≡ true
    → conditional_value_rule n m (ty.Pointer t) u ≡ Some (ty.Pointer t)
conditional_nought n m t u h = rw (h, or_true (same (ty.Pointer t) u)) refl

choose_other : (n m : Bool) (t u : Ty) → is_integer t ≡ true → n ≡ true
    → conditional_value_rule n m t (ty.Pointer u) ≡ Some (ty.Pointer u)
choose_other n m ty.Int u i h = rw h refl
choose_other n m ty.Unsigned u i h = rw h refl
choose_other n m ty.Char u i h = rw h refl
choose_other n m ty.Void u i h = cc
choose_other n m (ty.Pointer t) u i h = cc
choose_other n m (ty.Array t k) u i h = cc

assign_by : (how : Option Binary) (n : Bool) (to : Ty) (x : Option Ty) (v : Ty)
    → option_map decayed x ≡ Some v → fits how to n v ≡ true
    → both (assign_rule how n) (Some to) x ≡ Some to
assign_by how n to None v h f = cc
assign_by how n to (Some u) v h f = let e : decayed u ≡ v = cc in let g : fits how to n (decayed u) ≡ true = ap (fits how to n) e ∙ f in rw g refl

take_by : (n : Bool) (to : Ty) (x : Option Ty) (v : Ty) → option_map decayed x ≡ Some v
    → takes to n v ≡ true → is_taken to n x ≡ true
take_by n to x v h f = ap is_some (assign_by None n to x v h f)

result_by : (t : Ty) (ps : List Ty) (d : Bool) → is_void t ≡ false
    → result_of (Some (FunctionOf t ps d)) ≡ Some t
result_by ty.Int ps d h = refl
result_by ty.Unsigned ps d h = refl
result_by ty.Char ps d h = refl
result_by ty.Void ps d h = cc
result_by (ty.Pointer t) ps d h = refl
result_by (ty.Array t n) ps d h = refl

nought_type : (scope : Scope) (e : Expr) → is_nought e ≡ true
    → (t : Ty) × (option_map decayed (type_at scope e) ≡ Some t) × (is_integer t ≡ true)
nought_type scope (expr.Number t n at) h = let i : is_integer t ≡ true = left_true (is_integer t) _ h in (t, ap Some (settled t i), i)
nought_type scope (expr.Name name at) h = cc
nought_type scope (expr.Character code at) h = cc
nought_type scope (expr.Eof at) h = cc
nought_type scope (expr.Unary op a at) h = cc
nought_type scope (expr.Step how a at) h = cc
nought_type scope (expr.Cast to a at) h = cc
nought_type scope (expr.Binary op a b at) h = cc
nought_type scope (expr.Conditional c a b at) h = cc
nought_type scope (expr.Assign how a b at) h = cc
nought_type scope (expr.Index a b at) h = cc
nought_type scope (expr.Call name all at) h = cc

mutual
  pub typed_by : (scope : Scope) (e : Expr) (t : Ty) → HasType scope e t → type_at scope e ≡ Some t
  typed_by _ _ _ (OfName scope name at t h) = rw h refl
  typed_by _ _ _ (OfNumber scope t n at) = refl
  typed_by _ _ _ (OfCharacter scope code at) = refl
  typed_by _ _ _ (OfEof scope at) = refl
  typed_by _ _ _ (OfSign scope op a at t s v i) = sign_by op s (is_place a) (type_at scope a) t (value_by scope a t v) i
  typed_by _ _ _ (OfNot scope a at t v s) = one_by (unary_value_rule unary.Not) (type_at scope a) t (value_by scope a t v) ∙ rw s refl
  typed_by _ _ _ (OfContents scope a at t v) = one_by (unary_value_rule unary.At) (type_at scope a) (ty.Pointer t) (value_by scope a (ty.Pointer t) v)
  typed_by _ _ _ (OfAddress scope a at t p h) = let k = typed_by scope a t h in rw (p, k) refl
  typed_by _ _ _ (OfStep scope how a at t p h s) = let k = typed_by scope a t h in rw (p, k) (rw s refl)
  typed_by _ _ _ (OfCast scope to a at t i v j) = cast_by to (type_at scope a) t (value_by scope a t v) i j
  typed_by _ _ _ (OfArithmetic scope op a b at t u k v w i j) = binary_by op (is_nought a) (is_nought b) (type_at scope a) (type_at scope b) t u (value_by scope a t v) (value_by scope b u w) ∙ arithmetic_by (group op) k (is_nought a) (is_nought b) t u i j
  typed_by _ _ _ (OfShift scope op a b at t u k v w i j) = binary_by op (is_nought a) (is_nought b) (type_at scope a) (type_at scope b) t u (value_by scope a t v) (value_by scope b u w) ∙ (at_group (group op) by.Shift k (is_nought a) (is_nought b) t u ∙ shift_by t u i j)
  typed_by _ _ _ (OfPointerPlus scope op a b at t u k v w j) = binary_by op (is_nought a) (is_nought b) (type_at scope a) (type_at scope b) (ty.Pointer t) u (value_by scope a (ty.Pointer t) v) (value_by scope b u w) ∙ (at_group (group op) by.Sum k (is_nought a) (is_nought b) (ty.Pointer t) u ∙ pointer_sum_by t u j)
  typed_by _ _ _ (OfPlusPointer scope op a b at t u k v w i) = binary_by op (is_nought a) (is_nought b) (type_at scope a) (type_at scope b) t (ty.Pointer u) (value_by scope a t v) (value_by scope b (ty.Pointer u) w) ∙ (at_group (group op) by.Sum k (is_nought a) (is_nought b) t (ty.Pointer u) ∙ plus_pointer_by t u i)
  typed_by _ _ _ (OfPointerMinus scope op a b at t u k v w j) = binary_by op (is_nought a) (is_nought b) (type_at scope a) (type_at scope b) (ty.Pointer t) u (value_by scope a (ty.Pointer t) v) (value_by scope b u w) ∙ (at_group (group op) by.Difference k (is_nought a) (is_nought b) (ty.Pointer t) u ∙ pointer_difference_by t u j)
  typed_by _ _ _ (OfDistance scope op a b at t k v w) = binary_by op (is_nought a) (is_nought b) (type_at scope a) (type_at scope b) (ty.Pointer t) (ty.Pointer t) (value_by scope a (ty.Pointer t) v) (value_by scope b (ty.Pointer t) w) ∙ (at_group (group op) by.Difference k (is_nought a) (is_nought b) (ty.Pointer t) (ty.Pointer t) ∙ distance_by t)
  typed_by _ _ _ (OfOrder scope op a b at t u k v w i j) = binary_by op (is_nought a) (is_nought b) (type_at scope a) (type_at scope b) t u (value_by scope a t v) (value_by scope b u w) ∙ (at_group (group op) by.Order k (is_nought a) (is_nought b) t u ∙ order_by t u i j)
  typed_by _ _ _ (OfPointerOrder scope op a b at t k v w) = binary_by op (is_nought a) (is_nought b) (type_at scope a) (type_at scope b) (ty.Pointer t) (ty.Pointer t) (value_by scope a (ty.Pointer t) v) (value_by scope b (ty.Pointer t) w) ∙ (at_group (group op) by.Order k (is_nought a) (is_nought b) (ty.Pointer t) (ty.Pointer t) ∙ pointer_order_by t)
  typed_by _ _ _ (OfEquality scope op a b at t u k v w i j) = binary_by op (is_nought a) (is_nought b) (type_at scope a) (type_at scope b) t u (value_by scope a t v) (value_by scope b u w) ∙ (at_group (group op) by.Equality k (is_nought a) (is_nought b) t u ∙ equality_by (is_nought a) (is_nought b) t u i j)
  typed_by _ _ _ (OfPointerEquality scope op a b at t k v w) = binary_by op (is_nought a) (is_nought b) (type_at scope a) (type_at scope b) (ty.Pointer t) (ty.Pointer t) (value_by scope a (ty.Pointer t) v) (value_by scope b (ty.Pointer t) w) ∙ (at_group (group op) by.Equality k (is_nought a) (is_nought b) (ty.Pointer t) (ty.Pointer t) ∙ pointer_equality_by (is_nought a) (is_nought b) t)
  typed_by _ _ _ (OfEqualityNought scope op a b at t k v z) =
      let q = nought_type scope b z in
      binary_by op (is_nought a) (is_nought b) (type_at scope a) (type_at scope b) (ty.Pointer t) q.0 (value_by scope a (ty.Pointer t) v) q.1 ∙ (at_group (group op) by.Equality k (is_nought a) (is_nought b) (ty.Pointer t) q.0 ∙ equality_nought_by (is_nought a) (is_nought b) t q.0 z)
  typed_by _ _ _ (OfNoughtEquality scope op a b at u k z w) =
      let q = nought_type scope a z in
      binary_by op (is_nought a) (is_nought b) (type_at scope a) (type_at scope b) q.0 (ty.Pointer u) q.1 (value_by scope b (ty.Pointer u) w) ∙ (at_group (group op) by.Equality k (is_nought a) (is_nought b) q.0 (ty.Pointer u) ∙ nought_equality_by (is_nought a) (is_nought b) q.0 u z)
  typed_by _ _ _ (OfLogic scope op a b at t u k v w i j) = binary_by op (is_nought a) (is_nought b) (type_at scope a) (type_at scope b) t u (value_by scope a t v) (value_by scope b u w) ∙ logic_by (group op) k (is_nought a) (is_nought b) t u i j
  typed_by _ _ _ (OfConditional scope c a b at s t u x d v w i j) = conditional_by (is_nought a) (is_nought b) (type_at scope c) (type_at scope a) (type_at scope b) s t u (common t u) (value_by scope c s x) d (value_by scope a t v) (value_by scope b u w) (rw (i, j) refl)
  typed_by _ _ _ (OfPointerConditional scope c a b at s t x d v w) = conditional_by (is_nought a) (is_nought b) (type_at scope c) (type_at scope a) (type_at scope b) s (ty.Pointer t) (ty.Pointer t) (ty.Pointer t) (value_by scope c s x) d (value_by scope a (ty.Pointer t) v) (value_by scope b (ty.Pointer t) w) (rw (same_itself t) refl)
  typed_by _ _ _ (OfConditionalNought scope c a b at s t x d v z) =
      let q = nought_type scope b z in
      conditional_by (is_nought a) (is_nought b) (type_at scope c) (type_at scope a) (type_at scope b) s (ty.Pointer t) q.0 (ty.Pointer t) (value_by scope c s x) d (value_by scope a (ty.Pointer t) v) q.1 (conditional_nought (is_nought a) (is_nought b) t q.0 z)
  typed_by _ _ _ (OfNoughtConditional scope c a b at s u x d z w) =
      let q = nought_type scope a z in
      conditional_by (is_nought a) (is_nought b) (type_at scope c) (type_at scope a) (type_at scope b) s q.0 (ty.Pointer u) (ty.Pointer u) (value_by scope c s x) d q.1 (value_by scope b (ty.Pointer u) w) (choose_other (is_nought a) (is_nought b) q.0 u q.2 z)
  typed_by _ _ _ (OfAssign scope a b at t u p h w f) =
      let k = typed_by scope a t h in
      let s : both (assign_rule None (is_nought b)) (Some t) (type_at scope b) ≡ Some t = assign_by None (is_nought b) t (type_at scope b) u (value_by scope b u w) f in
      rw (p, k) s
  typed_by _ _ _ (OfIntegerUpdate scope op a b at t u p h i w j) =
      let k = typed_by scope a t h in
      let s : both (assign_rule (Some op) (is_nought b)) (Some t) (type_at scope b) ≡ Some t = assign_by (Some op) (is_nought b) t (type_at scope b) u (value_by scope b u w) (rw (i, j) refl) in
      rw (p, k) s
  typed_by _ _ _ (OfPointerUpdate scope op a b at t u m p h w j) =
      let k = typed_by scope a (ty.Pointer t) h in
      let s : both (assign_rule (Some op) (is_nought b)) (Some (ty.Pointer t)) (type_at scope b) ≡ Some (ty.Pointer t) = assign_by (Some op) (is_nought b) (ty.Pointer t) (type_at scope b) u (value_by scope b u w) (rw (m, j) refl) in
      rw (p, k) s
  typed_by _ _ _ (OfIndex scope a b at t u v w j) = index_by (type_at scope a) (type_at scope b) (ty.Pointer t) u (value_by scope a (ty.Pointer t) v) (value_by scope b u w) ∙ ap pointed_some (pointer_sum_by t u j)
  typed_by _ _ _ (OfIndexTurned scope a b at t u v i w) = index_by (type_at scope a) (type_at scope b) t (ty.Pointer u) (value_by scope a t v) (value_by scope b (ty.Pointer u) w) ∙ sum_by t u i
  typed_by _ _ _ (OfCall scope name all at t ps d h v taken) = let k = taken_by scope ps all taken in rw (h, k) (result_by t ps d v)

  pub value_by : (scope : Scope) (e : Expr) (t : Ty) → HasValue scope e t
      → option_map decayed (type_at scope e) ≡ Some t
  value_by _ _ _ (ValueOf scope a t h) = ap (option_map decayed) (typed_by scope a t h)

  pub taken_by : (scope : Scope) (ps : List Ty) (all : Exprs) → AreTaken scope ps all
      → all_taken scope ps all ≡ true
  taken_by _ _ _ (NoneTaken scope) = refl
  taken_by _ _ _ (OneTaken scope to ps a rest u v t more) = and_true _ _ (take_by (is_nought a) to (type_at scope a) u (value_by scope a u v) t) (taken_by scope ps rest more)
