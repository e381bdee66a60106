-- Each type that the function gives is one of the relation.
use Rattle.std.proofs.Common.{◌≡◌, ℕ, ◌==◌, Bool, true, false, ◌&&◌, ◌||◌, List, [], ◌∷◌, Option, Some, None, is_some, if◌then◌else◌, refl, sym, ap, ap₂, ◌∙◌, subst, arith}
use Rattle.std.proofs.lemmas.Bool.Decides.{nat_tests}
use Rattle.c_tree.specs.declared.operator.Binary.{Binary}
use Rattle.c_tree.specs.declared.operator.Group.{Group}
use Rattle.c_tree.specs.declared.operator.Group.TheVariants as by
use Rattle.c_tree.specs.declared.operator.Unary.{Unary}
use Rattle.c_tree.specs.declared.operator.Unary.TheVariants as unary
use Rattle.c_tree.specs.declared.operator.Step.{Step}
use Rattle.c_tree.specs.declared.place.Place.{Place}
use Rattle.c_tree.specs.Groups.{group, is_logic, is_sum}
use Rattle.c_tree.specs.Ty.{Ty}
use Rattle.c_tree.specs.Ty as ty
use Rattle.c_tree.specs.Expr.{Expr, Exprs}
use Rattle.c_tree.specs.Expr as expr
use Rattle.c_tree.specs.Scope.{Known, Scope, ObjectOf, FunctionOf, look}
use Rattle.c_tree.specs.Shapes.{same, is_integer, is_pointer, is_scalar, is_void, decayed, promoted, common}
use Rattle.c_tree.specs.Rules.{is_nought, is_place, takes, where_right, group_rule, conditional_value_rule, arithmetic_rule, shift_rule, sum_rule, difference_rule, order_rule, equality_rule, logic_rule, is_pointer_with, pointed, pointed_some, binary_rule, conditional_rule, index_rule, assign_rule, step_rule, cast_rule, fits}
use Rattle.c_tree.specs.Typing.{type_at, all_taken, called, one, both, object, unary_type, is_taken, is_test, result_of, parameters_of}
use Rattle.c_tree.specs.HasType.{HasType, HasValue, AreTaken, PlusSign, MinusSign, FlipSign, IsArithmetic, ByBitOr, ByBitXor, ByBitAnd, BySum, ByDifference, ByProduct, OfName, OfNumber, OfCharacter, OfEof, OfSign, OfNot, OfContents, OfAddress, OfStep, OfCast, OfArithmetic, OfShift, OfPointerPlus, OfPlusPointer, OfPointerMinus, OfDistance, OfOrder, OfPointerOrder, OfEquality, OfPointerEquality, OfEqualityNought, OfNoughtEquality, OfLogic, OfConditional, OfPointerConditional, OfConditionalNought, OfNoughtConditional, OfAssign, OfIntegerUpdate, OfPointerUpdate, OfIndex, OfIndexTurned, OfCall, ValueOf, NoneTaken, OneTaken}
use Rattle.c_tree.proofs.NoBreach.{left_true, right_true}

-- ---- what a test says

some_is : {A : Type 0} (x y : A) → Some x ≡ Some y → x ≡ y
some_is x y h = cc

right_is : (b : Bool) (o : Option Ty) (v : Ty) → where_right b o ≡ Some v → b ≡ true
right_is true o v h = refl
right_is false o v h = cc

right_gives : (b : Bool) (o : Option Ty) (v : Ty) → where_right b o ≡ Some v → o ≡ Some v
right_gives true o v h = h
right_gives false o v h = cc

pub either : {P : Type 0} (b c : Bool) → b || c ≡ true → (b ≡ true → P) → (c ≡ true → P) → P
either true c h f g = f refl
either false c h f g = g h

nat_is : (n m : ℕ) → n == m ≡ true → n ≡ m
nat_is n m h = grind (arith, nat_tests)

pub same_is : (t u : Ty) → same t u ≡ true → t ≡ u
same_is ty.Int ty.Int h = refl
same_is ty.Unsigned ty.Unsigned h = refl
same_is ty.Char ty.Char h = refl
same_is ty.Void ty.Void h = refl
same_is (ty.Pointer t) (ty.Pointer u) h = ap ty.Pointer (same_is t u h)
same_is (ty.Array t n) (ty.Array u m) h = ap₂ ty.Array (same_is t u (right_true (n == m) _ h)) (nat_is n m (left_true _ _ h))
same_is _ _ h = cc

pointer_is : (t : Ty) → is_pointer t ≡ true → (s : Ty) × (t ≡ ty.Pointer s)
pointer_is (ty.Pointer s) h = (s, refl)
pointer_is ty.Int h = cc
pointer_is ty.Unsigned h = cc
pointer_is ty.Char h = cc
pointer_is ty.Void h = cc
pointer_is (ty.Array t n) h = cc

pointed_is : (t s : Ty) → pointed t ≡ Some s → t ≡ ty.Pointer s
pointed_is (ty.Pointer t) s h = ap ty.Pointer (some_is t s h)
pointed_is ty.Int s h = cc
pointed_is ty.Unsigned s h = cc
pointed_is ty.Char s h = cc
pointed_is ty.Void s h = cc
pointed_is (ty.Array t n) s h = cc

-- ---- nodes with two values

module _ (scope : Scope) (a b : Expr) (at : Place) (t u : Ty) (x : HasValue scope a t) (y : HasValue scope b u) where
  -- the first value's type is that of a pointer
  first_pointer : (s : Ty) → t ≡ ty.Pointer s → HasValue scope a (ty.Pointer s)
  first_pointer s e = subst (HasValue scope a) e x

  second_pointer : (s : Ty) → u ≡ ty.Pointer s → HasValue scope b (ty.Pointer s)
  second_pointer s e = subst (HasValue scope b) e y

  -- both are pointers of one type
  second_same : (s : Ty) → t ≡ ty.Pointer s → same t u ≡ true → HasValue scope b (ty.Pointer s)
  second_same s e h = subst (HasValue scope b) (sym (same_is t u h) ∙ e) y

  arithmetic_has : (op : Binary) (v : Ty) → IsArithmetic (group op) → (is_integer t && is_integer u) ≡ true
      → Some (common t u) ≡ Some v → HasType scope (expr.Binary op a b at) v
  arithmetic_has op v k h e = subst (HasType scope (expr.Binary op a b at)) (some_is (common t u) v e) (OfArithmetic scope op a b at t u k x y (left_true _ _ h) (right_true (is_integer t) _ h))

  by_arithmetic : (op : Binary) (v : Ty) → IsArithmetic (group op) → arithmetic_rule t u ≡ Some v
      → HasType scope (expr.Binary op a b at) v
  by_arithmetic op v k h = arithmetic_has op v k (right_is _ _ v h) (right_gives _ _ v h)

  by_shift : (op : Binary) (v : Ty) → group op ≡ by.Shift → shift_rule t u ≡ Some v
      → HasType scope (expr.Binary op a b at) v
  by_shift op v k h =
      let r = right_is _ _ v h in
      subst (HasType scope (expr.Binary op a b at)) (some_is (promoted t) v (right_gives _ _ v h)) (OfShift scope op a b at t u k x y (left_true _ _ r) (right_true (is_integer t) _ r))

  pointer_plus : (op : Binary) (v : Ty) → group op ≡ by.Sum → (is_pointer t && is_integer u) ≡ true → Some t ≡ Some v
      → HasType scope (expr.Binary op a b at) v
  pointer_plus op v k h e =
      let p = pointer_is t (left_true _ _ h) in
      subst (HasType scope (expr.Binary op a b at)) (sym p.1 ∙ some_is t v e) (OfPointerPlus scope op a b at p.0 u k (first_pointer p.0 p.1) y (right_true (is_pointer t) _ h))

  plus_pointer : (op : Binary) (v : Ty) → group op ≡ by.Sum → (is_integer t && is_pointer u) ≡ true → Some u ≡ Some v
      → HasType scope (expr.Binary op a b at) v
  plus_pointer op v k h e =
      let p = pointer_is u (right_true (is_integer t) _ h) in
      subst (HasType scope (expr.Binary op a b at)) (sym p.1 ∙ some_is u v e) (OfPlusPointer scope op a b at t p.0 k x (second_pointer p.0 p.1) (left_true _ _ h))

  by_sum : (op : Binary) (v : Ty) → group op ≡ by.Sum → sum_rule t u ≡ Some v → HasType scope (expr.Binary op a b at) v
  by_sum op v k h = go (is_integer t && is_integer u) (is_pointer t && is_integer u) refl refl h
    where
      go : (p q : Bool) → (is_integer t && is_integer u) ≡ p → (is_pointer t && is_integer u) ≡ q
          → (if p then Some (common t u) else if q then Some t else where_right (is_integer t && is_pointer u) (Some u)) ≡ Some v → HasType scope (expr.Binary op a b at) v
      go true q i j e = arithmetic_has op v (subst IsArithmetic (sym k) BySum) i e
      go false true i j e = pointer_plus op v k j e
      go false false i j e = plus_pointer op v k (right_is _ _ v e) (right_gives _ _ v e)

  pointer_minus : (op : Binary) (v : Ty) → group op ≡ by.Difference → (is_pointer t && is_integer u) ≡ true → Some t ≡ Some v
      → HasType scope (expr.Binary op a b at) v
  pointer_minus op v k h e =
      let p = pointer_is t (left_true _ _ h) in
      subst (HasType scope (expr.Binary op a b at)) (sym p.1 ∙ some_is t v e) (OfPointerMinus scope op a b at p.0 u k (first_pointer p.0 p.1) y (right_true (is_pointer t) _ h))

  distance : (op : Binary) (v : Ty) → group op ≡ by.Difference → (is_pointer t && same t u) ≡ true → Some ty.Int ≡ Some v
      → HasType scope (expr.Binary op a b at) v
  distance op v k h e =
      let p = pointer_is t (left_true _ _ h) in
      subst (HasType scope (expr.Binary op a b at)) (some_is ty.Int v e) (OfDistance scope op a b at p.0 k (first_pointer p.0 p.1) (second_same p.0 p.1 (right_true (is_pointer t) _ h)))

  by_difference : (op : Binary) (v : Ty) → group op ≡ by.Difference → difference_rule t u ≡ Some v
      → HasType scope (expr.Binary op a b at) v
  by_difference op v k h = go (is_integer t && is_integer u) (is_pointer t && is_integer u) refl refl h
    where
      go : (p q : Bool) → (is_integer t && is_integer u) ≡ p → (is_pointer t && is_integer u) ≡ q
          → (if p then Some (common t u) else if q then Some t else where_right (is_pointer t && same t u) (Some ty.Int)) ≡ Some v → HasType scope (expr.Binary op a b at) v
      go true q i j e = arithmetic_has op v (subst IsArithmetic (sym k) ByDifference) i e
      go false true i j e = pointer_minus op v k j e
      go false false i j e = distance op v k (right_is _ _ v e) (right_gives _ _ v e)

  by_order : (op : Binary) (v : Ty) → group op ≡ by.Order → order_rule t u ≡ Some v
      → HasType scope (expr.Binary op a b at) v
  by_order op v k h =
      subst (HasType scope (expr.Binary op a b at)) (some_is ty.Int v (right_gives _ _ v h))
      (either (is_integer t && is_integer u) _ (right_is _ _ v h)
      (λ r. OfOrder scope op a b at t u k x y (left_true _ _ r) (right_true (is_integer t) _ r))
      (λ r. let p = pointer_is t (left_true _ _ r) in OfPointerOrder scope op a b at p.0 k (first_pointer p.0 p.1) (second_same p.0 p.1 (right_true (is_pointer t) _ r))))

  by_equality : (op : Binary) (v : Ty) → group op ≡ by.Equality
      → equality_rule (is_nought a) (is_nought b) t u ≡ Some v
      → HasType scope (expr.Binary op a b at) v
  by_equality op v k h =
      let first = is_pointer_with t (is_nought b) u in
      let second = is_pointer_with u (is_nought a) t in
      let test = (is_integer t && is_integer u) || first || second in
      subst (HasType scope (expr.Binary op a b at)) (some_is ty.Int v (right_gives test (Some ty.Int) v h))
      (either ((is_integer t && is_integer u) || first) second (right_is test (Some ty.Int) v h)
      (λ r. either (is_integer t && is_integer u) first r
      (λ q. OfEquality scope op a b at t u k x y (left_true _ _ q) (right_true (is_integer t) _ q))
      (λ q. let p = pointer_is t (left_true (is_pointer t) _ q) in
      either (same t u) (is_nought b) (right_true (is_pointer t) _ q)
      (λ e. OfPointerEquality scope op a b at p.0 k (first_pointer p.0 p.1) (second_same p.0 p.1 e))
      (λ n. OfEqualityNought scope op a b at p.0 k (first_pointer p.0 p.1) n)))
      (λ q. let p = pointer_is u (left_true (is_pointer u) _ q) in
      either (same u t) (is_nought a) (right_true (is_pointer u) _ q)
      (λ e. OfPointerEquality scope op a b at p.0 k (subst (HasValue scope a) (sym (same_is u t e) ∙ p.1) x) (second_pointer p.0 p.1))
      (λ n. OfNoughtEquality scope op a b at p.0 k n (second_pointer p.0 p.1))))

  by_logic : (op : Binary) (v : Ty) → is_logic (group op) ≡ true → logic_rule t u ≡ Some v
      → HasType scope (expr.Binary op a b at) v
  by_logic op v k h =
      let r = right_is _ _ v h in
      subst (HasType scope (expr.Binary op a b at)) (some_is ty.Int v (right_gives _ _ v h)) (OfLogic scope op a b at t u k x y (left_true (is_scalar t) _ r) (right_true (is_scalar t) _ r))

  by_group : (op : Binary) (v : Ty) (g : Group) → group op ≡ g
      → group_rule g (is_nought a) (is_nought b) t u ≡ Some v
      → HasType scope (expr.Binary op a b at) v
  by_group op v by.Or k h = by_logic op v (ap is_logic k) h
  by_group op v by.And k h = by_logic op v (ap is_logic k) h
  by_group op v by.BitOr k h = by_arithmetic op v (subst IsArithmetic (sym k) ByBitOr) h
  by_group op v by.BitXor k h = by_arithmetic op v (subst IsArithmetic (sym k) ByBitXor) h
  by_group op v by.BitAnd k h = by_arithmetic op v (subst IsArithmetic (sym k) ByBitAnd) h
  by_group op v by.Equality k h = by_equality op v k h
  by_group op v by.Order k h = by_order op v k h
  by_group op v by.Shift k h = by_shift op v k h
  by_group op v by.Sum k h = by_sum op v k h
  by_group op v by.Difference k h = by_difference op v k h
  by_group op v by.Product k h = by_arithmetic op v (subst IsArithmetic (sym k) ByProduct) h

-- ---- the other nodes

by_conditional : (scope : Scope) (c a b : Expr) (at : Place) (s t u v : Ty) → HasValue scope c s
    → is_scalar s ≡ true → HasValue scope a t → HasValue scope b u
    → conditional_value_rule (is_nought a) (is_nought b) t u ≡ Some v → HasType scope (expr.Conditional c a b at) v
by_conditional scope c a b at s t u v z d x y h = go (is_integer t && is_integer u) (is_pointer_with t (is_nought b) u) refl refl h
  where
    go : (p q : Bool) → (is_integer t && is_integer u) ≡ p → is_pointer_with t (is_nought b) u ≡ q
        → (if p then Some (common t u) else if q then Some t else where_right (is_pointer_with u (is_nought a) t) (Some u)) ≡ Some v → HasType scope (expr.Conditional c a b at) v
    go true q i j e = subst (HasType scope (expr.Conditional c a b at)) (some_is (common t u) v e) (OfConditional scope c a b at s t u z d x y (left_true _ _ i) (right_true (is_integer t) _ i))
    go false true i j e =
        let p = pointer_is t (left_true (is_pointer t) _ j) in
        subst (HasType scope (expr.Conditional c a b at)) (sym p.1 ∙ some_is t v e)
        (either (same t u) (is_nought b) (right_true (is_pointer t) _ j)
        (λ r. OfPointerConditional scope c a b at s p.0 z d (first_pointer scope a b at t u x y p.0 p.1) (second_same scope a b at t u x y p.0 p.1 r))
        (λ r. OfConditionalNought scope c a b at s p.0 z d (first_pointer scope a b at t u x y p.0 p.1) r))
    go false false i j e =
        let r = right_is (is_pointer_with u (is_nought a) t) (Some u) v e in
        let p = pointer_is u (left_true (is_pointer u) _ r) in
        subst (HasType scope (expr.Conditional c a b at)) (sym p.1 ∙ some_is u v (right_gives (is_pointer_with u (is_nought a) t) (Some u) v e))
        (either (same u t) (is_nought a) (right_true (is_pointer u) _ r)
        (λ k. OfPointerConditional scope c a b at s p.0 z d (subst (HasValue scope a) (sym (same_is u t k) ∙ p.1) x) (second_pointer scope a b at t u x y p.0 p.1))
        (λ k. OfNoughtConditional scope c a b at s p.0 z d k (second_pointer scope a b at t u x y p.0 p.1)))

-- `a[i]`: the sum is a pointer to it
by_index : (scope : Scope) (a b : Expr) (at : Place) (t u v : Ty) → HasValue scope a t
    → HasValue scope b u → pointed_some (sum_rule t u) ≡ Some v
    → HasType scope (expr.Index a b at) v
by_index scope a b at t u v x y h = go (is_integer t && is_integer u) (is_pointer t && is_integer u) refl refl h
  where
    third : (r : Bool) → is_integer t && is_pointer u ≡ r
        → pointed_some (where_right r (Some u)) ≡ Some v → HasType scope (expr.Index a b at) v
    third true r e = OfIndexTurned scope a b at t v x (left_true _ _ r) (subst (HasValue scope b) (pointed_is u v e) y)
    third false r e = cc

    whole : (r : Bool) → pointed_some (Some (if r then ty.Unsigned else ty.Int)) ≡ Some v
        → HasType scope (expr.Index a b at) v
    whole true e = cc
    whole false e = cc

    go : (p q : Bool) → (is_integer t && is_integer u) ≡ p → (is_pointer t && is_integer u) ≡ q
        → pointed_some (if p then Some (common t u) else if q then Some t else where_right (is_integer t && is_pointer u) (Some u)) ≡ Some v → HasType scope (expr.Index a b at) v
    go true q i j e = whole _ e
    go false true i j e = OfIndex scope a b at v u (subst (HasValue scope a) (pointed_is t v e) x) y (right_true (is_pointer t) _ j)
    go false false i j e = third (is_integer t && is_pointer u) refl e

by_unary : (scope : Scope) (op : Unary) (a : Expr) (at : Place) (t v : Ty) → HasType scope a t
    → unary_type op (is_place a) (Some t) ≡ Some v → HasType scope (expr.Unary op a at) v
by_unary scope unary.Plus a at t v x h = subst (HasType scope (expr.Unary unary.Plus a at)) (some_is _ v (right_gives _ _ v h)) (OfSign scope unary.Plus a at (decayed t) PlusSign (ValueOf scope a t x) (right_is _ _ v h))
by_unary scope unary.Minus a at t v x h = subst (HasType scope (expr.Unary unary.Minus a at)) (some_is _ v (right_gives _ _ v h)) (OfSign scope unary.Minus a at (decayed t) MinusSign (ValueOf scope a t x) (right_is _ _ v h))
by_unary scope unary.Flip a at t v x h = subst (HasType scope (expr.Unary unary.Flip a at)) (some_is _ v (right_gives _ _ v h)) (OfSign scope unary.Flip a at (decayed t) FlipSign (ValueOf scope a t x) (right_is _ _ v h))
by_unary scope unary.Not a at t v x h = subst (HasType scope (expr.Unary unary.Not a at)) (some_is ty.Int v (right_gives (is_scalar (decayed t)) (Some ty.Int) v h)) (OfNot scope a at (decayed t) (ValueOf scope a t x) (right_is (is_scalar (decayed t)) (Some ty.Int) v h))
by_unary scope unary.At a at t v x h = OfContents scope a at v (subst (HasValue scope a) (pointed_is (decayed t) v h) (ValueOf scope a t x))
by_unary scope unary.Address a at t v x h = go (is_place a) refl h
  where
    go : (p : Bool) → is_place a ≡ p → unary_type unary.Address p (Some t) ≡ Some v
        → HasType scope (expr.Unary unary.Address a at) v
    go true p e = subst (HasType scope (expr.Unary unary.Address a at)) (some_is (ty.Pointer t) v e) (OfAddress scope a at t p x)
    go false p e = cc

by_assign : (scope : Scope) (how : Option Binary) (a b : Expr) (at : Place) (t u v : Ty)
    → is_place a ≡ true → HasType scope a t → HasValue scope b u
    → fits how t (is_nought b) u ≡ true → Some t ≡ Some v → HasType scope (expr.Assign how a b at) v
by_assign scope None a b at t u v p x y f e = subst (HasType scope (expr.Assign None a b at)) (some_is t v e) (OfAssign scope a b at t u p x y f)
by_assign scope (Some op) a b at t u v p x y f e =
    subst (HasType scope (expr.Assign (Some op) a b at)) (some_is t v e)
    (either (is_integer t) (is_pointer t && is_sum (group op)) (left_true (is_integer t || (is_pointer t && is_sum (group op))) _ f)
    (λ i. OfIntegerUpdate scope op a b at t u p x i y (right_true (is_integer t || (is_pointer t && is_sum (group op))) _ f))
    (λ i. let q = pointer_is t (left_true _ _ i) in
    subst (HasType scope (expr.Assign (Some op) a b at)) (sym q.1)
    (OfPointerUpdate scope op a b at q.0 u (right_true (is_pointer t) _ i) p (subst (HasType scope a) q.1 x) y (right_true (is_integer t || (is_pointer t && is_sum (group op))) _ f))))

-- ---- nodes with parts that may have no type

-- what a type of a part gives
abbrev Derives : Scope → Expr → Option Ty → Type 0
Derives scope e x = (t : Ty) → x ≡ Some t → HasType scope e t

unary_none : {P : Type 0} (op : Unary) (place : Bool) (v : Ty) → unary_type op place None ≡ Some v
    → P
unary_none unary.Plus place v h = cc
unary_none unary.Minus place v h = cc
unary_none unary.Not place v h = cc
unary_none unary.Flip place v h = cc
unary_none unary.At place v h = cc
unary_none unary.Address true v h = cc
unary_none unary.Address false v h = cc

at_unary : (scope : Scope) (op : Unary) (a : Expr) (at : Place) (x : Option Ty) (v : Ty)
    → Derives scope a x → unary_type op (is_place a) x ≡ Some v
    → HasType scope (expr.Unary op a at) v
at_unary scope op a at None v f h = unary_none op (is_place a) v h
at_unary scope op a at (Some t) v f h = by_unary scope op a at t v (f t refl) h

at_step : (scope : Scope) (how : Step) (a : Expr) (at : Place) (x : Option Ty) (v : Ty)
    → Derives scope a x → where_right (is_place a) (one step_rule x) ≡ Some v
    → HasType scope (expr.Step how a at) v
at_step scope how a at None v f h = let n : None ≡ Some v = right_gives (is_place a) None v h in cc
at_step scope how a at (Some t) v f h =
    let g = right_gives (is_place a) (where_right (is_scalar t) (Some t)) v h in
    subst (HasType scope (expr.Step how a at)) (some_is t v (right_gives (is_scalar t) (Some t) v g))
    (OfStep scope how a at t (right_is (is_place a) (where_right (is_scalar t) (Some t)) v h) (f t refl) (right_is (is_scalar t) (Some t) v g))

at_cast : (scope : Scope) (to : Ty) (a : Expr) (at : Place) (x : Option Ty) (v : Ty)
    → Derives scope a x → one (cast_rule to) x ≡ Some v → HasType scope (expr.Cast to a at) v
at_cast scope to a at None v f h = cc
at_cast scope to a at (Some t) v f h =
    let r = right_is (is_integer to && is_integer (decayed t)) (Some to) v h in
    subst (HasType scope (expr.Cast to a at)) (some_is to v (right_gives (is_integer to && is_integer (decayed t)) (Some to) v h))
    (OfCast scope to a at (decayed t) (left_true _ _ r) (ValueOf scope a t (f t refl)) (right_true (is_integer to) _ r))

at_binary : (scope : Scope) (op : Binary) (a b : Expr) (at : Place) (x y : Option Ty) (v : Ty)
    → Derives scope a x → Derives scope b y
    → both (binary_rule op (is_nought a) (is_nought b)) x y ≡ Some v
    → HasType scope (expr.Binary op a b at) v
at_binary scope op a b at None y v f g h = cc
at_binary scope op a b at (Some t) None v f g h = cc
at_binary scope op a b at (Some t) (Some u) v f g h = by_group scope a b at (decayed t) (decayed u) (ValueOf scope a t (f t refl)) (ValueOf scope b u (g u refl)) op v (group op) refl h

at_index : (scope : Scope) (a b : Expr) (at : Place) (x y : Option Ty) (v : Ty) → Derives scope a x
    → Derives scope b y → both index_rule x y ≡ Some v → HasType scope (expr.Index a b at) v
at_index scope a b at None y v f g h = cc
at_index scope a b at (Some t) None v f g h = cc
at_index scope a b at (Some t) (Some u) v f g h = by_index scope a b at (decayed t) (decayed u) v (ValueOf scope a t (f t refl)) (ValueOf scope b u (g u refl)) h

at_conditional : (scope : Scope) (c a b : Expr) (at : Place) (z x y : Option Ty) (v : Ty)
    → Derives scope c z → Derives scope a x → Derives scope b y
    → where_right (is_test z) (both (conditional_rule (is_nought a) (is_nought b)) x y) ≡ Some v → HasType scope (expr.Conditional c a b at) v
at_conditional scope c a b at None x y v e f g h = cc
at_conditional scope c a b at (Some s) None y v e f g h = let n : None ≡ Some v = right_gives (is_scalar (decayed s)) None v h in cc
at_conditional scope c a b at (Some s) (Some t) None v e f g h = let n : None ≡ Some v = right_gives (is_scalar (decayed s)) None v h in cc
at_conditional scope c a b at (Some s) (Some t) (Some u) v e f g h =
    let rule = conditional_value_rule (is_nought a) (is_nought b) (decayed t) (decayed u) in
    by_conditional scope c a b at (decayed s) (decayed t) (decayed u) v (ValueOf scope c s (e s refl)) (right_is (is_scalar (decayed s)) rule v h)
    (ValueOf scope a t (f t refl)) (ValueOf scope b u (g u refl)) (right_gives (is_scalar (decayed s)) rule v h)

at_assign : (scope : Scope) (how : Option Binary) (a b : Expr) (at : Place) (x y : Option Ty)
    (v : Ty) → Derives scope a x → Derives scope b y
    → where_right (is_place a) (both (assign_rule how (is_nought b)) x y) ≡ Some v → HasType scope (expr.Assign how a b at) v
at_assign scope how a b at None y v f g h = let n : None ≡ Some v = right_gives (is_place a) None v h in cc
at_assign scope how a b at (Some t) None v f g h = let n : None ≡ Some v = right_gives (is_place a) None v h in cc
at_assign scope how a b at (Some t) (Some u) v f g h =
    let fit = fits how t (is_nought b) (decayed u) in
    let e = right_gives (is_place a) (where_right fit (Some t)) v h in
    by_assign scope how a b at t (decayed u) v (right_is (is_place a) (where_right fit (Some t)) v h) (f t refl) (ValueOf scope b u (g u refl)) (right_is fit (Some t) v e) (right_gives fit (Some t) v e)

object_is : (known : Option Known) (t : Ty) → object known ≡ Some t → known ≡ Some (ObjectOf t)
object_is None t h = cc
object_is (Some (ObjectOf u)) t h = ap (λ s. Some (ObjectOf s)) (some_is u t h)
object_is (Some (FunctionOf u ps d)) t h = cc

-- of a function, whether the text defines it
is_defined : Option Known → Bool
is_defined (Some (FunctionOf t ps d)) = d
is_defined _ = true

result_is : (known : Option Known) (t : Ty) → result_of known ≡ Some t
    → (known ≡ Some (FunctionOf t (parameters_of known) (is_defined known))) × (is_void t ≡ false)
unfolding is_defined
result_is None t h = cc
result_is (Some (ObjectOf u)) t h = cc
result_is (Some (FunctionOf ty.Void ps d)) t h = cc
result_is (Some (FunctionOf ty.Int ps d)) t h = let e = some_is ty.Int t h in (ap (λ s. Some (FunctionOf s ps d)) e, ap is_void (sym e))
result_is (Some (FunctionOf ty.Unsigned ps d)) t h = let e = some_is ty.Unsigned t h in (ap (λ s. Some (FunctionOf s ps d)) e, ap is_void (sym e))
result_is (Some (FunctionOf ty.Char ps d)) t h = let e = some_is ty.Char t h in (ap (λ s. Some (FunctionOf s ps d)) e, ap is_void (sym e))
result_is (Some (FunctionOf (ty.Pointer u) ps d)) t h = let e = some_is (ty.Pointer u) t h in (ap (λ s. Some (FunctionOf s ps d)) e, ap is_void (sym e))
result_is (Some (FunctionOf (ty.Array u n) ps d)) t h = let e = some_is (ty.Array u n) t h in (ap (λ s. Some (FunctionOf s ps d)) e, ap is_void (sym e))

some_right : (b : Bool) (t : Ty) → is_some (where_right b (Some t)) ≡ true → b ≡ true
some_right true t h = refl
some_right false t h = cc

at_argument : (scope : Scope) (to : Ty) (ps : List Ty) (a : Expr) (rest : Exprs) (x : Option Ty)
    → Derives scope a x → is_taken to (is_nought a) x ≡ true → AreTaken scope ps rest
    → AreTaken scope (to ∷ ps) (expr.More a rest)
at_argument scope to ps a rest None f h more = cc
at_argument scope to ps a rest (Some u) f h more = OneTaken scope to ps a rest (decayed u) (ValueOf scope a u (f u refl)) (some_right (takes to (is_nought a) (decayed u)) to h) more

module _ (scope : Scope) where
  mutual
    pub derived : (e : Expr) (t : Ty) → type_at scope e ≡ Some t → HasType scope e t
    derived (expr.Name name at) t h = OfName scope name at t (object_is (look scope name) t h)
    derived (expr.Number s n at) t h = subst (HasType scope (expr.Number s n at)) (some_is s t h) (OfNumber scope s n at)
    derived (expr.Character code at) t h = subst (HasType scope (expr.Character code at)) (some_is ty.Int t h) (OfCharacter scope code at)
    derived (expr.Eof at) t h = subst (HasType scope (expr.Eof at)) (some_is ty.Int t h) (OfEof scope at)
    derived (expr.Unary op a at) t h = at_unary scope op a at (type_at scope a) t (derived a) h
    derived (expr.Step how a at) t h = at_step scope how a at (type_at scope a) t (derived a) h
    derived (expr.Cast to a at) t h = at_cast scope to a at (type_at scope a) t (derived a) h
    derived (expr.Binary op a b at) t h = at_binary scope op a b at (type_at scope a) (type_at scope b) t (derived a) (derived b) h
    derived (expr.Conditional c a b at) t h = at_conditional scope c a b at (type_at scope c) (type_at scope a) (type_at scope b) t (derived c) (derived a) (derived b) h
    derived (expr.Assign how a b at) t h = at_assign scope how a b at (type_at scope a) (type_at scope b) t (derived a) (derived b) h
    derived (expr.Index a b at) t h = at_index scope a b at (type_at scope a) (type_at scope b) t (derived a) (derived b) h
    derived (expr.Call name all at) t h =
        let known = called scope name in
        let taken = all_taken scope (parameters_of known) all in
        let k = result_is known t (right_gives taken (result_of known) t h) in
        OfCall scope name all at t (parameters_of known) (is_defined known) k.0 k.1 (all_derived (parameters_of known) all (right_is taken (result_of known) t h))

    pub all_derived : (ps : List Ty) (all : Exprs) → all_taken scope ps all ≡ true
        → AreTaken scope ps all
    all_derived [] expr.NoMore h = NoneTaken scope
    all_derived (to ∷ ps) expr.NoMore h = cc
    all_derived [] (expr.More a rest) h = cc
    all_derived (to ∷ ps) (expr.More a rest) h =
        at_argument scope to ps a rest (type_at scope a) (derived a) (left_true _ _ h) (all_derived ps rest (right_true (is_taken to (is_nought a) (type_at scope a)) _ h))
