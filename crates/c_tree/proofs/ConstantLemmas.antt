-- An expression without a breach of the rules of a constant has a value, and its type in every scope.
use Rattle.std.proofs.Common.{◌≡◌, ℕ, ◌==◌, Bool, true, false, not, ◌&&◌, ◌||◌, List, [], ◌++◌, Option, Some, None, is_some, if◌then◌else◌, refl, ap, ap₂, ◌∙◌}
use Rattle.c_tree.specs.declared.usage.Use.TheVariants.{Value}
use Rattle.c_tree.specs.declared.breach.Breach.{Breach}
use Rattle.c_tree.specs.declared.breach.Broken.{Broken}
use Rattle.c_tree.specs.declared.breach.Broken.TheVariants.{NotConstant, Unknown}
use Rattle.c_tree.specs.declared.operator.Binary.{Binary}
use Rattle.c_tree.specs.declared.operator.Group.{Group}
use Rattle.c_tree.specs.declared.operator.Group.TheVariants as by
use Rattle.c_tree.specs.declared.operator.Unary.{Unary}
use Rattle.c_tree.specs.declared.operator.Unary.TheVariants as unary
use Rattle.c_tree.specs.declared.place.Place.{Place}
use Rattle.c_tree.specs.Groups.{group}
use Rattle.c_tree.specs.Ty.{Ty}
use Rattle.c_tree.specs.Ty as ty
use Rattle.c_tree.specs.Expr.{Expr}
use Rattle.c_tree.specs.Expr as expr
use Rattle.c_tree.specs.Scope.{Scope}
use Rattle.c_tree.specs.Shapes.{is_integer, is_unsigned, decayed, promoted, common}
use Rattle.c_tree.specs.Rules.{where_right, is_nought, is_place, group_rule, binary_rule, conditional_rule, cast_rule}
use Rattle.c_tree.specs.Typing.{type_at, one, both, unary_type, is_test}
use Rattle.c_tree.specs.Breaches.{breaches}
use Rattle.c_tree.specs.Arithmetic.{converted}
use Rattle.c_tree.specs.Constant.{is_arithmetic, unary_shape, group_shape, binary_shape, constant_shape, on_one, needs_second, chosen, value_of, is_ready, act_breaches, name_breach, foreign_name, foreign, constant_breaches}
use Rattle.c_tree.proofs.LeastBreach.{HasEach}
use Rattle.c_tree.proofs.TypingBreaches.{each-append, each_unless}
use Rattle.c_tree.proofs.NoBreach.{nil_left, nil_right, holds, never, and_true}

foreign_never : {P : Type 0} (scope : Option Scope) (e : Expr) (at : Place)
    → foreign scope e at ≡ [] → P
foreign_never None e at h = never NotConstant at h
foreign_never (Some scope) e at h = never NotConstant at (nil_right (breaches scope Value e) _ h)

breach_never : {P : Type 0} (visible : Bool) (at : Place) → name_breach visible at ≡ [] → P
breach_never true at h = never NotConstant at h
breach_never false at h = never Unknown at h

name_never : {P : Type 0} (scope : Option Scope) (name : List ℕ) (at : Place)
    → foreign_name scope name at ≡ [] → P
name_never None name at h = never NotConstant at h
name_never (Some scope) name at h = breach_never _ at h

acted : (live ready : Bool) (v : Option ℕ) (at : Place) → live ≡ true → ready ≡ true
    → act_breaches live ready v at ≡ [] → is_some v ≡ true
acted true true v at l r h = holds _ _ _ h
acted true false v at l r h = cc
acted false ready v at l r h = cc

ready_by : (op : Binary) (x y : Option ℕ) → is_some x ≡ true
    → (needs_second op x ≡ true → is_some y ≡ true) → is_ready op x y ≡ true
ready_by op None y s f = cc
ready_by op (Some x) y s f = go (needs_second op (Some x)) f
  where
    go : (b : Bool) → (b ≡ true → is_some y ≡ true) → not b || is_some y ≡ true
    go true f = f refl
    go false f = refl

number_valued : (b : Bool) (n : ℕ) (bs : List Breach) → (bs ≡ [] → false ≡ true)
    → (if b then [] else bs) ≡ [] → is_some (if b then Some n else None) ≡ true
number_valued true n bs f h = refl
number_valued false n bs f h = f h

unary_valued : (b live ready : Bool) (xs fs : List Breach) (v : Option ℕ) (at : Place)
    → live ≡ true → (xs ≡ [] → ready ≡ true) → (fs ≡ [] → false ≡ true)
    → (if b then xs ++ act_breaches live ready (if b then v else None) at else fs) ≡ [] → is_some (if b then v else None) ≡ true
unary_valued true live ready xs fs v at l r f h = acted live ready v at l (r (nil_left xs _ h)) (nil_right xs _ h)
unary_valued false live ready xs fs v at l r f h = f h

cast_valued : (b : Bool) (to : Ty) (xs fs : List Breach) (x : Option ℕ)
    → (xs ≡ [] → is_some x ≡ true) → (fs ≡ [] → false ≡ true)
    → (if b then xs else fs) ≡ [] → is_some (if b then on_one (λ x. Some (converted to x)) x else None) ≡ true
cast_valued true to xs fs None f g h = f h
cast_valued true to xs fs (Some x) f g h = refl
cast_valued false to xs fs x f g h = g h

conditional_valued : (live : Bool) (test x y : Option ℕ) → live ≡ true → is_some test ≡ true
    → (live && chosen false test true false ≡ true → is_some x ≡ true) → (live && chosen false test false true ≡ true → is_some y ≡ true)
    → is_some (chosen None test x y) ≡ true
conditional_valued live None x y l s f g = cc
conditional_valued live (Some n) x y l s f g = go (n == 0) f g
  where
    go : (t : Bool) → (live && (if t then false else true) ≡ true → is_some x ≡ true)
        → (live && (if t then true else false) ≡ true → is_some y ≡ true)
        → is_some (if t then y else x) ≡ true
    go true f g = g (and_true live true l refl)
    go false f g = f (and_true live true l refl)

module _ (scope : Option Scope) where
  pub valued : (live : Bool) (e : Expr) → live ≡ true → constant_breaches scope live e ≡ []
      → is_some (value_of e) ≡ true
  valued live (expr.Number t n at) l h = number_valued (is_integer t) n _ (foreign_never scope (expr.Number t n at) at) h
  valued live (expr.Character code at) l h = refl
  valued live (expr.Eof at) l h = refl
  valued live (expr.Unary op a at) l h = unary_valued (is_arithmetic op) live (is_some (value_of a)) (constant_breaches scope live a) _ _ at l (valued live a l) (foreign_never scope (expr.Unary op a at) at) h
  valued live (expr.Cast to a at) l h = cast_valued (is_integer to) to (constant_breaches scope live a) _ (value_of a) (valued live a l) (foreign_never scope (expr.Cast to a at) at) h
  valued live (expr.Binary op a b at) l h =
      let h1 = nil_right (constant_breaches scope live a) _ h in
      let needed = live && needs_second op (value_of a) in
      let first = valued live a l (nil_left _ _ h) in
      let second = λ (n : needs_second op (value_of a) ≡ true). valued needed b (and_true live _ l n) (nil_left (constant_breaches scope needed b) _ h1) in
      acted live (is_ready op (value_of a) (value_of b)) (value_of (expr.Binary op a b at)) at l (ready_by op (value_of a) (value_of b) first second) (nil_right (constant_breaches scope needed b) _ h1)
  valued live (expr.Conditional c a b at) l h =
      let h1 = nil_right (constant_breaches scope live c) _ h in
      let left = live && chosen false (value_of c) true false in
      let right = live && chosen false (value_of c) false true in
      conditional_valued live (value_of c) (value_of a) (value_of b) l (valued live c l (nil_left _ _ h))
      (λ k. valued left a k (nil_left _ _ h1)) (λ k. valued right b k (nil_right (constant_breaches scope left a) _ h1))
  valued live (expr.Name name at) l h = name_never scope name at h
  valued live (expr.Step how a at) l h = foreign_never scope (expr.Step how a at) at h
  valued live (expr.Assign how a b at) l h = foreign_never scope (expr.Assign how a b at) at h
  valued live (expr.Index a b at) l h = foreign_never scope (expr.Index a b at) at h
  valued live (expr.Call name all at) l h = foreign_never scope (expr.Call name all at) at h

-- ---- its type

-- an integer type, and it is the type
abbrev pub Integral : Option Ty → Ty → Type 0
Integral found t = (is_integer t ≡ true) × (found ≡ Some t)

pub settled : (t : Ty) → is_integer t ≡ true → decayed t ≡ t
settled ty.Int h = refl
settled ty.Unsigned h = refl
settled ty.Char h = refl
settled t h = cc

promoted_integer : (t : Ty) → is_integer t ≡ true → is_integer (promoted t) ≡ true
promoted_integer ty.Int h = refl
promoted_integer ty.Unsigned h = refl
promoted_integer ty.Char h = refl
promoted_integer t h = cc

common_integer : (t u : Ty) → is_integer (common t u) ≡ true
common_integer t u = go (is_unsigned t || is_unsigned u)
  where
    go : (b : Bool) → is_integer (if b then ty.Unsigned else ty.Int) ≡ true
    go true = refl
    go false = refl

unary_integral : (op : Unary) (place : Bool) (t : Ty) → is_integer t ≡ true
    → is_arithmetic op ≡ true → Integral (unary_type op place (Some t)) (unary_shape op t)
unary_integral unary.Plus place t i a = let d : decayed t ≡ t = settled t i in (promoted_integer t i, rw (d, i) refl)
unary_integral unary.Minus place t i a = let d : decayed t ≡ t = settled t i in (promoted_integer t i, rw (d, i) refl)
unary_integral unary.Not place t i a = let d : decayed t ≡ t = settled t i in (refl, rw (d, i) refl)
unary_integral unary.Flip place t i a = let d : decayed t ≡ t = settled t i in (promoted_integer t i, rw (d, i) refl)
unary_integral unary.At place t i a = cc
unary_integral unary.Address place t i a = cc

group_integral : (g : Group) (n m : Bool) (t u : Ty) → is_integer t ≡ true → is_integer u ≡ true
    → Integral (group_rule g n m (decayed t) (decayed u)) (group_shape g t u)
group_integral by.Or n m t u i j = let d : decayed t ≡ t = settled t i in let e : decayed u ≡ u = settled u j in (refl, rw (d, e, i, j) refl)
group_integral by.And n m t u i j = let d : decayed t ≡ t = settled t i in let e : decayed u ≡ u = settled u j in (refl, rw (d, e, i, j) refl)
group_integral by.BitOr n m t u i j = let d : decayed t ≡ t = settled t i in let e : decayed u ≡ u = settled u j in (common_integer t u, rw (d, e, i, j) refl)
group_integral by.BitXor n m t u i j = let d : decayed t ≡ t = settled t i in let e : decayed u ≡ u = settled u j in (common_integer t u, rw (d, e, i, j) refl)
group_integral by.BitAnd n m t u i j = let d : decayed t ≡ t = settled t i in let e : decayed u ≡ u = settled u j in (common_integer t u, rw (d, e, i, j) refl)
group_integral by.Equality n m t u i j = let d : decayed t ≡ t = settled t i in let e : decayed u ≡ u = settled u j in (refl, rw (d, e, i, j) refl)
group_integral by.Order n m t u i j = let d : decayed t ≡ t = settled t i in let e : decayed u ≡ u = settled u j in (refl, rw (d, e, i, j) refl)
group_integral by.Shift n m t u i j = let d : decayed t ≡ t = settled t i in let e : decayed u ≡ u = settled u j in (promoted_integer t i, rw (d, e, i, j) refl)
group_integral by.Sum n m t u i j = let d : decayed t ≡ t = settled t i in let e : decayed u ≡ u = settled u j in (common_integer t u, rw (d, e, i, j) refl)
group_integral by.Difference n m t u i j = let d : decayed t ≡ t = settled t i in let e : decayed u ≡ u = settled u j in (common_integer t u, rw (d, e, i, j) refl)
group_integral by.Product n m t u i j = let d : decayed t ≡ t = settled t i in let e : decayed u ≡ u = settled u j in (common_integer t u, rw (d, e, i, j) refl)

pub binary_integral : (op : Binary) (n m : Bool) (t u : Ty) → is_integer t ≡ true
    → is_integer u ≡ true → Integral (binary_rule op n m t u) (binary_shape op t u)
binary_integral op n m t u i j = group_integral (group op) n m t u i j

number_typed : (b : Bool) (t : Ty) (bs : List Breach) → is_integer t ≡ b → (bs ≡ [] → false ≡ true)
    → (if b then [] else bs) ≡ [] → Integral (Some t) (if b then t else ty.Int)
number_typed true t bs i f h = (i, refl)
number_typed false t bs i f h = let n : false ≡ true = f h in cc

conditional_typed : (n m : Bool) (c t u : Ty) → is_integer c ≡ true → is_integer t ≡ true
    → is_integer u ≡ true → conditional_rule n m t u ≡ Some (common t u)
conditional_typed n m c t u k i j = let d : decayed t ≡ t = settled t i in let e : decayed u ≡ u = settled u j in rw (d, e, i, j) refl

unary_typed : (b : Bool) (op : Unary) (place : Bool) (found : Option Ty) (t : Ty)
    (xs ys fs : List Breach) → is_arithmetic op ≡ b → (xs ≡ [] → Integral found t)
    → (fs ≡ [] → false ≡ true)
    → (if b then xs ++ ys else fs) ≡ [] → Integral (unary_type op place found) (if b then unary_shape op t else ty.Int)
unary_typed true op place found t xs ys fs a f g h =
    let k : Integral found t = f (nil_left xs ys h) in
    let r : Integral (unary_type op place (Some t)) (unary_shape op t) = unary_integral op place t k.0 a in
    (r.0, ap (unary_type op place) k.1 ∙ r.1)
unary_typed false op place found t xs ys fs a f g h = let n : false ≡ true = g h in cc

cast_type : (to t : Ty) → is_integer to ≡ true → is_integer t ≡ true → cast_rule to t ≡ Some to
cast_type to t i j = let d : decayed t ≡ t = settled t j in rw (i, d, j) refl

cast_typed : (b : Bool) (to : Ty) (found : Option Ty) (t : Ty) (xs fs : List Breach)
    → is_integer to ≡ b → (xs ≡ [] → Integral found t) → (fs ≡ [] → false ≡ true)
    → (if b then xs else fs) ≡ [] → Integral (one (cast_rule to) found) (if b then to else ty.Int)
cast_typed true to found t xs fs i f g h =
    let k : Integral found t = f h in
    (i, ap (one (cast_rule to)) k.1 ∙ cast_type to t i k.0)
cast_typed false to found t xs fs i f g h = let n : false ≡ true = g h in cc

binary_typed : (op : Binary) (n m : Bool) (x y : Option Ty) (t u : Ty) → Integral x t
    → Integral y u → Integral (both (binary_rule op n m) x y) (binary_shape op t u)
binary_typed op n m x y t u k l =
    let r : Integral (binary_rule op n m t u) (binary_shape op t u) = binary_integral op n m t u k.0 l.0 in
    (r.0, ap₂ (both (binary_rule op n m)) k.1 l.1 ∙ r.1)

tested : (c : Ty) → is_integer c ≡ true → is_test (Some c) ≡ true
tested c i = let d : decayed c ≡ c = settled c i in rw (d, i) refl

chosen_typed : (n m : Bool) (x y z : Option Ty) (c t u : Ty) → Integral x c → Integral y t
    → Integral z u → Integral (where_right (is_test x) (both (conditional_rule n m) y z))
    (common t u)
chosen_typed n m x y z c t u j k l =
    let r : conditional_rule n m t u ≡ Some (common t u) = conditional_typed n m c t u j.0 k.0 l.0 in
    let e : is_test x ≡ true = ap is_test j.1 ∙ tested c j.0 in
    let v : both (conditional_rule n m) y z ≡ Some (common t u) = ap₂ (both (conditional_rule n m)) k.1 l.1 ∙ r in
    (common_integer t u, rw (e, v) refl)

module _ (scope : Option Scope) (s : Scope) where
  pub constant_typed : (live : Bool) (e : Expr) → constant_breaches scope live e ≡ []
      → Integral (type_at s e) (constant_shape e)
  constant_typed live (expr.Number t n at) h = number_typed (is_integer t) t _ refl (foreign_never scope (expr.Number t n at) at) h
  constant_typed live (expr.Character code at) h = (refl, refl)
  constant_typed live (expr.Eof at) h = (refl, refl)
  constant_typed live (expr.Unary op a at) h = unary_typed (is_arithmetic op) op (is_place a) (type_at s a) (constant_shape a) (constant_breaches scope live a) _ _ refl (constant_typed live a) (foreign_never scope (expr.Unary op a at) at) h
  constant_typed live (expr.Cast to a at) h = cast_typed (is_integer to) to (type_at s a) (constant_shape a) (constant_breaches scope live a) _ refl (constant_typed live a) (foreign_never scope (expr.Cast to a at) at) h
  constant_typed live (expr.Binary op a b at) h =
      let h1 = nil_right (constant_breaches scope live a) _ h in
      let needed = live && needs_second op (value_of a) in
      binary_typed op (is_nought a) (is_nought b) (type_at s a) (type_at s b) (constant_shape a) (constant_shape b) (constant_typed live a (nil_left _ _ h)) (constant_typed needed b (nil_left (constant_breaches scope needed b) _ h1))
  constant_typed live (expr.Conditional c a b at) h =
      let h1 = nil_right (constant_breaches scope live c) _ h in
      let left = live && chosen false (value_of c) true false in
      let right = live && chosen false (value_of c) false true in
      chosen_typed (is_nought a) (is_nought b) (type_at s c) (type_at s a) (type_at s b) (constant_shape c) (constant_shape a) (constant_shape b)
      (constant_typed live c (nil_left _ _ h)) (constant_typed left a (nil_left _ _ h1)) (constant_typed right b (nil_right (constant_breaches scope left a) _ h1))
  constant_typed live (expr.Name name at) h = name_never scope name at h
  constant_typed live (expr.Step how a at) h = foreign_never scope (expr.Step how a at) at h
  constant_typed live (expr.Assign how a b at) h = foreign_never scope (expr.Assign how a b at) at h
  constant_typed live (expr.Index a b at) h = foreign_never scope (expr.Index a b at) at h
  constant_typed live (expr.Call name all at) h = foreign_never scope (expr.Call name all at) at h

-- ---- without a scope all is one kind

abbrev pub is_not_constant : Broken → Bool
is_not_constant NotConstant = true
is_not_constant _ = false

act_kinds : (live ready : Bool) (v : Option ℕ) (at : Place)
    → HasEach is_not_constant (act_breaches live ready v at)
act_kinds live ready v at = each_unless is_not_constant _ NotConstant at refl

conditional_kinds : (b : Bool) (xs ys : List Breach) → HasEach is_not_constant xs
    → HasEach is_not_constant ys → HasEach is_not_constant (if b then xs else ys)
conditional_kinds true xs ys h k = h
conditional_kinds false xs ys h k = k

pub constant_kinds : (live : Bool) (e : Expr)
    → HasEach is_not_constant (constant_breaches None live e)
constant_kinds live (expr.Number t n at) = conditional_kinds (is_integer t) [] _ tt (refl, tt)
constant_kinds live (expr.Character code at) = tt
constant_kinds live (expr.Eof at) = tt
constant_kinds live (expr.Unary op a at) = conditional_kinds (is_arithmetic op) _ _ (each-append is_not_constant (constant_breaches None live a) _ (constant_kinds live a) (act_kinds live _ _ at)) (refl, tt)
constant_kinds live (expr.Cast to a at) = conditional_kinds (is_integer to) _ _ (constant_kinds live a) (refl, tt)
constant_kinds live (expr.Binary op a b at) =
    each-append is_not_constant (constant_breaches None live a) _ (constant_kinds live a)
    (each-append is_not_constant (constant_breaches None (live && needs_second op (value_of a)) b) _ (constant_kinds (live && needs_second op (value_of a)) b) (act_kinds live _ _ at))
constant_kinds live (expr.Conditional c a b at) =
    each-append is_not_constant (constant_breaches None live c) _ (constant_kinds live c)
    (each-append is_not_constant (constant_breaches None (live && chosen false (value_of c) true false) a) _ (constant_kinds (live && chosen false (value_of c) true false) a) (constant_kinds (live && chosen false (value_of c) false true) b))
constant_kinds live (expr.Name name at) = (refl, tt)
constant_kinds live (expr.Step how a at) = (refl, tt)
constant_kinds live (expr.Assign how a b at) = (refl, tt)
constant_kinds live (expr.Index a b at) = (refl, tt)
constant_kinds live (expr.Call name all at) = (refl, tt)
