-- A node with a part that has no type breaks a rule where no types for such parts would make it right.
use Rattle.std.proofs.Common.{◌≡◌, Bool, true, false, ◌&&◌, ◌||◌, Option, Some, None, is_some, refl, sym, ap, subst}
use Rattle.c_tree.specs.declared.operator.Binary.{Binary}
use Rattle.c_tree.specs.declared.operator.Group.{Group}
use Rattle.c_tree.specs.declared.operator.Group.TheVariants as by
use Rattle.c_tree.specs.Groups.{group, is_sum}
use Rattle.c_tree.specs.Ty.{Ty}
use Rattle.c_tree.specs.Ty as ty
use Rattle.c_tree.specs.Shapes.{is_integer, is_void, decayed}
use Rattle.c_tree.specs.Rules.{where_right, group_rule, binary_rule, conditional_rule, index_rule, assign_rule}
use Rattle.c_tree.specs.Breaches.{possible_right, possible_left, possible_both}
use Rattle.c_tree.specs.Completed.{MightHave, Completed, HasNoVoid, IsExact}
use Rattle.c_tree.proofs.ConstantLemmas.{binary_integral}
use Rattle.c_tree.proofs.Derived.{either}
use Rattle.c_tree.proofs.Related.{same_itself}

second_true : (b c : Bool) → c ≡ true → b || c ≡ true
second_true true c h = refl
second_true false c h = h

third_right : (rule : Ty → Ty → Option Ty) (t : Ty) → is_some (rule t (decayed t)) ≡ true
    → possible_right rule t ≡ true
third_right rule t h = second_true (is_some (rule t ty.Int) || is_some (rule t (ty.Pointer ty.Int))) (is_some (rule t (decayed t))) h

third_left : (rule : Ty → Ty → Option Ty) (u : Ty) → is_some (rule (decayed u) u) ≡ true
    → possible_left rule u ≡ true
third_left rule u h = second_true (is_some (rule ty.Int u) || is_some (rule (ty.Pointer ty.Int) u)) (is_some (rule (decayed u) u)) h

first_true : (a b c : Bool) → a ≡ true → a || b || c ≡ true
first_true true b c h = refl
first_true false b c h = cc

never_right : {P : Type 0} (b : Bool) (v : Option Ty) → is_some (where_right (b && false) v) ≡ true
    → P
never_right true v h = cc
never_right false v h = cc

some_by : (o : Option Ty) (t : Ty) → o ≡ Some t → is_some o ≡ true
some_by o t h = ap is_some h

-- ---- a rule for which the types that are tried are enough

record IsEnough (rule : Ty → Ty → Option Ty) : Type 0 where
  right : (t u : Ty) → is_void t ≡ false → is_some (rule t u) ≡ true → possible_right rule t ≡ true
  left : (t u : Ty) → is_void u ≡ false → is_some (rule t u) ≡ true → possible_left rule u ≡ true
  none : possible_both rule None None ≡ true

void_decayed : (t : Ty) → is_void t ≡ false → is_void (decayed t) ≡ false
void_decayed ty.Void h = cc
void_decayed t h = refl

module _ (rule : Ty → Ty → Option Ty) where
  completed : (x y : Option Ty) (t u : Ty) → MightHave x t → MightHave y u
      → is_some (rule t u) ≡ true → Completed rule x y
  completed x y t u h k e = record { left = t; right = u; might_left = h; might_right = k; holds = e }

  by_right : (x : Option Ty) (t : Ty) → MightHave x t → is_void t ≡ false
      → possible_right rule t ≡ true → Completed rule x None
  by_right x t m v h =
      either (is_some (rule t ty.Int) || is_some (rule t (ty.Pointer ty.Int))) (is_some (rule t (decayed t))) h
      (λ g. either (is_some (rule t ty.Int)) (is_some (rule t (ty.Pointer ty.Int))) g (λ e. completed x None t ty.Int m refl e) (λ e. completed x None t (ty.Pointer ty.Int) m refl e))
      (λ e. completed x None t (decayed t) m (void_decayed t v) e)

  by_left : (y : Option Ty) (u : Ty) → MightHave y u → is_void u ≡ false
      → possible_left rule u ≡ true → Completed rule None y
  by_left y u m v h =
      either (is_some (rule ty.Int u) || is_some (rule (ty.Pointer ty.Int) u)) (is_some (rule (decayed u) u)) h
      (λ g. either (is_some (rule ty.Int u)) (is_some (rule (ty.Pointer ty.Int) u)) g (λ e. completed None y ty.Int u refl m e) (λ e. completed None y (ty.Pointer ty.Int) u refl m e))
      (λ e. completed None y (decayed u) u (void_decayed u v) m e)

  -- what is possible, some types complete
  completes : (x y : Option Ty) → HasNoVoid x → HasNoVoid y → possible_both rule x y ≡ true
      → Completed rule x y
  completes (Some t) (Some u) v w h = completed (Some t) (Some u) t u (refl, v) (refl, w) h
  completes (Some t) None v w h = by_right (Some t) t (refl, v) v h
  completes None (Some u) v w h = by_left (Some u) u (refl, w) w h
  completes None None v w h =
      either (possible_right rule ty.Int) (possible_right rule (ty.Pointer ty.Int)) h
      (λ g. by_right None ty.Int refl refl g) (λ g. by_right None (ty.Pointer ty.Int) refl refl g)

  -- what some types complete is possible
  possible : IsEnough rule → (x y : Option Ty) → Completed rule x y → possible_both rule x y ≡ true
  possible enough None None c = enough.none
  possible enough (Some t) None c = subst (λ s. possible_right rule s ≡ true) (sym c.might_left.0) (enough.right c.left c.right c.might_left.1 c.holds)
  possible enough None (Some u) c = subst (λ s. possible_left rule s ≡ true) (sym c.might_right.0) (enough.left c.left c.right c.might_right.1 c.holds)
  possible enough (Some t) (Some u) c =
      subst (λ s. is_some (rule s u) ≡ true) (sym c.might_left.0) (subst (λ s. is_some (rule c.left s) ≡ true) (sym c.might_right.0) c.holds)

  exact : IsEnough rule → IsExact rule
  exact enough x y v w = (completes x y v w, possible enough x y)

-- ---- operators between two values

integer_right : (op : Binary) (n m : Bool) (t : Ty) → is_integer t ≡ true
    → possible_right (binary_rule op n m) t ≡ true
integer_right op n m t i =
    let k = binary_integral op n m t ty.Int i refl in
    first_true (is_some (binary_rule op n m t ty.Int)) (is_some (binary_rule op n m t (ty.Pointer ty.Int))) (is_some (binary_rule op n m t (decayed t))) (some_by _ _ k.1)

integer_left : (op : Binary) (n m : Bool) (u : Ty) → is_integer u ≡ true
    → possible_left (binary_rule op n m) u ≡ true
integer_left op n m u i =
    let k = binary_integral op n m ty.Int u refl i in
    first_true (is_some (binary_rule op n m ty.Int u)) (is_some (binary_rule op n m (ty.Pointer ty.Int) u)) (is_some (binary_rule op n m (decayed u) u)) (some_by _ _ k.1)

-- the rule of a group on the types of two parts as they stand
abbrev ruled : Group → Bool → Bool → Ty → Ty → Option Ty
ruled g n m t u = group_rule g n m (decayed t) (decayed u)

pointer_right : (g : Group) (n m : Bool) (s u : Ty) → is_some (ruled g n m (ty.Pointer s) u) ≡ true
    → possible_right (ruled g n m) (ty.Pointer s) ≡ true
pointer_right by.Or n m s u h = refl
pointer_right by.And n m s u h = refl
pointer_right by.BitOr n m s u h = cc
pointer_right by.BitXor n m s u h = cc
pointer_right by.BitAnd n m s u h = cc
pointer_right by.Equality n m s u h = third_right (ruled by.Equality n m) (ty.Pointer s) (rw (same_itself s) refl)
pointer_right by.Order n m s u h = third_right (ruled by.Order n m) (ty.Pointer s) (rw (same_itself s) refl)
pointer_right by.Shift n m s u h = cc
pointer_right by.Sum n m s u h = refl
pointer_right by.Difference n m s u h = refl
pointer_right by.Product n m s u h = cc

pointer_left : (g : Group) (n m : Bool) (t s : Ty) → is_some (ruled g n m t (ty.Pointer s)) ≡ true
    → possible_left (ruled g n m) (ty.Pointer s) ≡ true
pointer_left by.Or n m t s h = refl
pointer_left by.And n m t s h = refl
pointer_left by.BitOr n m t s h = never_right (is_integer (decayed t)) _ h
pointer_left by.BitXor n m t s h = never_right (is_integer (decayed t)) _ h
pointer_left by.BitAnd n m t s h = never_right (is_integer (decayed t)) _ h
pointer_left by.Equality n m t s h = third_left (ruled by.Equality n m) (ty.Pointer s) (rw (same_itself s) refl)
pointer_left by.Order n m t s h = third_left (ruled by.Order n m) (ty.Pointer s) (rw (same_itself s) refl)
pointer_left by.Shift n m t s h = never_right (is_integer (decayed t)) _ h
pointer_left by.Sum n m t s h = refl
pointer_left by.Difference n m t s h = third_left (ruled by.Difference n m) (ty.Pointer s) (rw (same_itself s) refl)
pointer_left by.Product n m t s h = never_right (is_integer (decayed t)) _ h

binary_none : (op : Binary) (n m : Bool) → possible_both (binary_rule op n m) None None ≡ true
binary_none op n m = let k : possible_right (binary_rule op n m) ty.Int ≡ true = integer_right op n m ty.Int refl in rw k refl

binary_right : (op : Binary) (n m : Bool) (t u : Ty) → is_void t ≡ false
    → is_some (binary_rule op n m t u) ≡ true → possible_right (binary_rule op n m) t ≡ true
binary_right op n m ty.Int u v h = integer_right op n m ty.Int refl
binary_right op n m ty.Unsigned u v h = integer_right op n m ty.Unsigned refl
binary_right op n m ty.Char u v h = integer_right op n m ty.Char refl
binary_right op n m ty.Void u v h = cc
binary_right op n m (ty.Pointer s) u v h = pointer_right (group op) n m s u h
binary_right op n m (ty.Array s k) u v h = pointer_right (group op) n m s u h

binary_left : (op : Binary) (n m : Bool) (t u : Ty) → is_void u ≡ false
    → is_some (binary_rule op n m t u) ≡ true → possible_left (binary_rule op n m) u ≡ true
binary_left op n m t ty.Int v h = integer_left op n m ty.Int refl
binary_left op n m t ty.Unsigned v h = integer_left op n m ty.Unsigned refl
binary_left op n m t ty.Char v h = integer_left op n m ty.Char refl
binary_left op n m t ty.Void v h = cc
binary_left op n m t (ty.Pointer s) v h = pointer_left (group op) n m t s h
binary_left op n m t (ty.Array s k) v h = pointer_left (group op) n m t s h

pub binary_exact : (op : Binary) (n m : Bool) → IsExact (binary_rule op n m)
binary_exact op n m = exact (binary_rule op n m) (record { right = binary_right op n m; left = binary_left op n m; none = binary_none op n m })

-- ---- the last two operands of `?:`

conditional_right : (n m : Bool) (t u : Ty) → is_void t ≡ false
    → is_some (conditional_rule n m t u) ≡ true → possible_right (conditional_rule n m) t ≡ true
conditional_right n m ty.Void u v h = cc
conditional_right n m (ty.Pointer s) u v h = third_right (conditional_rule n m) (ty.Pointer s) (rw (same_itself s) refl)
conditional_right n m (ty.Array s k) u v h = third_right (conditional_rule n m) (ty.Array s k) (rw (same_itself s) refl)
conditional_right n m t u v h = refl

conditional_left : (n m : Bool) (t u : Ty) → is_void u ≡ false
    → is_some (conditional_rule n m t u) ≡ true → possible_left (conditional_rule n m) u ≡ true
conditional_left n m t ty.Void v h = cc
conditional_left n m t (ty.Pointer s) v h = third_left (conditional_rule n m) (ty.Pointer s) (rw (same_itself s) refl)
conditional_left n m t (ty.Array s k) v h = third_left (conditional_rule n m) (ty.Array s k) (rw (same_itself s) refl)
conditional_left n m t u v h = refl

pub conditional_exact : (n m : Bool) → IsExact (conditional_rule n m)
conditional_exact n m = exact (conditional_rule n m) (record { right = conditional_right n m; left = conditional_left n m; none = refl })

-- ---- `a[i]`

index_right : (t u : Ty) → is_void t ≡ false → is_some (index_rule t u) ≡ true
    → possible_right index_rule t ≡ true
index_right ty.Void u v h = cc
index_right t u v h = refl

index_left : (t u : Ty) → is_void u ≡ false → is_some (index_rule t u) ≡ true
    → possible_left index_rule u ≡ true
index_left t ty.Void v h = cc
index_left t u v h = refl

pub index_exact : IsExact index_rule
index_exact = exact index_rule (record { right = index_right; left = index_left; none = refl })

-- ---- assignments

assign_right : (how : Option Binary) (n : Bool) (t u : Ty) → is_void t ≡ false
    → is_some (assign_rule how n t u) ≡ true → possible_right (assign_rule how n) t ≡ true
assign_right None n ty.Int u v h = refl
assign_right None n ty.Unsigned u v h = refl
assign_right None n ty.Char u v h = refl
assign_right how n ty.Void u v h = cc
assign_right None n (ty.Pointer s) u v h = third_right (assign_rule None n) (ty.Pointer s) (rw (same_itself s) refl)
assign_right None n (ty.Array s k) u v h = cc
assign_right (Some op) n ty.Int u v h = refl
assign_right (Some op) n ty.Unsigned u v h = refl
assign_right (Some op) n ty.Char u v h = refl
assign_right (Some op) n (ty.Pointer s) u v h = go (is_sum (group op)) h
  where
    go : (b : Bool) → is_some (where_right (b && is_integer (decayed u)) (Some (ty.Pointer s)))
        ≡ true
        → is_some (where_right (b && true) (Some (ty.Pointer s))) || is_some (where_right (b && false) (Some (ty.Pointer s))) || is_some (where_right (b && false) (Some (ty.Pointer s))) ≡ true
    go true e = refl
    go false e = cc
assign_right (Some op) n (ty.Array s k) u v h = cc

assign_left : (how : Option Binary) (n : Bool) (t u : Ty) → is_void u ≡ false
    → is_some (assign_rule how n t u) ≡ true → possible_left (assign_rule how n) u ≡ true
assign_left how n t ty.Void v h = cc
assign_left None n t ty.Int v h = refl
assign_left None n t ty.Unsigned v h = refl
assign_left None n t ty.Char v h = refl
assign_left None n t (ty.Pointer s) v h = third_left (assign_rule None n) (ty.Pointer s) (rw (same_itself s) refl)
assign_left None n t (ty.Array s k) v h = third_left (assign_rule None n) (ty.Array s k) (rw (same_itself s) refl)
assign_left (Some op) n t ty.Int v h = refl
assign_left (Some op) n t ty.Unsigned v h = refl
assign_left (Some op) n t ty.Char v h = refl
assign_left (Some op) n t (ty.Pointer s) v h = never_right _ _ h
assign_left (Some op) n t (ty.Array s k) v h = never_right _ _ h

assign_none : (how : Option Binary) (n : Bool) → possible_both (assign_rule how n) None None ≡ true
assign_none None n = refl
assign_none (Some op) n = refl

pub assign_exact : (how : Option Binary) (n : Bool) → IsExact (assign_rule how n)
assign_exact how n = exact (assign_rule how n) (record { right = assign_right how n; left = assign_left how n; none = assign_none how n })
