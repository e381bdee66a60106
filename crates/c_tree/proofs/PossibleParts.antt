-- A rule on one part that has no type is broken where no type would make it hold.
use Rattle.std.proofs.Common.{◌≡◌, Bool, true, false, ◌||◌, ◌&&◌, Option, Some, None, is_some, refl, sym, subst}
use Rattle.c_tree.specs.declared.operator.Unary.{Unary}
use Rattle.c_tree.specs.declared.operator.Unary.TheVariants as unary
use Rattle.c_tree.specs.Ty.{Ty}
use Rattle.c_tree.specs.Ty as ty
use Rattle.c_tree.specs.Shapes.{is_void, is_integer, decayed}
use Rattle.c_tree.specs.Rules.{where_right, unary_rule, step_rule, cast_rule, assign_rule}
use Rattle.c_tree.specs.Breaches.{possible_one, may_take}
use Rattle.c_tree.specs.Completed.{Completed, CompletedPart, HasNoVoid, IsExactPart}
use Rattle.c_tree.proofs.Derived.{either}
use Rattle.c_tree.proofs.Possible.{assign_exact}

-- ---- rules for which int and a pointer to int are enough

module _ (rule : Ty → Option Ty) where
  by_part : (x : Option Ty) → HasNoVoid x → possible_one rule x ≡ true → CompletedPart rule x
  by_part (Some t) v h = record { part = t; might = (refl, v); holds = h }
  by_part None v h =
      either (is_some (rule ty.Int)) (is_some (rule (ty.Pointer ty.Int))) h
      (λ e. record { part = ty.Int; might = refl; holds = e })
      (λ e. record { part = ty.Pointer ty.Int; might = refl; holds = e })

  possible_by : ((t : Ty) → is_some (rule t) ≡ true → possible_one rule None ≡ true)
      → (x : Option Ty) → CompletedPart rule x → possible_one rule x ≡ true
  possible_by enough None c = enough c.part c.holds
  possible_by enough (Some t) c = subst (λ s. is_some (rule s) ≡ true) (sym c.might.0) c.holds

  exact_part : ((t : Ty) → is_some (rule t) ≡ true → possible_one rule None ≡ true)
      → IsExactPart (possible_one rule) rule
  exact_part enough x v = (by_part x v, possible_by enough x)

unary_enough : (op : Unary) (t : Ty) → is_some (unary_rule op t) ≡ true
    → possible_one (unary_rule op) None ≡ true
unary_enough unary.Plus t h = refl
unary_enough unary.Minus t h = refl
unary_enough unary.Not t h = refl
unary_enough unary.Flip t h = refl
unary_enough unary.At t h = refl
unary_enough unary.Address t h = cc

pub unary_exact : (op : Unary) → IsExactPart (possible_one (unary_rule op)) (unary_rule op)
unary_exact op = exact_part (unary_rule op) (unary_enough op)

pub step_exact : IsExactPart (possible_one step_rule) step_rule
step_exact = exact_part step_rule (λ t h. refl)

cast_enough : (b c : Bool) (to : Ty) → is_some (where_right (b && c) (Some to)) ≡ true
    → is_some (where_right (b && true) (Some to)) || is_some (where_right (b && false) (Some to)) ≡ true
cast_enough true c to h = refl
cast_enough false c to h = cc

pub cast_exact : (to : Ty) → IsExactPart (possible_one (cast_rule to)) (cast_rule to)
cast_exact to = exact_part (cast_rule to) (λ t. cast_enough (is_integer to) (is_integer (decayed t)) to)

-- ---- a value for an object of a type

module _ (to : Ty) (nought : Bool) (known : is_void to ≡ false) where
  the_part : (x : Option Ty) → Completed (assign_rule None nought) (Some to) x
      → CompletedPart (assign_rule None nought to) x
  the_part x c = record {
    part = c.right;
    might = c.might_right;
    holds = subst (λ s. is_some (assign_rule None nought s c.right) ≡ true) (sym c.might_left.0) c.holds;
  }

  as_assigned : (x : Option Ty) → CompletedPart (assign_rule None nought to) x
      → Completed (assign_rule None nought) (Some to) x
  as_assigned x c = record { left = to; right = c.part; might_left = (refl, known); might_right = c.might; holds = c.holds }

  pub taking_exact : IsExactPart (may_take to nought) (assign_rule None nought to)
  taking_exact x v =
      let both = assign_exact None nought (Some to) x known v in
      (λ h. the_part x (both.0 h), λ c. both.1 (as_assigned x c))
