-- Parts that have no type: which types would make a node right.
use Rattle.std.specs.Prelude.{◌≡◌, ◌↔◌, Bool, true, false, Option, Some, None, is_some}
use Rattle.c_tree.specs.Ty.{Ty}
use Rattle.c_tree.specs.Breaches.{possible_both}
use Rattle.c_tree.specs.Shapes.{is_void}

-- a type that a part has, or might have; no value is void
abbrev pub MightHave : Option Ty → Ty → Type 0
MightHave None t = is_void t ≡ false
MightHave (Some s) t = (s ≡ t) × (is_void t ≡ false)

-- some types for the parts that have none make a rule hold
pub record Completed (rule : Ty → Ty → Option Ty) (x y : Option Ty) : Type 0 where
  pub left : Ty
  pub right : Ty
  pub might_left : MightHave x left
  pub might_right : MightHave y right
  pub holds : is_some (rule left right) ≡ true

abbrev pub HasNoVoid : Option Ty → Type 0
HasNoVoid None = Unit {0}
HasNoVoid (Some t) = is_void t ≡ false

-- a node is possible exactly where some types make its rule hold
abbrev pub IsExact : (Ty → Ty → Option Ty) → Type 0
IsExact rule = (x y : Option Ty) → HasNoVoid x → HasNoVoid y
    → (possible_both rule x y ≡ true) ↔ Completed rule x y

-- some type for a part that has none makes a rule on one part hold
pub record CompletedPart (rule : Ty → Option Ty) (x : Option Ty) : Type 0 where
  pub part : Ty
  pub might : MightHave x part
  pub holds : is_some (rule part) ≡ true

-- what is said to be possible for one part is so exactly where some type makes its rule hold
abbrev pub IsExactPart : (Option Ty → Bool) → (Ty → Option Ty) → Type 0
IsExactPart possible rule = (x : Option Ty) → HasNoVoid x
    → (possible x ≡ true) ↔ CompletedPart rule x
