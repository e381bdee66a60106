-- Constants: their type, their value, and the breaches where one is needed (C11 6.6).
use Rattle.std.specs.Prelude.{ℕ, Bool, true, false, not, ◌&&◌, ◌||◌, ◌==◌, List, [], ◌++◌, Option, Some, None, is_some, if◌then◌else◌}
use Rattle.c_tree.specs.declared.usage.Use.TheVariants.{Value}
use Rattle.c_tree.specs.declared.limits.TheConstants.{END_OF_FILE}
use Rattle.c_tree.specs.declared.breach.Breach.{Breach}
use Rattle.c_tree.specs.declared.breach.Broken.TheVariants.{Unknown, NotConstant}
use Rattle.c_tree.specs.declared.operator.Binary.{Binary}
use Rattle.c_tree.specs.declared.operator.Group.{Group}
use Rattle.c_tree.specs.declared.operator.Unary.{Unary}
use Rattle.c_tree.specs.declared.operator.Unary.TheVariants as unary
use Rattle.c_tree.specs.declared.place.Place.{Place}
use Rattle.c_tree.specs.Groups.{group, is_logic, is_shift, gives_truth, decides}
use Rattle.c_tree.specs.Ty.{Ty}
use Rattle.c_tree.specs.Ty as ty
use Rattle.c_tree.specs.Expr.{Expr}
use Rattle.c_tree.specs.Expr as expr
use Rattle.c_tree.specs.Scope.{Scope, look}
use Rattle.c_tree.specs.Breach.{breach, unless}
use Rattle.c_tree.specs.Shapes.{is_integer, is_unsigned, promoted, common}
use Rattle.c_tree.specs.Breaches.{breaches}
use Rattle.c_tree.specs.Arithmetic.{binary_word, unary_word, converted, truth, given}

-- Forms of a constant are integer and character constants, EOF, casts to integers, `+ - ~ !`, binary operators and `?:`.

abbrev pub is_arithmetic : Unary → Bool
is_arithmetic unary.At = false
is_arithmetic unary.Address = false
is_arithmetic _ = true

abbrev pub unary_shape : Unary → Ty → Ty
unary_shape unary.Not t = ty.Int
unary_shape _ t = promoted t

abbrev pub group_shape : Group → Ty → Ty → Ty
group_shape by t u = if gives_truth by then ty.Int else if is_shift by then promoted t
    else common t u

abbrev pub binary_shape : Binary → Ty → Ty → Ty
binary_shape op t u = group_shape (group op) t u

abbrev pub integer_shape : Ty → Ty
integer_shape t = if is_integer t then t else ty.Int

-- the type of a constant
abbrev pub constant_shape : Expr → Ty
constant_shape (expr.Number shape n at) = integer_shape shape
constant_shape (expr.Unary op a at) =
    if is_arithmetic op then unary_shape op (constant_shape a) else ty.Int
constant_shape (expr.Cast to a at) = integer_shape to
constant_shape (expr.Binary op a b at) = binary_shape op (constant_shape a) (constant_shape b)
constant_shape (expr.Conditional c a b at) = common (constant_shape a) (constant_shape b)
constant_shape _ = ty.Int

-- whether the arithmetic of an operator on two integers is unsigned
abbrev pub is_unsigned_act : Binary → Ty → Ty → Bool
is_unsigned_act op t u = is_unsigned t || (not (is_shift (group op)) && is_unsigned u)

abbrev pub on_one : (ℕ → Option ℕ) → Option ℕ → Option ℕ
on_one f None = None
on_one f (Some x) = f x

-- whether the second operand is evaluated, by the value of the first
abbrev pub needs_second : Binary → Option ℕ → Bool
needs_second op None = not (is_logic (group op))
needs_second op (Some x) = not (decides (group op) x)

abbrev pub binary_value : Binary → Bool → Option ℕ → Option ℕ → Option ℕ
binary_value op unsigned None y = None
binary_value op unsigned (Some x) y =
    if decides (group op) x then Some (truth (not (x == 0)))
    else on_one (λ y. given (binary_word op unsigned x y)) y

-- one of two is evaluated
abbrev pub chosen : {A : Type 0} → A → Option ℕ → A → A → A
chosen none None a b = none
chosen none (Some x) a b = if x == 0 then b else a

-- the value of a constant, where no act that it evaluates is undefined
abbrev pub value_of : Expr → Option ℕ
value_of (expr.Number shape n at) = if is_integer shape then Some n else None
value_of (expr.Character code at) = Some code
value_of (expr.Eof at) = Some END_OF_FILE
value_of (expr.Unary op a at) =
    if is_arithmetic op then on_one (λ x. given (unary_word op (is_unsigned (constant_shape a)) x))
    (value_of a) else None
value_of (expr.Cast to a at) =
    if is_integer to then on_one (λ x. Some (converted to x)) (value_of a) else None
value_of (expr.Binary op a b at) =
    binary_value op (is_unsigned_act op (constant_shape a) (constant_shape b)) (value_of a)
    (value_of b)
value_of (expr.Conditional c a b at) = chosen None (value_of c) (value_of a) (value_of b)
value_of _ = None

-- both operands have values, or the first alone decides
abbrev pub is_ready : Binary → Option ℕ → Option ℕ → Bool
is_ready op x y = is_some x && (not (needs_second op x) || is_some y)

-- an act is a breach where it is evaluated, its operands have values and it has none
abbrev pub act_breaches : Bool → Bool → Option ℕ → Place → List Breach
act_breaches live ready value at = unless (not (live && ready) || is_some value) NotConstant at

-- a name in a constant is unknown, or no constant
abbrev pub name_breach : Bool → Place → List Breach
name_breach visible at = breach (if visible then NotConstant else Unknown) at

abbrev pub foreign_name : Option Scope → List ℕ → Place → List Breach
foreign_name None name at = breach NotConstant at
foreign_name (Some scope) name at = name_breach (is_some (look scope name)) at

-- what another node that is no form of a constant breaks
abbrev pub foreign : Option Scope → Expr → Place → List Breach
foreign None e at = breach NotConstant at
foreign (Some scope) e at = breaches scope Value e ++ breach NotConstant at

module _ (scope : Option Scope) where
  -- the breaches where a constant is needed: the outermost nodes that are no form of one, and the undefined acts that are evaluated;
  -- `live` says that the expression is evaluated; with a scope the breaches within those outermost nodes count too
  abbrev pub constant_breaches : Bool → Expr → List Breach
  constant_breaches live (expr.Number shape n at) =
      if is_integer shape then [] else foreign scope (expr.Number shape n at) at
  constant_breaches live (expr.Character code at) = []
  constant_breaches live (expr.Eof at) = []
  constant_breaches live (expr.Unary op a at) =
      if is_arithmetic op
      then constant_breaches live a
      ++ act_breaches live (is_some (value_of a)) (value_of (expr.Unary op a at)) at
      else foreign scope (expr.Unary op a at) at
  constant_breaches live (expr.Cast to a at) =
      if is_integer to then constant_breaches live a else foreign scope (expr.Cast to a at) at
  constant_breaches live (expr.Binary op a b at) =
      constant_breaches live a
      ++ (constant_breaches (live && needs_second op (value_of a)) b
      ++ act_breaches live (is_ready op (value_of a) (value_of b))
      (value_of (expr.Binary op a b at)) at)
  constant_breaches live (expr.Conditional c a b at) =
      constant_breaches live c
      ++ (constant_breaches (live && chosen false (value_of c) true false) a
      ++ constant_breaches (live && chosen false (value_of c) false true) b)
  constant_breaches live (expr.Name name at) = foreign_name scope name at
  constant_breaches live (expr.Step how a at) = foreign scope (expr.Step how a at) at
  constant_breaches live (expr.Assign how a b at) = foreign scope (expr.Assign how a b at) at
  constant_breaches live (expr.Index a b at) = foreign scope (expr.Index a b at) at
  constant_breaches live (expr.Call name all at) = foreign scope (expr.Call name all at) at
