-- The typing rules: the type of a node from the types of its parts, or nothing.
use Rattle.std.specs.Prelude.{◌==◌, Bool, true, false, ◌&&◌, ◌||◌, Option, Some, None, if◌then◌else◌}
use Rattle.c_tree.specs.declared.operator.Binary.{Binary}
use Rattle.c_tree.specs.declared.operator.Group.{Group}
use Rattle.c_tree.specs.declared.operator.Group.TheVariants as by
use Rattle.c_tree.specs.declared.operator.Unary.{Unary}
use Rattle.c_tree.specs.declared.operator.Unary.TheVariants as unary
use Rattle.c_tree.specs.Groups.{group, is_sum}
use Rattle.c_tree.specs.Ty.{Ty}
use Rattle.c_tree.specs.Ty as ty
use Rattle.c_tree.specs.Expr.{Expr}
use Rattle.c_tree.specs.Expr as expr
use Rattle.c_tree.specs.Shapes.{same, is_integer, is_pointer, is_scalar, decayed, promoted, common}

abbrev pub where_right : Bool → Option Ty → Option Ty
where_right right t = if right then t else None

-- the literal 0, in whatever notation
abbrev pub is_nought : Expr → Bool
is_nought (expr.Number shape n at) = is_integer shape && n == 0
is_nought _ = false

abbrev pub is_at : Unary → Bool
is_at unary.At = true
is_at _ = false

-- a place: a name, `*p` or `a[i]` (C11 6.3.2.1)
abbrev pub is_place : Expr → Bool
is_place (expr.Name name at) = true
is_place (expr.Unary op of at) = is_at op
is_place (expr.Index array index at) = true
is_place _ = false

-- Rules on two values, arrays already pointers. A flag says that the value is the literal 0.

-- `* / % & ^ |` (6.5.5, 6.5.10 to 6.5.12)
abbrev pub arithmetic_rule : Ty → Ty → Option Ty
arithmetic_rule t u = where_right (is_integer t && is_integer u) (Some (common t u))

-- `<< >>` (6.5.7): the type is the promoted left operand's
abbrev pub shift_rule : Ty → Ty → Option Ty
shift_rule t u = where_right (is_integer t && is_integer u) (Some (promoted t))

-- `+` (6.5.6)
abbrev pub sum_rule : Ty → Ty → Option Ty
sum_rule t u =
    if is_integer t && is_integer u then Some (common t u)
    else if is_pointer t && is_integer u then Some t
    else where_right (is_integer t && is_pointer u) (Some u)

-- `-` (6.5.6)
abbrev pub difference_rule : Ty → Ty → Option Ty
difference_rule t u =
    if is_integer t && is_integer u then Some (common t u)
    else if is_pointer t && is_integer u then Some t
    else where_right (is_pointer t && same t u) (Some ty.Int)

-- `< > <= >=` (6.5.8)
abbrev pub order_rule : Ty → Ty → Option Ty
order_rule t u = where_right ((is_integer t && is_integer u) || (is_pointer t && same t u))
    (Some ty.Int)

-- a pointer beside one of its type, or beside the literal 0
abbrev pub is_pointer_with : Ty → Bool → Ty → Bool
is_pointer_with t nought u = is_pointer t && (same t u || nought)

-- `== !=` (6.5.9)
abbrev pub equality_rule : Bool → Bool → Ty → Ty → Option Ty
equality_rule n m t u =
    where_right ((is_integer t && is_integer u) || is_pointer_with t m u || is_pointer_with u n t)
    (Some ty.Int)

-- `&& ||` (6.5.13, 6.5.14)
abbrev pub logic_rule : Ty → Ty → Option Ty
logic_rule t u = where_right (is_scalar t && is_scalar u) (Some ty.Int)

abbrev pub group_rule : Group → Bool → Bool → Ty → Ty → Option Ty
group_rule by.Or n m = logic_rule
group_rule by.And n m = logic_rule
group_rule by.BitOr n m = arithmetic_rule
group_rule by.BitXor n m = arithmetic_rule
group_rule by.BitAnd n m = arithmetic_rule
group_rule by.Equality n m = equality_rule n m
group_rule by.Order n m = order_rule
group_rule by.Shift n m = shift_rule
group_rule by.Sum n m = sum_rule
group_rule by.Difference n m = difference_rule
group_rule by.Product n m = arithmetic_rule

-- the last two operands of `?:` (6.5.15)
abbrev pub conditional_value_rule : Bool → Bool → Ty → Ty → Option Ty
conditional_value_rule n m t u =
    if is_integer t && is_integer u then Some (common t u)
    else if is_pointer_with t m u then Some t
    else where_right (is_pointer_with u n t) (Some u)

abbrev pub pointed : Ty → Option Ty
pointed (ty.Pointer t) = Some t
pointed _ = None

abbrev pub pointed_some : Option Ty → Option Ty
pointed_some None = None
pointed_some (Some t) = pointed t

-- an object takes a value (6.5.16.1): integers take each other, a pointer its own type or the literal 0
abbrev pub takes : Ty → Bool → Ty → Bool
takes to nought t = (is_integer to && is_integer t) || is_pointer_with to nought t

-- a compound assignment (6.5.16.2): with a pointer, `+=` and `-=` alone
abbrev pub combines : Binary → Ty → Ty → Bool
combines op to t = (is_integer to || (is_pointer to && is_sum (group op))) && is_integer t

abbrev pub fits : Option Binary → Ty → Bool → Ty → Bool
fits None to nought t = takes to nought t
fits (Some op) to nought t = combines op to t

-- Rules on the types of two parts as they stand.

abbrev pub binary_rule : Binary → Bool → Bool → Ty → Ty → Option Ty
binary_rule op n m t u = group_rule (group op) n m (decayed t) (decayed u)

abbrev pub conditional_rule : Bool → Bool → Ty → Ty → Option Ty
conditional_rule n m t u = conditional_value_rule n m (decayed t) (decayed u)

-- `a[i]` is `*(a + i)` (6.5.2.1)
abbrev pub index_rule : Ty → Ty → Option Ty
index_rule t u = pointed_some (sum_rule (decayed t) (decayed u))

-- what an assignment to a place gives; an array isn't assigned
abbrev pub assign_rule : Option Binary → Bool → Ty → Ty → Option Ty
assign_rule how nought to t = where_right (fits how to nought (decayed t)) (Some to)

-- Rules on the type of one part as it stands.

-- `+ - ~`, `!`, `*` (6.5.3.2, 6.5.3.3); `&` is no rule on values
abbrev pub unary_value_rule : Unary → Ty → Option Ty
unary_value_rule unary.Plus t = where_right (is_integer t) (Some (promoted t))
unary_value_rule unary.Minus t = where_right (is_integer t) (Some (promoted t))
unary_value_rule unary.Not t = where_right (is_scalar t) (Some ty.Int)
unary_value_rule unary.Flip t = where_right (is_integer t) (Some (promoted t))
unary_value_rule unary.At t = pointed t
unary_value_rule unary.Address t = None

abbrev pub unary_rule : Unary → Ty → Option Ty
unary_rule op t = unary_value_rule op (decayed t)

-- `++ --` of a place (6.5.2.4, 6.5.3.1)
abbrev pub step_rule : Ty → Option Ty
step_rule t = where_right (is_scalar t) (Some t)

-- a cast is from an integer to an integer type (6.5.4)
abbrev pub cast_rule : Ty → Ty → Option Ty
cast_rule to t = where_right (is_integer to && is_integer (decayed t)) (Some to)

-- the address of a place (6.5.3.2): an array stays one
abbrev pub address_type : Bool → Option Ty → Option Ty
address_type true (Some t) = Some (ty.Pointer t)
address_type _ _ = None
