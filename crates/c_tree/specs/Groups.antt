-- Binary operators by the sections of the standard (C11 6.5.5 to 6.5.14): the operators of a group have one rule.
use Rattle.std.specs.Prelude.{ℕ, ◌==◌, Bool, true, false, not}
use Rattle.c_tree.specs.declared.operator.Binary.{Binary}
use Rattle.c_tree.specs.declared.operator.Binary.TheVariants as binary
use Rattle.c_tree.specs.declared.operator.Group.{Group}
use Rattle.c_tree.specs.declared.operator.Group.TheVariants as by

abbrev pub group : Binary → Group
group binary.Or = by.Or
group binary.And = by.And
group binary.BitOr = by.BitOr
group binary.BitXor = by.BitXor
group binary.BitAnd = by.BitAnd
group binary.Equal = by.Equality
group binary.Unequal = by.Equality
group binary.Less = by.Order
group binary.Greater = by.Order
group binary.LessEqual = by.Order
group binary.GreaterEqual = by.Order
group binary.Left = by.Shift
group binary.Right = by.Shift
group binary.Plus = by.Sum
group binary.Minus = by.Difference
group binary.Times = by.Product
group binary.Divide = by.Product
group binary.Rest = by.Product

-- `&& ||`
abbrev pub is_logic : Group → Bool
is_logic by.And = true
is_logic by.Or = true
is_logic _ = false

-- `< > <= >=`
abbrev pub is_order : Group → Bool
is_order by.Order = true
is_order _ = false

-- `<< >>`
abbrev pub is_shift : Group → Bool
is_shift by.Shift = true
is_shift _ = false

-- `+ -`
abbrev pub is_sum : Group → Bool
is_sum by.Sum = true
is_sum by.Difference = true
is_sum _ = false

-- comparisons, `&&` and `||`
abbrev pub gives_truth : Group → Bool
gives_truth by.Or = true
gives_truth by.And = true
gives_truth by.Equality = true
gives_truth by.Order = true
gives_truth _ = false

-- whether the first operand of `&&` or `||` decides, by its value
abbrev pub decides : Group → ℕ → Bool
decides by.And x = x == 0
decides by.Or x = not (x == 0)
decides _ x = false
