-- The operands of an expression that are followed, each within the one before.
use Rattle.std.specs.Prelude.{ℕ, zero, suc, Option, Some, None, if◌then◌else◌}
use Rattle.c_tree.specs.Expr.{Expr}
use Rattle.c_tree.specs.Expr as expr
use Rattle.c_tree.specs.FirstOperand.{first_operand}
use Rattle.c_tree.specs.Shapes.{is_integer}
use Rattle.c_tree.specs.Constant.{is_arithmetic}
use Rattle.c_rules.specs.declared.spine.Along.{Along}
use Rattle.c_rules.specs.declared.spine.Along.TheVariants.{Operands, Constants}

-- that of a form of a constant
abbrev pub constant_operand : Expr → Option Expr
constant_operand (expr.Unary op a at) = if is_arithmetic op then Some a else None
constant_operand (expr.Cast to a at) = if is_integer to then Some a else None
constant_operand (expr.Binary op a b at) = Some a
constant_operand (expr.Conditional c a b at) = Some c
constant_operand _ = None

abbrev pub operand : Along → Expr → Option Expr
operand Operands e = first_operand e
operand Constants e = constant_operand e

abbrev pub or_itself : Option Expr → Expr → Expr
or_itself None e = e
or_itself (Some a) e = a

-- one operand further down, or the expression itself where it has none
abbrev pub below : Along → Expr → Expr
below along e = or_itself (operand along e) e

-- so many operands further down
unfoldable pub down : Along → ℕ → Expr → Expr
down along zero e = e
down along (suc n) e = below along (down along n e)
