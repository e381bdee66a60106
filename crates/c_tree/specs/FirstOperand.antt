-- The first operands of an expression, each within the one before.
use Rattle.std.specs.Prelude.{List, [], ◌∷◌, Option, Some, None}
use Rattle.c_tree.specs.Expr.{Expr}
use Rattle.c_tree.specs.Expr as expr

abbrev pub first_operand : Expr → Option Expr
first_operand (expr.Unary op a at) = Some a
first_operand (expr.Step how a at) = Some a
first_operand (expr.Cast to a at) = Some a
first_operand (expr.Binary op a b at) = Some a
first_operand (expr.Conditional c a b at) = Some c
first_operand (expr.Assign how a b at) = Some a
first_operand (expr.Index a b at) = Some a
first_operand _ = None

-- the expression with another first operand; that operand alone where the expression has none
abbrev pub with_first : Expr → Expr → Expr
with_first (expr.Unary op a at) x = expr.Unary op x at
with_first (expr.Step how a at) x = expr.Step how x at
with_first (expr.Cast to a at) x = expr.Cast to x at
with_first (expr.Binary op a b at) x = expr.Binary op x b at
with_first (expr.Conditional c a b at) x = expr.Conditional x a b at
with_first (expr.Assign how a b at) x = expr.Assign how x b at
with_first (expr.Index a b at) x = expr.Index x b at
with_first _ x = x

-- the first operand within all of these expressions, the outermost first
abbrev pub within : List Expr → Expr → Expr
within [] x = x
within (e ∷ es) x = with_first e (within es x)
