-- The rules that a parser opens by name.
use Rattle.std.specs.Prelude.{ℕ, List}
use Rattle.c_tree.specs.Expr.{Expr}
use Rattle.c_expr.specs.declared.rule.Rule as r
use Rattle.c_expr.specs.declared.rule.Rule.TheVariants as v
use Rattle.c_expr.specs.Leveled.{Leveled}
use Rattle.c_expr.specs.Grammar.{IsAssign, IsCond, IsUnary}

abbrev pub IsRule : r.Rule → ℕ → List Leveled → Expr → Type 0
IsRule v.Assign = IsAssign
IsRule v.Cond = IsCond
IsRule v.Unary = IsUnary

-- by the names that other crates use
abbrev pub Rule : Type 0
Rule = r.Rule

abbrev pub Assign : Rule
Assign = v.Assign

abbrev pub Cond : Rule
Cond = v.Cond
