-- How many nodes an expression has.
use Rattle.std.specs.Prelude.{ℕ, ◌+◌}
use Rattle.c_tree.specs.Expr.{Expr, Exprs}
use Rattle.c_tree.specs.Expr as expr

abbrev mutual
  pub nodes : Expr → ℕ
  nodes (expr.Name name at) = 1
  nodes (expr.Number shape n at) = 1
  nodes (expr.Character code at) = 1
  nodes (expr.Eof at) = 1
  nodes (expr.Unary op a at) = 1 + nodes a
  nodes (expr.Step how a at) = 1 + nodes a
  nodes (expr.Cast to a at) = 1 + nodes a
  nodes (expr.Binary op a b at) = 1 + nodes a + nodes b
  nodes (expr.Conditional c a b at) = 1 + nodes c + nodes a + nodes b
  nodes (expr.Assign how a b at) = 1 + nodes a + nodes b
  nodes (expr.Index a b at) = 1 + nodes a + nodes b
  nodes (expr.Call callee all at) = 1 + nodes_of_all all

  pub nodes_of_all : Exprs → ℕ
  nodes_of_all expr.NoMore = 0
  nodes_of_all (expr.More e rest) = nodes e + nodes_of_all rest
