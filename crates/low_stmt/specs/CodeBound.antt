-- How many nodes, statements, declarators, parameters and functions a text has, by which the words
-- of its code are bounded.
use Rattle.std.specs.Prelude.{ℕ, ◌+◌, List, [], ◌∷◌, length, Option, Some, None}
use Rattle.c_tree.specs.Expr.{Expr}
use Rattle.c_tree.specs.Init.{Init}
use Rattle.c_tree.specs.Init as initial
use Rattle.c_tree.specs.Var.{Var}
use Rattle.c_tree.specs.First.{First}
use Rattle.c_tree.specs.First as for_first
use Rattle.c_tree.specs.Stmt.{Stmt, Stmts, ElseBranch}
use Rattle.c_tree.specs.Stmt as stmt
use Rattle.c_tree.specs.Item.{Item}
use Rattle.c_tree.specs.Item as item
use Rattle.low_expr.specs.Bound.{nodes, nodes_of_all}

abbrev pub count_optional : Option Expr → ℕ
count_optional None = 0
count_optional (Some e) = nodes e

abbrev pub count_init : Option Init → ℕ
count_init None = 0
count_init (Some (initial.One e)) = nodes e
count_init (Some (initial.Many es)) = nodes_of_all es

-- a declaration counts by its declarators alone
abbrev pub count_declarators : List Var → ℕ
count_declarators [] = 0
count_declarators (d ∷ ds) = 1 + nodes_of_all d.sizes + count_init d.init + count_declarators ds

abbrev pub count_first : First → ℕ
count_first for_first.Nothing = 0
count_first (for_first.Vars ds) = count_declarators ds
count_first (for_first.Expr e) = nodes e

abbrev mutual
  pub count_stmt : Stmt → ℕ
  count_stmt (stmt.Empty at) = 1
  count_stmt (stmt.Expr e at) = 1 + nodes e
  count_stmt (stmt.Vars ds at) = count_declarators ds
  count_stmt (stmt.Block body at) = 1 + count_stmts body
  count_stmt (stmt.Marker marker at) = 1
  count_stmt (stmt.If c s other at) = 1 + nodes c + count_stmt s + count_else other
  count_stmt (stmt.While c s at) = 1 + nodes c + count_stmt s
  count_stmt (stmt.Do s c at) = 1 + count_stmt s + nodes c
  count_stmt (stmt.For f c d s at) =
      1 + count_first f + count_optional c + count_optional d + count_stmt s
  count_stmt (stmt.Return value at) = 1 + count_optional value
  count_stmt (stmt.Break at) = 1
  count_stmt (stmt.Continue at) = 1

  pub count_else : ElseBranch → ℕ
  count_else stmt.NoElse = 0
  count_else (stmt.Else s) = count_stmt s

  pub count_stmts : Stmts → ℕ
  count_stmts stmt.NoMore = 0
  count_stmts (stmt.More s rest) = count_stmt s + count_stmts rest

-- a function's body isn't counted as a statement
abbrev pub count_body : Option Stmts → ℕ
count_body None = 0
count_body (Some body) = count_stmts body

abbrev pub count_items : List Item → ℕ
count_items [] = 0
count_items (item.Vars keep ds ∷ rest) = count_declarators ds + count_items rest
count_items (item.Fun f ∷ rest) =
    1 + length f.parameters + count_body f.body + count_items rest

-- the beginning of the program counts too
abbrev pub count_text : List Item → ℕ
count_text text = 1 + count_items text
