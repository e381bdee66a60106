-- Statements, as definitions speak of them: the code's trees without pointers, with nothing left out.
use Rattle.std.specs.Prelude.{List, Option}
use Rattle.c_tree.specs.declared.place.Place.{Place}
use Rattle.c_tree.specs.declared.tree.Marker.{Marker as MarkerTree}
use Rattle.c_tree.specs.Expr as expr
use Rattle.c_tree.specs.First.{First}
use Rattle.c_tree.specs.Var.{Var}

-- a statement, with its place
mutual
  pub data Stmt : Type 0 where
    Empty : (at : Place) → Stmt
    Expr : (value : expr.Expr) (at : Place) → Stmt
    Vars : (declarators : List Var) (at : Place) → Stmt
    Block : (body : Stmts) (at : Place) → Stmt
    Marker : (marker : MarkerTree) (at : Place) → Stmt
    If : (test : expr.Expr) (then : Stmt) (else : ElseBranch) (at : Place) → Stmt
    While : (test : expr.Expr) (body : Stmt) (at : Place) → Stmt
    Do : (body : Stmt) (test : expr.Expr) (at : Place) → Stmt
    For : (first : First) (test : Option expr.Expr) (step : Option expr.Expr) (body : Stmt)
        (at : Place) → Stmt
    Return : (value : Option expr.Expr) (at : Place) → Stmt
    Break : (at : Place) → Stmt
    Continue : (at : Place) → Stmt

  -- the branch of an `if` that may be left out
  pub data ElseBranch : Type 0 where
    NoElse : ElseBranch
    Else : (other : Stmt) → ElseBranch

  pub data Stmts : Type 0 where
    NoMore : Stmts
    More : (first : Stmt) (rest : Stmts) → Stmts
