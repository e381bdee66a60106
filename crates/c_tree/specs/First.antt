-- What a `for` begins with, as definitions speak of it.
use Rattle.std.specs.Prelude.{List}
use Rattle.c_tree.specs.Expr as expr
use Rattle.c_tree.specs.Var.{Var}

pub data First : Type 0 where
  Nothing : First
  Vars : (declarators : List Var) → First
  Expr : (value : expr.Expr) → First
