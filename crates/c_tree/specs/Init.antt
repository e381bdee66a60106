-- What a variable is initialised with, as definitions speak of it.
use Rattle.c_tree.specs.Expr.{Expr, Exprs}

pub data Init : Type 0 where
  One : (value : Expr) → Init
  Many : (values : Exprs) → Init
