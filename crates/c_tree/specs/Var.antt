-- A declarator of a variable, as definitions speak of it, with the type that its declaration begins with.
use Rattle.std.specs.Prelude.{ℕ, List, Option}
use Rattle.c_tree.specs.declared.place.Place.{Place}
use Rattle.c_tree.specs.Expr.{Exprs}
use Rattle.c_tree.specs.Init.{Init}
use Rattle.c_tree.specs.Ty.{Ty}

pub record Var : Type 0 where
  pub base : Ty
  pub stars : ℕ
  pub name : List ℕ
  pub place : Place
  pub sizes : Exprs
  pub init : Option Init
