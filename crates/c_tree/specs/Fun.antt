-- Functions, as definitions speak of them.
use Rattle.std.specs.Prelude.{ℕ, Bool, List, Option}
use Rattle.c_tree.specs.declared.place.Place.{Place}
use Rattle.c_tree.specs.Stmt.{Stmts}
use Rattle.c_tree.specs.Ty.{Ty}

-- a parameter
pub record Param : Type 0 where
  pub base : Ty
  pub stars : ℕ
  pub name : Option (List ℕ)
  pub place : Place
  pub array : Bool

-- a function, defined where it has a body
pub record Fun : Type 0 where
  pub base : Ty
  pub stars : ℕ
  pub name : List ℕ
  pub place : Place
  pub parameters : List Param
  pub body : Option Stmts
