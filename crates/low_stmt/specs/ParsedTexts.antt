-- What holds of a text since tokens spell it, whatever its names stand for: the numbers that are
-- evaluated are words, and what is declared begins with an integer type.
use Rattle.std.specs.Prelude.{◌≡◌, ℕ, ◌^◌, ◌<◌, ◌⊎◌, true, List, IfSome}
use Rattle.std.specs.List.{AllByRecursion}
use Rattle.c_tree.specs.declared.tree.Count.{Count}
use Rattle.c_tree.specs.declared.tree.Count.TheVariants as amount
use Rattle.c_tree.specs.declared.tree.Marker.{Marker}
use Rattle.c_tree.specs.declared.tree.Marker.TheVariants as marker
use Rattle.c_tree.specs.Ty.{Ty}
use Rattle.c_tree.specs.Ty as ty
use Rattle.c_tree.specs.Var.{Var}
use Rattle.c_tree.specs.First.{First}
use Rattle.c_tree.specs.First as for_first
use Rattle.c_tree.specs.Fun.{Param, Fun}
use Rattle.c_tree.specs.Item.{Item}
use Rattle.c_tree.specs.Item as item
use Rattle.c_tree.specs.Stmt.{Stmt, Stmts, ElseBranch}
use Rattle.c_tree.specs.Stmt as stmt
use Rattle.c_tree.specs.Shapes.{is_integer}
use Rattle.low_expr.specs.FittingNames.{HasWords}
use Rattle.low_stmt.specs.FittingTexts.{InitFits}

abbrev pub IsParsedVar : Var → Type 0
IsParsedVar d = (is_integer d.base ≡ true) × InitFits d.init

abbrev pub AreParsedVars : List Var → Type 0
AreParsedVars = AllByRecursion IsParsedVar

abbrev pub IsParsedFirst : First → Type 0
IsParsedFirst for_first.Nothing = Unit {0}
IsParsedFirst (for_first.Vars ds) = AreParsedVars ds
IsParsedFirst (for_first.Expr e) = HasWords e

-- how many bytes a post sends
abbrev pub IsParsedCount : Count → Type 0
IsParsedCount (amount.Number n) = n < 2 ^ 32
IsParsedCount (amount.Name name at) = Unit {0}

-- the other numbers of markers have limits of their own
abbrev pub IsParsedMarker : Marker → Type 0
IsParsedMarker (marker.Begin k) = Unit {0}
IsParsedMarker (marker.End k) = Unit {0}
IsParsedMarker (marker.Wait channel) = Unit {0}
IsParsedMarker (marker.Post channel name at count) = IsParsedCount count

abbrev mutual
  pub IsParsedStmt : Stmt → Type 0
  IsParsedStmt (stmt.Empty at) = Unit {0}
  IsParsedStmt (stmt.Expr e at) = HasWords e
  IsParsedStmt (stmt.Vars ds at) = AreParsedVars ds
  IsParsedStmt (stmt.Block body at) = AreParsedStmts body
  IsParsedStmt (stmt.Marker m at) = IsParsedMarker m
  IsParsedStmt (stmt.If c s other at) = HasWords c × IsParsedStmt s × IsParsedElse other
  IsParsedStmt (stmt.While c s at) = HasWords c × IsParsedStmt s
  IsParsedStmt (stmt.Do s c at) = IsParsedStmt s × HasWords c
  IsParsedStmt (stmt.For f c d s at) =
      IsParsedFirst f × IfSome c HasWords × IfSome d HasWords × IsParsedStmt s
  IsParsedStmt (stmt.Return value at) = IfSome value HasWords
  IsParsedStmt (stmt.Break at) = Unit {0}
  IsParsedStmt (stmt.Continue at) = Unit {0}

  pub IsParsedElse : ElseBranch → Type 0
  IsParsedElse stmt.NoElse = Unit {0}
  IsParsedElse (stmt.Else s) = IsParsedStmt s

  pub AreParsedStmts : Stmts → Type 0
  AreParsedStmts stmt.NoMore = Unit {0}
  AreParsedStmts (stmt.More s rest) = IsParsedStmt s × AreParsedStmts rest

abbrev pub IsParsedParam : Param → Type 0
IsParsedParam p = is_integer p.base ≡ true

-- `void` is a result without stars alone
abbrev pub IsParsedResult : (base : Ty) (stars : ℕ) → Type 0
IsParsedResult base stars = (is_integer base ≡ true) ⊎ ((base ≡ ty.Void) × (stars ≡ 0))

abbrev pub IsParsedFun : Fun → Type 0
IsParsedFun f =
    IsParsedResult f.base f.stars × AllByRecursion IsParsedParam f.parameters
    × IfSome f.body AreParsedStmts

abbrev pub IsParsedItem : Item → Type 0
IsParsedItem (item.Vars keep ds) = AreParsedVars ds
IsParsedItem (item.Fun f) = IsParsedFun f

abbrev pub IsParsedText : List Item → Type 0
IsParsedText = AllByRecursion IsParsedItem
