-- What the code of a statement takes for granted of it.
use Rattle.std.specs.Prelude.{◌≡◌, ℕ, ◌+◌, ◌*◌, ◌%◌, ◌^◌, ◌<◌, ◌≤◌, true, List, [], ◌∷◌, drop, length, Option, Some, None, IfSome}
use Rattle.bop_bits.specs.declared.map.TheConstants.{DATA_FROM, STACK_TO}
use Rattle.c_tree.specs.declared.place.Place.{Place}
use Rattle.c_tree.specs.declared.tree.Count.{Count}
use Rattle.c_tree.specs.declared.tree.Count.TheVariants as amount
use Rattle.c_tree.specs.declared.tree.Marker.{Marker}
use Rattle.c_tree.specs.declared.tree.Marker.TheVariants as marker
use Rattle.c_tree.specs.Ty.{Ty}
use Rattle.c_tree.specs.Expr.{Expr}
use Rattle.c_tree.specs.Expr as expr
use Rattle.c_tree.specs.Init.{Init}
use Rattle.c_tree.specs.Init as initial
use Rattle.c_tree.specs.Var.{Var}
use Rattle.c_tree.specs.First.{First}
use Rattle.c_tree.specs.First as for_first
use Rattle.c_tree.specs.Stmt.{Stmt, Stmts, ElseBranch}
use Rattle.c_tree.specs.Stmt as stmt
use Rattle.c_tree.specs.Shapes.{is_void}
use Rattle.c_layout.specs.Frames.{beginning_locals}
use Rattle.c_layout.specs.Slots.{slots}
use Rattle.c_semantics.specs.declared.home.Home.{Home}
use Rattle.c_semantics.specs.declared.home.Home.TheVariants.{Fixed, InFrame, Nowhere}
use Rattle.c_semantics.specs.declared.kind.Held.{Held}
use Rattle.c_semantics.specs.declared.kind.Held.TheVariants.{Byte, Word, Array}
use Rattle.c_semantics.specs.declared.local.Local.{Local}
use Rattle.c_semantics.specs.Names.{Names, Definition, home_of}
use Rattle.c_semantics.specs.Exec.{behind, with_local, named_behind, named_beginning, first_place, block_locals, beginning_own}
use Rattle.low_expr.specs.ExprCode.{held_in}
use Rattle.low_expr.specs.Readiness.{HomeFits, IsReady}

-- Functions that have code are defined by their names. A frame has so many slots from the stack
-- pointer on, and the word number `top` has the return address; what is between is for locals.
module _ (defined : List ℕ → Option Definition) (room top : ℕ) where
  abbrev pub IsReadyIn : Names → Expr → Type 0
  IsReadyIn names e = IsReady defined names e × (slots e ≤ room)

  -- locals are between the slots and the return address
  abbrev pub AreWithin : List Local → Type 0
  AreWithin [] = Unit {0}
  AreWithin (l ∷ ls) = (4 * room ≤ l.offset) × (l.offset + l.size ≤ 4 * top) × AreWithin ls

  abbrev pub IsReadyInit : Names → Option Init → Type 0
  IsReadyInit names None = Unit {0}
  IsReadyInit names (Some (initial.One e)) = IsReadyIn names e
  IsReadyInit names (Some (initial.Many es)) = ⊥

  abbrev pub AreReadyVars : Names → List ℕ → List Var → Type 0
  AreReadyVars names places [] = Unit {0}
  AreReadyVars names places (d ∷ ds) =
      let inner = with_local places d names in
      (first_place places ≤ 2 ^ 16) × IsReadyInit inner d.init
      × AreReadyVars inner (drop 1 places) ds

  abbrev pub IsReadyFirst : Names → List ℕ → First → Type 0
  IsReadyFirst names places for_first.Nothing = Unit {0}
  IsReadyFirst names places (for_first.Vars ds) = AreReadyVars names places ds
  IsReadyFirst names places (for_first.Expr e) = IsReadyIn names e

  -- a marker reads words of the memory, also where no value was written
  abbrev pub IsWordAt : Home → Type 0
  IsWordAt (Fixed address) = (address % 4 ≡ 0) × (DATA_FROM ≤ address) × (address < STACK_TO)
  IsWordAt (InFrame offset) = (offset % 4 ≡ 0) × (offset ≤ 4 * top) × (offset ≤ 2 ^ 16)
  IsWordAt Nowhere = ⊥

  abbrev pub IsTaken : Held → Home → Type 0
  IsTaken Byte home = ⊥
  IsTaken Word home = IsWordAt home
  IsTaken Array home = HomeFits home

  abbrev pub IsTakenVariable : Names → List ℕ → Place → Type 0
  IsTakenVariable names name at = IsTaken (held_in names (expr.Name name at)) (home_of (names name))

  abbrev pub IsTakenCount : Names → Count → Type 0
  IsTakenCount names (amount.Number n) = n < 2 ^ 32
  IsTakenCount names (amount.Name name at) = IsTakenVariable names name at

  abbrev pub IsReadyMarker : Names → Marker → Type 0
  IsReadyMarker names (marker.Begin k) = k < 2 ^ 32
  IsReadyMarker names (marker.End k) = k < 2 ^ 32
  IsReadyMarker names (marker.Post channel name at count) =
      (channel < 2 ^ 32) × IsTakenVariable names name at × IsTakenCount names count
  IsReadyMarker names (marker.Wait channel) = channel < 2 ^ 32

  module _ (result : Ty) where
    -- a function without a value has no result
    abbrev pub IsReadyReturn : Names → Option Expr → Type 0
    IsReadyReturn names None = is_void result ≡ true
    IsReadyReturn names (Some e) = IsReadyIn names e

    abbrev mutual
      pub IsReadyStmt : Names → List ℕ → Stmt → Type 0
      IsReadyStmt names places (stmt.Empty at) = Unit {0}
      IsReadyStmt names places (stmt.Expr e at) = IsReadyIn names e
      IsReadyStmt names places (stmt.Vars ds at) = AreReadyVars names places ds
      IsReadyStmt names places (stmt.Block body at) =
          AreWithin (block_locals places body) × AreReadyStmts names places body
      IsReadyStmt names places (stmt.Marker marker at) = IsReadyMarker names marker
      IsReadyStmt names places (stmt.If c s other at) =
          IsReadyIn names c × IsReadyStmt names places s
          × IsReadyElse names (behind s places) other
      IsReadyStmt names places (stmt.While c s at) =
          IsReadyIn names c × IsReadyStmt names places s
      IsReadyStmt names places (stmt.Do s c at) =
          IsReadyStmt names places s × IsReadyIn names c
      IsReadyStmt names places (stmt.For f c d s at) =
          let inner = named_beginning places f names in
          AreWithin (beginning_own places f) × IsReadyFirst names places f
          × IfSome c (IsReadyIn inner) × IfSome d (IsReadyIn inner)
          × IsReadyStmt inner (drop (length (beginning_locals f)) places) s
      IsReadyStmt names places (stmt.Return value at) = IsReadyReturn names value
      IsReadyStmt names places (stmt.Break at) = Unit {0}
      IsReadyStmt names places (stmt.Continue at) = Unit {0}

      pub IsReadyElse : Names → List ℕ → ElseBranch → Type 0
      IsReadyElse names places stmt.NoElse = Unit {0}
      IsReadyElse names places (stmt.Else s) = IsReadyStmt names places s

      pub AreReadyStmts : Names → List ℕ → Stmts → Type 0
      AreReadyStmts names places stmt.NoMore = Unit {0}
      AreReadyStmts names places (stmt.More s rest) =
          IsReadyStmt names places s
          × AreReadyStmts (named_behind places s names) (behind s places) rest
