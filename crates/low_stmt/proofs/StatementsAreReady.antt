-- Statements that can be executed are ready, where their numbers, declarations and markers fit.
use Rattle.std.proofs.Common.{◌≡◌, ℕ, ◌*◌, ◌^◌, ◌≤◌, List, [], ◌∷◌, length, drop, subst, arith, Option, Some, None}
use Rattle.std.specs.Prelude.{Bool, true, false, bytes_eq, if◌then◌else◌, IfSome}
use Rattle.c_tree.specs.Ty.{Ty}
use Rattle.c_tree.specs.Expr.{Expr}
use Rattle.c_tree.specs.Init.{Init}
use Rattle.c_tree.specs.Init as initial
use Rattle.c_tree.specs.Var.{Var}
use Rattle.c_tree.specs.First.{First}
use Rattle.c_tree.specs.First as for_first
use Rattle.c_tree.specs.Stmt.{Stmt, Stmts, ElseBranch}
use Rattle.c_tree.specs.Stmt as stmt
use Rattle.c_tree.specs.Declarators.{declared_shape}
use Rattle.c_layout.specs.Frames.{beginning_locals, locals, else_locals, body_locals}
use Rattle.c_layout.specs.Slots.{slots, optional, init_slots, declarators_slots, beginning_slots, statement_slots, else_slots, body_slots}
use Rattle.c_semantics.specs.declared.home.Home.TheVariants.{InFrame}
use Rattle.c_semantics.specs.Names.{Names, Variable, Definition, with_name}
use Rattle.c_semantics.specs.Exec.{behind, with_local, with_locals_named, named_behind, named_beginning}
use Rattle.c_semantics.specs.Evaluated.{IsEvaluable, IsEvaluableUnused, IsInitialisable, AreDeclarable, IsBeginnable, IsExecutable, IsExecutableElse, AreExecutable}
use Rattle.low_expr.specs.FittingNames.{SizeFits, ShapeFits, NamedFits, NamesFit, HasWords}
use Rattle.low_expr.proofs.ReadinessLemmas.{ready, ready_unused}
use Rattle.low_stmt.specs.FittingTexts.{InitFits, VarsFit, FirstFits, StmtFits, ElseFits, StmtsFit}
use Rattle.low_stmt.specs.StmtReadiness.{IsReadyIn, IsReadyInit, AreReadyVars, IsReadyFirst, IsReadyStmt, IsReadyElse, AreReadyStmts}
use Rattle.low_stmt.proofs.PlacesOfLocals.{Hold, hold_front, hold_back, declared_within, block_within}

module _ (defined : List ℕ → Option Definition) where
  -- a variable of a frame among names that fit
  pub local_fits : (names : Names) (name : List ℕ) (shape : Ty) (place : ℕ) → NamesFit defined names
      → place ≤ 2 ^ 16 → SizeFits shape → ShapeFits shape
      → NamesFit defined (with_name name (Variable shape (InFrame place)) names)
  local_fits names name shape place fit near sized shaped other named is =
      decided (bytes_eq name other) is
    where
      same : Some (Variable shape (InFrame place)) ≡ Some named
          → Variable shape (InFrame place) ≡ named
      same h = cc

      decided : (b : Bool)
          → (if b then Some (Variable shape (InFrame place)) else names other) ≡ Some named
          → NamedFits defined other named
      decided true e = subst (NamedFits defined other) (same e) (near, sized, shaped)
      decided false e = fit other named e

module _ (defined : List ℕ → Option Definition) (room top : ℕ) (small : 4 * top ≤ 2 ^ 16) where
  abbrev Placed : List ℕ → List Var → Type 0
  Placed places ds = Hold (4 * room) (4 * top) places ds

  ready_in : (names : Names) (e : Expr) → NamesFit defined names → IsEvaluable names e → HasWords e
      → slots e ≤ room → IsReadyIn defined room top names e
  ready_in names e fit can words le = (ready defined names fit e can words, le)

  unused_in : (names : Names) (e : Expr) → NamesFit defined names → IsEvaluableUnused names e
      → HasWords e → slots e ≤ room → IsReadyIn defined room top names e
  unused_in names e fit can words le = (ready_unused defined names fit e can words, le)

  -- the names after declarators
  named_fit : (names : Names) (places : List ℕ) (ds : List Var) → NamesFit defined names
      → Placed places ds → VarsFit ds → NamesFit defined (with_locals_named places ds names)
  named_fit names places [] fit held vars = fit
  named_fit names [] (d ∷ ds) fit held vars = absurd held
  named_fit names (place ∷ places) (d ∷ ds) fit held vars =
      named_fit (with_local (place ∷ places) d names) places ds
      (local_fits defined names d.name (declared_shape d) place fit (omega (arith, held.1)) vars.0 vars.1)
      held.2 vars.3

  init_ready : (names : Names) (value : Option Init) → NamesFit defined names
      → IfSome value (IsInitialisable names) → InitFits value → init_slots value ≤ room
      → IsReadyInit defined room top names value
  init_ready names None fit can words le = tt
  init_ready names (Some (initial.One e)) fit can words le = ready_in names e fit can words le
  init_ready names (Some (initial.Many es)) fit can words le = can

  vars_ready : (names : Names) (places : List ℕ) (ds : List Var) → NamesFit defined names
      → AreDeclarable names places ds → Placed places ds → VarsFit ds → declarators_slots ds ≤ room
      → AreReadyVars defined room top names places ds
  vars_ready names places [] fit can held vars le = tt
  vars_ready names [] (d ∷ ds) fit can held vars le = absurd held
  vars_ready names (place ∷ places) (d ∷ ds) fit can held vars le =
      let inner = with_local (place ∷ places) d names in
      let near : place ≤ 2 ^ 16 = omega (arith, held.1) in
      let fit1 = local_fits defined names d.name (declared_shape d) place fit near vars.0 vars.1 in (
        near,
        init_ready inner d.init fit1 can.2 vars.2 (omega arith),
        vars_ready inner places ds fit1 can.3 held.2 vars.3 (omega arith),
      )

  optional_ready : (names : Names) (c : Option Expr) → NamesFit defined names
      → IfSome c (IsEvaluable names) → IfSome c HasWords → optional c ≤ room
      → IfSome c (IsReadyIn defined room top names)
  optional_ready names None fit can words le = tt
  optional_ready names (Some e) fit can words le = ready_in names e fit can words le

  optional_unused : (names : Names) (c : Option Expr) → NamesFit defined names
      → IfSome c (IsEvaluableUnused names) → IfSome c HasWords → optional c ≤ room
      → IfSome c (IsReadyIn defined room top names)
  optional_unused names None fit can words le = tt
  optional_unused names (Some e) fit can words le = unused_in names e fit can words le

  first_ready : (names : Names) (places : List ℕ) (f : First) → NamesFit defined names
      → IsBeginnable names places f → Placed places (beginning_locals f) → FirstFits f
      → beginning_slots f ≤ room → IsReadyFirst defined room top names places f
  first_ready names places for_first.Nothing fit can held words le = tt
  first_ready names places (for_first.Vars ds) fit can held words le =
      vars_ready names places ds fit can held words le
  first_ready names places (for_first.Expr e) fit can held words le =
      unused_in names e fit can words le

  beginning_fit : (names : Names) (places : List ℕ) (f : First) → NamesFit defined names
      → Placed places (beginning_locals f) → FirstFits f
      → NamesFit defined (named_beginning places f names)
  beginning_fit names places for_first.Nothing fit held words = fit
  beginning_fit names places (for_first.Vars ds) fit held words = named_fit names places ds fit held words
  beginning_fit names places (for_first.Expr e) fit held words = fit

  -- the names after a statement
  behind_fit : (names : Names) (places : List ℕ) (s : Stmt) → NamesFit defined names
      → Placed places (locals s) → StmtFits defined room top names places s
      → NamesFit defined (named_behind places s names)
  behind_fit names places (stmt.Vars ds at) fit held words = named_fit names places ds fit held words
  behind_fit names places (stmt.Empty at) fit held words = fit
  behind_fit names places (stmt.Expr e at) fit held words = fit
  behind_fit names places (stmt.Block body at) fit held words = fit
  behind_fit names places (stmt.Marker m at) fit held words = fit
  behind_fit names places (stmt.If c s other at) fit held words = fit
  behind_fit names places (stmt.While c s at) fit held words = fit
  behind_fit names places (stmt.Do s c at) fit held words = fit
  behind_fit names places (stmt.For f c d s at) fit held words = fit
  behind_fit names places (stmt.Return value at) fit held words = fit
  behind_fit names places (stmt.Break at) fit held words = fit
  behind_fit names places (stmt.Continue at) fit held words = fit

  module _ (result : Ty) where
    mutual
      pub stmt_ready : (names : Names) (places : List ℕ) (s : Stmt) → NamesFit defined names
          → IsExecutable result names places s → Placed places (locals s)
          → StmtFits defined room top names places s → statement_slots s ≤ room
          → IsReadyStmt defined room top result names places s
      stmt_ready names places (stmt.Empty at) fit can held words le = tt
      stmt_ready names places (stmt.Expr e at) fit can held words le = unused_in names e fit can words le
      stmt_ready names places (stmt.Vars ds at) fit can held words le =
          vars_ready names places ds fit can held words le
      stmt_ready names places (stmt.Block body at) fit can held words le =
          (block_within defined room top places body held, stmts_ready names places body fit can held words le)
      stmt_ready names places (stmt.Marker m at) fit can held words le = words
      stmt_ready names places (stmt.If c s other at) fit can held words le = (
        ready_in names c fit can.0 words.0 (omega arith),
        stmt_ready names places s fit can.1
            (hold_front (4 * room) (4 * top) places (locals s) (else_locals other) held) words.1
            (omega arith),
        else_ready names (behind s places) other fit can.2
            (hold_back (4 * room) (4 * top) places (locals s) (else_locals other) held) words.2
            (omega arith),
      )
      stmt_ready names places (stmt.While c s at) fit can held words le = (
        ready_in names c fit can.0 words.0 (omega arith),
        stmt_ready names places s fit can.1 held words.1 (omega arith),
      )
      stmt_ready names places (stmt.Do s c at) fit can held words le = (
        stmt_ready names places s fit can.0 held words.0 (omega arith),
        ready_in names c fit can.1 words.1 (omega arith),
      )
      stmt_ready names places (stmt.For f c d s at) fit can held words le =
          let inner = named_beginning places f names in
          let own = hold_front (4 * room) (4 * top) places (beginning_locals f) (locals s) held in
          let rest = hold_back (4 * room) (4 * top) places (beginning_locals f) (locals s) held in
          let fit1 = beginning_fit names places f fit own words.0 in (
            declared_within defined room top places (beginning_locals f) own,
            first_ready names places f fit can.0 own words.0 (omega arith),
            optional_ready inner c fit1 can.1 words.1 (omega arith),
            optional_unused inner d fit1 can.2 words.2 (omega arith),
            stmt_ready inner (drop (length (beginning_locals f)) places) s fit1 can.3 rest words.3
                (omega arith),
          )
      stmt_ready names places (stmt.Return None at) fit can held words le = can
      stmt_ready names places (stmt.Return (Some e) at) fit can held words le =
          ready_in names e fit can.1 words le
      stmt_ready names places (stmt.Break at) fit can held words le = tt
      stmt_ready names places (stmt.Continue at) fit can held words le = tt

      else_ready : (names : Names) (places : List ℕ) (other : ElseBranch) → NamesFit defined names
          → IsExecutableElse result names places other → Placed places (else_locals other)
          → ElseFits defined room top names places other → else_slots other ≤ room
          → IsReadyElse defined room top result names places other
      else_ready names places stmt.NoElse fit can held words le = tt
      else_ready names places (stmt.Else s) fit can held words le =
          stmt_ready names places s fit can held words le

      pub stmts_ready : (names : Names) (places : List ℕ) (body : Stmts) → NamesFit defined names
          → AreExecutable result names places body → Placed places (body_locals body)
          → StmtsFit defined room top names places body → body_slots body ≤ room
          → AreReadyStmts defined room top result names places body
      stmts_ready names places stmt.NoMore fit can held words le = tt
      stmts_ready names places (stmt.More s rest) fit can held words le = (
        stmt_ready names places s fit can.0
            (hold_front (4 * room) (4 * top) places (locals s) (body_locals rest) held) words.0
            (omega arith),
        stmts_ready (named_behind places s names) (behind s places) rest
            (behind_fit names places s fit
            (hold_front (4 * room) (4 * top) places (locals s) (body_locals rest) held) words.0)
            can.1
            (hold_back (4 * room) (4 * top) places (locals s) (body_locals rest) held) words.1
            (omega arith),
      )
