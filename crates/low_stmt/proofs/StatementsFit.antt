-- Statements without a breach fit, where their frame isn't too large.
use Rattle.std.proofs.Common.{◌≡◌, ℕ, ◌*◌, ◌^◌, ◌≤◌, List, [], ◌∷◌, ◌++◌, length, drop, arith, Option}
use Rattle.std.specs.Prelude.{Bool, true}
use Rattle.c_tree.specs.declared.storage.Storage.TheVariants.{Automatic}
use Rattle.c_tree.specs.Ty.{Ty}
use Rattle.c_tree.specs.Var.{Var}
use Rattle.c_tree.specs.First.{First}
use Rattle.c_tree.specs.First as for_first
use Rattle.c_tree.specs.Stmt.{Stmt, Stmts, ElseBranch}
use Rattle.c_tree.specs.Stmt as stmt
use Rattle.c_tree.specs.Scope.{Scope, entered}
use Rattle.c_tree.specs.Declarators.{with_declarator, declarator_breaches, declarators_breaches}
use Rattle.c_tree.specs.Statements.{behind as scope_behind, behind_beginning, test_breaches, optional_test_breaches, unused_breaches, beginning_breaches, statement_breaches, else_breaches, body_breaches}
use Rattle.c_tree.proofs.NoBreach.{nil_left, nil_right}
use Rattle.c_layout.specs.Frames.{beginning_locals, locals, else_locals, body_locals}
use Rattle.c_semantics.specs.Names.{Names, Definition}
use Rattle.c_semantics.specs.Exec.{behind, named_behind, named_beginning}
use Rattle.low_stmt.specs.FittingTexts.{VarsFit, FirstFits, StmtFits, ElseFits, StmtsFit}
use Rattle.low_stmt.specs.ParsedTexts.{AreParsedVars, IsParsedFirst, IsParsedStmt, IsParsedElse, AreParsedStmts}
use Rattle.low_stmt.proofs.PlacesOfLocals.{Hold, hold_front, hold_back}
use Rattle.low_stmt.proofs.DeclaredSizes.{declared_fits}
use Rattle.low_stmt.proofs.PlacedNames.{AreAligned, aligned_drop, PlacedNames, placed_entered, placed_beginning, placed_behind, marker_ready}

module _ (defined : List ℕ → Option Definition) (room top : ℕ) (small : 4 * top ≤ 2 ^ 16) where
  abbrev Placed : List ℕ → List Var → Type 0
  Placed places ds = Hold (4 * room) (4 * top) places ds

  vars_fit : (scope : Scope) (places : List ℕ) (ds : List Var) → AreParsedVars ds
      → declarators_breaches Automatic scope ds ≡ [] → Placed places ds → VarsFit ds
  vars_fit scope places [] parsed h hold = tt
  vars_fit scope [] (d ∷ ds) parsed h hold = absurd hold
  vars_fit scope (place ∷ places) (d ∷ ds) parsed h hold =
      let own = declarator_breaches Automatic scope d in
      let fits = declared_fits Automatic scope d parsed.0.0 (nil_left _ _ h) (omega (arith, small, hold.1)) in (
        fits.0,
        fits.1,
        parsed.0.1,
        vars_fit (with_declarator d scope) places ds parsed.1 (nil_right own _ h) hold.2,
      )

  first_fits : (scope : Scope) (places : List ℕ) (f : First) → IsParsedFirst f
      → beginning_breaches scope f ≡ [] → Placed places (beginning_locals f) → FirstFits f
  first_fits scope places for_first.Nothing parsed h hold = tt
  first_fits scope places (for_first.Vars ds) parsed h hold = vars_fit scope places ds parsed h hold
  first_fits scope places (for_first.Expr e) parsed h hold = parsed

  -- of two parts of a statement
  front : (places : List ℕ) (xs ys : List Var) → Placed places (xs ++ ys) → Placed places xs
  front = hold_front (4 * room) (4 * top)

  back : (places : List ℕ) (xs ys : List Var) → Placed places (xs ++ ys)
      → Placed (drop (length xs) places) ys
  back = hold_back (4 * room) (4 * top)

  module _ (result : Ty) where
    mutual
      stmt_fits : (loop : Bool) (s : Stmt) (scope : Scope) (names : Names) (places : List ℕ)
          → PlacedNames defined room top scope names → AreAligned places → IsParsedStmt s
          → statement_breaches result loop s scope ≡ [] → Placed places (locals s)
          → StmtFits defined room top names places s
      stmt_fits loop (stmt.Empty at) scope names places p aligned parsed h hold = tt
      stmt_fits loop (stmt.Expr e at) scope names places p aligned parsed h hold = parsed
      stmt_fits loop (stmt.Vars ds at) scope names places p aligned parsed h hold =
          vars_fit scope places ds parsed h hold
      stmt_fits loop (stmt.Block body at) scope names places p aligned parsed h hold =
          stmts_fit loop body (entered scope) names places (placed_entered defined room top p) aligned
          parsed h hold
      stmt_fits loop (stmt.Marker m at) scope names places p aligned parsed h hold =
          marker_ready defined room top scope names m at p parsed h
      stmt_fits loop (stmt.If c s other at) scope names places p aligned parsed h hold =
          let two = nil_right (test_breaches scope c at) _ h in
          let own = statement_breaches result loop s (entered scope) in (
            parsed.0,
            stmt_fits loop s (entered scope) names places (placed_entered defined room top p) aligned
                parsed.1 (nil_left _ _ two) (front places (locals s) (else_locals other) hold),
            else_fits loop other scope names (behind s places) p
                (aligned_drop (length (locals s)) places aligned) parsed.2 (nil_right own _ two)
                (back places (locals s) (else_locals other) hold),
          )
      stmt_fits loop (stmt.While c s at) scope names places p aligned parsed h hold = (
        parsed.0,
        stmt_fits true s (entered scope) names places (placed_entered defined room top p) aligned
            parsed.1 (nil_right (test_breaches scope c at) _ h) hold,
      )
      stmt_fits loop (stmt.Do s c at) scope names places p aligned parsed h hold = (
        stmt_fits true s (entered scope) names places (placed_entered defined room top p) aligned
            parsed.0 (nil_left _ _ h) hold,
        parsed.1,
      )
      stmt_fits loop (stmt.For f c d s at) scope names places p aligned parsed h hold =
          let outer = entered scope in
          let inside = behind_beginning f outer in
          let own = front places (beginning_locals f) (locals s) hold in
          let inner = placed_beginning defined room top small outer names places f
          (placed_entered defined room top p) own aligned in
          let two = nil_right (beginning_breaches outer f) _ h in
          let three = nil_right (optional_test_breaches inside c at) _ two in (
            first_fits outer places f parsed.0 (nil_left _ _ h) own,
            parsed.1,
            parsed.2,
            stmt_fits true s (entered inside) (named_beginning places f names)
                (drop (length (beginning_locals f)) places) (placed_entered defined room top inner)
                (aligned_drop (length (beginning_locals f)) places aligned) parsed.3
                (nil_right (unused_breaches inside d) _ three)
                (back places (beginning_locals f) (locals s) hold),
          )
      stmt_fits loop (stmt.Return value at) scope names places p aligned parsed h hold = parsed
      stmt_fits loop (stmt.Break at) scope names places p aligned parsed h hold = tt
      stmt_fits loop (stmt.Continue at) scope names places p aligned parsed h hold = tt

      else_fits : (loop : Bool) (other : ElseBranch) (scope : Scope) (names : Names)
          (places : List ℕ)
          → PlacedNames defined room top scope names → AreAligned places → IsParsedElse other
          → else_breaches result loop other scope ≡ [] → Placed places (else_locals other)
          → ElseFits defined room top names places other
      else_fits loop stmt.NoElse scope names places p aligned parsed h hold = tt
      else_fits loop (stmt.Else s) scope names places p aligned parsed h hold =
          stmt_fits loop s (entered scope) names places (placed_entered defined room top p) aligned
          parsed h hold

      pub stmts_fit : (loop : Bool) (body : Stmts) (scope : Scope) (names : Names)
          (places : List ℕ)
          → PlacedNames defined room top scope names → AreAligned places → AreParsedStmts body
          → body_breaches result loop body scope ≡ [] → Placed places (body_locals body)
          → StmtsFit defined room top names places body
      stmts_fit loop stmt.NoMore scope names places p aligned parsed h hold = tt
      stmts_fit loop (stmt.More s rest) scope names places p aligned parsed h hold =
          let own = front places (locals s) (body_locals rest) hold in (
            stmt_fits loop s scope names places p aligned parsed.0 (nil_left _ _ h) own,
            stmts_fit loop rest (scope_behind s scope) (named_behind places s names) (behind s places)
                (placed_behind defined room top small scope names places s p own aligned)
                (aligned_drop (length (locals s)) places aligned) parsed.1
                (nil_right (statement_breaches result loop s scope) _ h)
                (back places (locals s) (body_locals rest) hold),
          )
