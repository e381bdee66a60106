-- The labels of the ends of a function are among its own.
use Rattle.std.proofs.Common.{ℕ, ◌+◌, ◌≤◌, arith}
use Rattle.c_tree.specs.declared.tree.Marker.{Marker}
use Rattle.c_tree.specs.declared.tree.Marker.TheVariants as marker
use Rattle.c_tree.specs.Stmt.{Stmt, Stmts, ElseBranch}
use Rattle.c_tree.specs.Stmt as stmt
use Rattle.low_expr.specs.ExprCode.{labels_in}
use Rattle.low_stmt.specs.MarkerCode.{labels_in_marker}
use Rattle.low_stmt.specs.RegionEnds.{ends_in_marker, ends_in_stmt, ends_in_else, ends_in_stmts}
use Rattle.low_stmt.specs.private.Parts.{AreEndsWithin}
use Rattle.low_stmt.proofs.PartLemmas.{within_append}
use Rattle.low_stmt.specs.StmtCode.{labels_in_first, labels_in_optional, labels_in_stmt, labels_in_else, labels_in_stmts}

marker_within : (low high label : ℕ) (m : Marker) → low ≤ label → label + labels_in_marker m ≤ high
    → AreEndsWithin low high (ends_in_marker label m)
marker_within low high label (marker.Begin k) le less = tt
marker_within low high label (marker.End k) le less = (le, omega (arith, less), tt)
marker_within low high label (marker.Wait k) le less = tt
marker_within low high label (marker.Post k name at count) le less = tt

module _ (low high : ℕ) where
  mutual
    stmt_within : (label : ℕ) (s : Stmt) → low ≤ label → label + labels_in_stmt s ≤ high
        → AreEndsWithin low high (ends_in_stmt label s)
    stmt_within label (stmt.Empty at) le less = tt
    stmt_within label (stmt.Expr e at) le less = tt
    stmt_within label (stmt.Vars ds at) le less = tt
    stmt_within label (stmt.Block body at) le less = stmts_within label body le less
    stmt_within label (stmt.Marker m at) le less = marker_within low high label m le less
    stmt_within label (stmt.If c s other at) le less =
        let inner = label + 2 + labels_in c in
        within_append low high (ends_in_stmt inner s) (ends_in_else (inner + labels_in_stmt s) other)
        (stmt_within inner s (omega (arith, le)) (omega (arith, less)))
        (else_within (inner + labels_in_stmt s) other (omega (arith, le)) (omega (arith, less)))
    stmt_within label (stmt.While c s at) le less =
        stmt_within (label + 3 + labels_in c) s (omega (arith, le)) (omega (arith, less))
    stmt_within label (stmt.Do s c at) le less =
        stmt_within (label + 3) s (omega (arith, le)) (omega (arith, less))
    stmt_within label (stmt.For f c d s at) le less =
        stmt_within (label + 3 + labels_in_first f + labels_in_optional c) s (omega (arith, le))
        (omega (arith, less))
    stmt_within label (stmt.Return value at) le less = tt
    stmt_within label (stmt.Break at) le less = tt
    stmt_within label (stmt.Continue at) le less = tt

    else_within : (label : ℕ) (s : ElseBranch) → low ≤ label → label + labels_in_else s ≤ high
        → AreEndsWithin low high (ends_in_else label s)
    else_within label stmt.NoElse le less = tt
    else_within label (stmt.Else s) le less = stmt_within label s le less

    pub stmts_within : (label : ℕ) (ss : Stmts) → low ≤ label → label + labels_in_stmts ss ≤ high
        → AreEndsWithin low high (ends_in_stmts label ss)
    stmts_within label stmt.NoMore le less = tt
    stmts_within label (stmt.More s rest) le less =
        within_append low high (ends_in_stmt label s) (ends_in_stmts (label + labels_in_stmt s) rest)
        (stmt_within label s le (omega (arith, less)))
        (stmts_within (label + labels_in_stmt s) rest (omega (arith, le)) (omega (arith, less)))
