-- Where regions end: at the labels after the calls of EndPPR, in the order of the text.
use Rattle.std.specs.Prelude.{ℕ, ◌+◌, List, [], ◌∷◌, ◌++◌, Option, Some, None, slice_set}
use Rattle.rv_code.specs.Step.{address_of}
use Rattle.c_tree.specs.declared.tree.Marker.{Marker}
use Rattle.c_tree.specs.declared.tree.Marker.TheVariants as marker
use Rattle.c_tree.specs.Item.{Item}
use Rattle.c_tree.specs.Item as item
use Rattle.c_tree.specs.Stmt.{Stmt, Stmts, ElseBranch}
use Rattle.c_tree.specs.Stmt as stmt
use Rattle.low_expr.specs.ExprCode.{labels_in}
use Rattle.low_stmt.specs.StmtCode.{labels_in_first, labels_in_optional, labels_in_stmt}
use Rattle.low_stmt.specs.TextCode.{definitions_in, labels_with}

-- the end of the region of a number
pub record RegionEnd : Type 0 where
  pub number : ℕ
  pub label : ℕ

abbrev pub ends_in_marker : (label : ℕ) → Marker → List RegionEnd
ends_in_marker label (marker.End k) = record { number = k; label = label } ∷ []
ends_in_marker label m = []

-- labels are numbered as in the code
abbrev mutual
  pub ends_in_stmt : (label : ℕ) → Stmt → List RegionEnd
  ends_in_stmt label (stmt.Block body at) = ends_in_stmts label body
  ends_in_stmt label (stmt.Marker marker at) = ends_in_marker label marker
  ends_in_stmt label (stmt.If c s other at) =
      let then_label = label + 2 + labels_in c in
      ends_in_stmt then_label s ++ ends_in_else (then_label + labels_in_stmt s) other
  ends_in_stmt label (stmt.While c s at) = ends_in_stmt (label + 3 + labels_in c) s
  ends_in_stmt label (stmt.Do s c at) = ends_in_stmt (label + 3) s
  ends_in_stmt label (stmt.For f c d s at) =
      ends_in_stmt (label + 3 + labels_in_first f + labels_in_optional c) s
  ends_in_stmt label s = []

  pub ends_in_else : (label : ℕ) → ElseBranch → List RegionEnd
  ends_in_else label stmt.NoElse = []
  ends_in_else label (stmt.Else s) = ends_in_stmt label s

  pub ends_in_stmts : (label : ℕ) → Stmts → List RegionEnd
  ends_in_stmts label stmt.NoMore = []
  ends_in_stmts label (stmt.More s rest) =
      ends_in_stmt label s ++ ends_in_stmts (label + labels_in_stmt s) rest

abbrev pub ends_in_body : (label : ℕ) → Option Stmts → List RegionEnd
ends_in_body label None = []
ends_in_body label (Some body) = ends_in_stmts (label + 3) body

abbrev pub ends_in_functions : (label : ℕ) → List Item → List RegionEnd
ends_in_functions label [] = []
ends_in_functions label (item.Vars keep ds ∷ rest) = ends_in_functions label rest
ends_in_functions label (item.Fun f ∷ rest) =
    ends_in_body label f.body ++ ends_in_functions (labels_with f.body label) rest

abbrev pub ends_in_text : List Item → List RegionEnd
ends_in_text text = ends_in_functions (definitions_in text) text

-- the addresses of the ends, by the places of the labels, at the numbers of their regions
abbrev pub with_ends : (labels : ℕ → ℕ) → List RegionEnd → List ℕ → List ℕ
with_ends labels [] ends = ends
with_ends labels (e ∷ es) ends =
    with_ends labels es (slice_set ends e.number (address_of (labels e.label)))
