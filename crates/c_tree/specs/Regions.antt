-- Regions: each number begins and ends at most once, both or neither, in one block, and begins first.
use Rattle.std.specs.Prelude.{ℕ, ◌==◌, Bool, true, false, not, ◌&&◌, ◌||◌, List, [], ◌∷◌, ◌++◌, Option, Some, None, is_some, if◌then◌else◌}
use Rattle.c_tree.specs.declared.breach.Breach.{Breach}
use Rattle.c_tree.specs.declared.breach.Broken.TheVariants.{Marker as BadMarker}
use Rattle.c_tree.specs.declared.edge.Edge.{Edge}
use Rattle.c_tree.specs.declared.place.Place.{Place}
use Rattle.c_tree.specs.declared.tree.Marker.{Marker}
use Rattle.c_tree.specs.declared.tree.Marker.TheVariants as marker
use Rattle.c_tree.specs.Stmt.{Stmt, Stmts, ElseBranch}
use Rattle.c_tree.specs.Stmt as stmt
use Rattle.c_tree.specs.Item.{Item}
use Rattle.c_tree.specs.Item as item
use Rattle.c_tree.specs.Breach.{unless}

-- the edge of a region that a marker is, with the place of the block whose own statement it is
abbrev pub edge : Option Place → Marker → Place → List Edge
edge block (marker.Begin k) at =
    record { begins = true; number = k; place = at; block = block } ∷ []
edge block (marker.End k) at = record { begins = false; number = k; place = at; block = block } ∷ []
edge block (marker.Wait channel) at = []
edge block (marker.Post channel name name_at n) at = []

-- the edges in the order of the text
abbrev mutual
  pub edges : Option Place → Stmt → List Edge
  edges block (stmt.Marker m at) = edge block m at
  edges block (stmt.Block body at) = body_edges (Some at) body
  edges block (stmt.If c s other at) = edges None s ++ else_edges other
  edges block (stmt.While c s at) = edges None s
  edges block (stmt.Do s c at) = edges None s
  edges block (stmt.For f c d s at) = edges None s
  edges block s = []

  pub else_edges : ElseBranch → List Edge
  else_edges stmt.NoElse = []
  else_edges (stmt.Else s) = edges None s

  pub body_edges : Option Place → Stmts → List Edge
  body_edges block stmt.NoMore = []
  body_edges block (stmt.More s rest) = edges block s ++ body_edges block rest

abbrev pub function_edges : Place → Option Stmts → List Edge
function_edges at None = []
function_edges at (Some body) = body_edges (Some at) body

abbrev pub text_edges : List Item → List Edge
text_edges [] = []
text_edges (item.Vars keep ds ∷ rest) = text_edges rest
text_edges (item.Fun f ∷ rest) = function_edges f.place f.body ++ text_edges rest

abbrev pub alike : Bool → Bool → Bool
alike a b = if a then b else not b

abbrev pub is_edge : Bool → ℕ → Edge → Bool
is_edge begins k e = alike e.begins begins && (e.number == k)

abbrev pub first_edge : Bool → ℕ → List Edge → Option Edge
first_edge begins k [] = None
first_edge begins k (e ∷ es) = if is_edge begins k e then Some e else first_edge begins k es

abbrev pub is_same_place : Place → Place → Bool
is_same_place a b = (a.line == b.line) && (a.column == b.column)

abbrev pub is_same_block : Option Place → Option Place → Bool
is_same_block (Some a) (Some b) = is_same_place a b
is_same_block (Some a) None = false
is_same_block None b = false

-- of a pair the earlier edge is right where it begins the region and both stand in one block
abbrev pub is_right_before : Edge → Option Edge → Bool
is_right_before e None = false
is_right_before e (Some partner) = e.begins && is_same_block e.block partner.block

-- An edge is right where none of its kind and number stands before it, and its partner before it, or behind it and rightly so.
-- The partner is the first edge of the other kind.
abbrev pub is_right : List Edge → Edge → List Edge → Bool
is_right before e behind =
    not (is_some (first_edge e.begins e.number before))
    && (is_some (first_edge (not e.begins) e.number before)
    || is_right_before e (first_edge (not e.begins) e.number behind))

abbrev pub edge_breaches : List Edge → List Edge → List Breach
edge_breaches before [] = []
edge_breaches before (e ∷ es) =
    unless (is_right before e es) BadMarker e.place ++ edge_breaches (before ++ e ∷ []) es
