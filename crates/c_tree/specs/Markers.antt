-- The markers of a text, in its order.
use Rattle.std.specs.Prelude.{List, [], ◌∷◌, ◌++◌, Option, Some, None}
use Rattle.c_tree.specs.declared.tree.Marker.{Marker}
use Rattle.c_tree.specs.Stmt.{Stmt, Stmts}
use Rattle.c_tree.specs.Stmt as stmt
use Rattle.c_tree.specs.Item.{Item}
use Rattle.c_tree.specs.Item as item
use Rattle.c_tree.specs.Collect.{collect, collect_all}

-- the marker that a statement is by itself
abbrev pub own_markers : Stmt → List Marker
own_markers (stmt.Marker m at) = m ∷ []
own_markers s = []

abbrev pub markers : Stmt → List Marker
markers = collect own_markers

abbrev pub all_markers : Stmts → List Marker
all_markers = collect_all own_markers

abbrev pub body_markers : Option Stmts → List Marker
body_markers None = []
body_markers (Some body) = all_markers body

abbrev pub text_markers : List Item → List Marker
text_markers [] = []
text_markers (item.Vars keep ds ∷ rest) = text_markers rest
text_markers (item.Fun f ∷ rest) = body_markers f.body ++ text_markers rest
