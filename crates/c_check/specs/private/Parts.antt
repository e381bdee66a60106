-- Parts of statements and of texts.
use Rattle.std.specs.Prelude.{List, [], ◌++◌, Option}
use Rattle.c_tree.specs.declared.breach.Breach.{Breach}
use Rattle.c_tree.specs.declared.edge.Edge.{Edge}
use Rattle.c_tree.specs.declared.place.Place.{Place}
use Rattle.c_tree.specs.Regions.{function_edges}
use Rattle.c_tree.specs.Scope.{Scope}
use Rattle.c_tree.specs.Statements.{behind_beginning, optional_test_breaches, unused_breaches, beginning_breaches}
use Rattle.c_tree.specs.Expr.{Expr}
use Rattle.c_tree.specs.First.{First}
use Rattle.c_tree.specs.Item.{Item}
use Rattle.c_tree.specs.Item as item

-- the head of a `for`, in its block
abbrev pub head_breaches : First → Option Expr → Option Expr → Place → Scope → List Breach
head_breaches f c d at scope =
    beginning_breaches scope f
    ++ (optional_test_breaches (behind_beginning f scope) c at
    ++ unused_breaches (behind_beginning f scope) d)

-- the edges of an item
abbrev pub part_edges : Item → List Edge
part_edges (item.Vars keep ds) = []
part_edges (item.Fun f) = function_edges f.place f.body
