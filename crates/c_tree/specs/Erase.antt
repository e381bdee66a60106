-- A text without its markers.
use Rattle.std.specs.Prelude.{List, map, option_map}
use Rattle.c_tree.specs.Stmt.{Stmt, Stmts, ElseBranch}
use Rattle.c_tree.specs.Stmt as stmt
use Rattle.c_tree.specs.Item.{Item}
use Rattle.c_tree.specs.Item as item

-- each marker becomes the empty statement at its place, and all else stays
abbrev mutual
  pub erased : Stmt → Stmt
  erased (stmt.Marker m at) = stmt.Empty at
  erased (stmt.Block body at) = stmt.Block (erased_all body) at
  erased (stmt.If c s other at) = stmt.If c (erased s) (erased_else other) at
  erased (stmt.While c s at) = stmt.While c (erased s) at
  erased (stmt.Do s c at) = stmt.Do (erased s) c at
  erased (stmt.For f c d s at) = stmt.For f c d (erased s) at
  erased s = s

  pub erased_else : ElseBranch → ElseBranch
  erased_else stmt.NoElse = stmt.NoElse
  erased_else (stmt.Else s) = stmt.Else (erased s)

  pub erased_all : Stmts → Stmts
  erased_all stmt.NoMore = stmt.NoMore
  erased_all (stmt.More s rest) = stmt.More (erased s) (erased_all rest)

abbrev pub erased_part : Item → Item
erased_part (item.Vars keep ds) = item.Vars keep ds
erased_part (item.Fun f) = item.Fun (record f { body = option_map erased_all f.body })

abbrev pub erased_text : List Item → List Item
erased_text = map erased_part
