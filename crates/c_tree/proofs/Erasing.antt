-- A list of statements without its markers.
use Rattle.std.proofs.Common.{◌≡◌, List, [], ◌∷◌, map, refl, ap}
use Rattle.c_tree.specs.Stmt.{Stmt}
use Rattle.c_tree.specs.Stmt as stmt
use Rattle.c_tree.specs.View.{stmts_list}
use Rattle.c_tree.specs.Erase.{erased, erased_all}

pub erased_all-row : (ss : List Stmt) → erased_all (stmts_list ss) ≡ stmts_list (map erased ss)
erased_all-row [] = refl
erased_all-row (s ∷ ss) = ap (stmt.More (erased s)) (erased_all-row ss)

pub ruleset rows = (erased_all-row)
