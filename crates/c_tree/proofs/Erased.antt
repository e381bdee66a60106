-- A text without its markers has none, and a text that has none stays.
use Rattle.std.specs.Prelude.{option_map}
use Rattle.std.proofs.Common.{◌≡◌, List, [], ◌∷◌, ◌++◌, Option, Some, None, refl, ap, ap₂}
use Rattle.c_tree.specs.Stmt.{Stmt, Stmts, ElseBranch}
use Rattle.c_tree.specs.Stmt as stmt
use Rattle.c_tree.specs.Item.{Item}
use Rattle.c_tree.specs.Item as item
use Rattle.c_tree.specs.Erase.{erased, erased_else, erased_all, erased_text}
use Rattle.c_tree.specs.Collect.{collect_else}
use Rattle.c_tree.specs.Markers.{own_markers, markers, all_markers, body_markers, text_markers}

mutual
  none_left : (s : Stmt) → markers (erased s) ≡ []
  none_left (stmt.Block body at) = none_left_in body
  none_left (stmt.If c s other at) = ap₂ (λ a b. a ++ b) (none_left s) (none_left_else other)
  none_left (stmt.While c s at) = none_left s
  none_left (stmt.Do s c at) = none_left s
  none_left (stmt.For f c d s at) = none_left s
  none_left s = refl

  none_left_else : (other : ElseBranch) → collect_else own_markers (erased_else other) ≡ []
  none_left_else stmt.NoElse = refl
  none_left_else (stmt.Else s) = none_left s

  none_left_in : (ss : Stmts) → all_markers (erased_all ss) ≡ []
  none_left_in stmt.NoMore = refl
  none_left_in (stmt.More s rest) = ap₂ (λ a b. a ++ b) (none_left s) (none_left_in rest)

none_left_behind : (body : Option Stmts) → body_markers (option_map erased_all body) ≡ []
none_left_behind None = refl
none_left_behind (Some body) = none_left_in body

pub erased_has_none : (ps : List Item) → text_markers (erased_text ps) ≡ []
erased_has_none [] = refl
erased_has_none (item.Vars keep ds ∷ rest) = erased_has_none rest
erased_has_none (item.Fun f ∷ rest) = ap₂ (λ a b. a ++ b) (none_left_behind f.body) (erased_has_none rest)

left_empty : {X : Type 0} (xs ys : List X) → xs ++ ys ≡ [] → xs ≡ []
left_empty [] ys h = refl
left_empty (x ∷ xs) ys h = cc

right_empty : {X : Type 0} (xs ys : List X) → xs ++ ys ≡ [] → ys ≡ []
right_empty [] ys h = h
right_empty (x ∷ xs) ys h = cc

mutual
  stays : (s : Stmt) → markers s ≡ [] → erased s ≡ s
  stays (stmt.Block body at) h = ap (λ b. stmt.Block b at) (all_stay body h)
  stays (stmt.Marker m at) h = cc
  stays (stmt.If c s other at) h = ap₂ (λ t o. stmt.If c t o at) (stays s (left_empty (markers s) (collect_else own_markers other) h)) (else_stays other (right_empty (markers s) (collect_else own_markers other) h))
  stays (stmt.While c s at) h = ap (λ t. stmt.While c t at) (stays s h)
  stays (stmt.Do s c at) h = ap (λ t. stmt.Do t c at) (stays s h)
  stays (stmt.For f c d s at) h = ap (λ t. stmt.For f c d t at) (stays s h)
  stays s h = refl

  else_stays : (other : ElseBranch) → collect_else own_markers other ≡ [] → erased_else other ≡ other
  else_stays stmt.NoElse h = refl
  else_stays (stmt.Else s) h = ap stmt.Else (stays s h)

  all_stay : (ss : Stmts) → all_markers ss ≡ [] → erased_all ss ≡ ss
  all_stay stmt.NoMore h = refl
  all_stay (stmt.More s rest) h = ap₂ stmt.More (stays s (left_empty (markers s) (all_markers rest) h)) (all_stay rest (right_empty (markers s) (all_markers rest) h))

body_stays : (body : Option Stmts) → body_markers body ≡ [] → option_map erased_all body ≡ body
body_stays None h = refl
body_stays (Some body) h = ap Some (all_stay body h)

pub unmarked_stays : (ps : List Item) → text_markers ps ≡ [] → erased_text ps ≡ ps
unmarked_stays [] h = refl
unmarked_stays (item.Vars keep ds ∷ rest) h = ap (λ r. item.Vars keep ds ∷ r) (unmarked_stays rest h)
unmarked_stays (item.Fun f ∷ rest) h =
    let here = body_stays f.body (left_empty (body_markers f.body) (text_markers rest) h) in
    let behind = unmarked_stays rest (right_empty (body_markers f.body) (text_markers rest) h) in
    ap₂ (λ b r. item.Fun (record f { body = b }) ∷ r) here behind

pub erased_twice : (ps : List Item) → erased_text (erased_text ps) ≡ erased_text ps
erased_twice ps = unmarked_stays (erased_text ps) (erased_has_none ps)
