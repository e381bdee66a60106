-- What breaks no rule breaks none without its markers.
use Rattle.std.specs.Prelude.{option_map, is_some}
use Rattle.std.proofs.Common.{◌≡◌, ℕ, Bool, true, false, not, ◌||◌, List, [], ◌∷◌, ◌++◌, Option, Some, None, refl, sym, ap₂, subst}
use Rattle.std.proofs.lemmas.List.{map-append}
use Rattle.c_tree.specs.declared.breach.Breach.{Breach}
use Rattle.c_tree.specs.declared.place.Place.{Place}
use Rattle.c_tree.specs.declared.tree.Tree.{Tree}
use Rattle.c_tree.specs.Ty.{Ty}
use Rattle.c_tree.specs.Stmt.{Stmt, Stmts, ElseBranch}
use Rattle.c_tree.specs.Stmt as stmt
use Rattle.c_tree.specs.Fun.{Fun}
use Rattle.c_tree.specs.Item.{Item}
use Rattle.c_tree.specs.Item as item
use Rattle.c_tree.specs.View.{items_of}
use Rattle.c_tree.specs.Scope.{Scope, entered, empty_scope}
use Rattle.c_tree.specs.Statements.{behind, behind_beginning, test_breaches, optional_test_breaches, unused_breaches, beginning_breaches, statement_breaches, else_breaches, body_breaches}
use Rattle.c_tree.specs.Regions.{edges, else_edges, body_edges, function_edges, text_edges}
use Rattle.c_tree.specs.Accepted.{Accepted, is_defined_by, is_defined, definition_breaches, part_breaches, parts_breaches, behind_part, with_function, function_breaches, text_breaches, is_main, has_main, result_shape, again_breaches, parameters_breaches, with_parameters, parameter_shapes}
use Rattle.c_tree.specs.Breach.{unless}
use Rattle.c_tree.specs.Erase.{erased, erased_else, erased_all, erased_part, erased_text}
use Rattle.c_tree.proofs.Acceptance.{accepted_without, unbroken, with_main}
use Rattle.c_tree.proofs.NoBreach.{nil_left, nil_right}

nil_both : (xs ys : List Breach) → xs ≡ [] → ys ≡ [] → xs ++ ys ≡ []
nil_both xs ys h k = ap₂ (λ a b. a ++ b) h k

behind_erased : (s : Stmt) (scope : Scope) → behind (erased s) scope ≡ behind s scope
behind_erased (stmt.Vars ds at) scope = refl
behind_erased s scope = refl

module _ (result : Ty) where
  mutual
    right_erased : (loop : Bool) (s : Stmt) (scope : Scope)
        → statement_breaches result loop s scope ≡ []
        → statement_breaches result loop (erased s) scope ≡ []
    right_erased loop (stmt.Block body at) scope h = all_right_erased loop body (entered scope) h
    right_erased loop (stmt.Marker m at) scope h = refl
    right_erased loop (stmt.If c s other at) scope h =
        let two = nil_right (test_breaches scope c at) _ h in
        nil_both _ _ (nil_left (test_breaches scope c at) _ h)
        (nil_both _ _ (right_erased loop s (entered scope) (nil_left _ _ two)) (else_right_erased loop other scope (nil_right (statement_breaches result loop s (entered scope)) _ two)))
    right_erased loop (stmt.While c s at) scope h =
        nil_both _ _ (nil_left (test_breaches scope c at) _ h) (right_erased true s (entered scope) (nil_right (test_breaches scope c at) _ h))
    right_erased loop (stmt.Do s c at) scope h =
        nil_both _ _ (right_erased true s (entered scope) (nil_left _ _ h)) (nil_right (statement_breaches result true s (entered scope)) _ h)
    right_erased loop (stmt.For f c d s at) scope h =
        let inside = behind_beginning f (entered scope) in
        let two = nil_right (beginning_breaches (entered scope) f) _ h in
        let three = nil_right (optional_test_breaches inside c at) _ two in
        nil_both _ _ (nil_left (beginning_breaches (entered scope) f) _ h)
        (nil_both _ _ (nil_left (optional_test_breaches inside c at) _ two)
        (nil_both _ _ (nil_left (unused_breaches inside d) _ three) (right_erased true s (entered inside) (nil_right (unused_breaches inside d) _ three))))
    right_erased loop s scope h = h

    else_right_erased : (loop : Bool) (other : ElseBranch) (scope : Scope)
        → else_breaches result loop other scope ≡ []
        → else_breaches result loop (erased_else other) scope ≡ []
    else_right_erased loop stmt.NoElse scope h = refl
    else_right_erased loop (stmt.Else s) scope h = right_erased loop s (entered scope) h

    all_right_erased : (loop : Bool) (body : Stmts) (scope : Scope)
        → body_breaches result loop body scope ≡ []
        → body_breaches result loop (erased_all body) scope ≡ []
    all_right_erased loop stmt.NoMore scope h = refl
    all_right_erased loop (stmt.More s rest) scope h =
        nil_both _ _ (right_erased loop s scope (nil_left _ _ h))
        (subst (λ inner. body_breaches result loop (erased_all rest) inner ≡ []) (sym (behind_erased s scope)) (all_right_erased loop rest (behind s scope) (nil_right (statement_breaches result loop s scope) _ h)))

mutual
  no_edges : (block : Option Place) (s : Stmt) → edges block (erased s) ≡ []
  no_edges block (stmt.Block body at) = no_edges_in (Some at) body
  no_edges block (stmt.If c s other at) = ap₂ (λ a b. a ++ b) (no_edges None s) (no_else_edges other)
  no_edges block (stmt.While c s at) = no_edges None s
  no_edges block (stmt.Do s c at) = no_edges None s
  no_edges block (stmt.For f c d s at) = no_edges None s
  no_edges block s = refl

  no_else_edges : (other : ElseBranch) → else_edges (erased_else other) ≡ []
  no_else_edges stmt.NoElse = refl
  no_else_edges (stmt.Else s) = no_edges None s

  no_edges_in : (block : Option Place) (body : Stmts) → body_edges block (erased_all body) ≡ []
  no_edges_in block stmt.NoMore = refl
  no_edges_in block (stmt.More s rest) = ap₂ (λ a b. a ++ b) (no_edges block s) (no_edges_in block rest)

no_function_edges : (at : Place) (body : Option Stmts)
    → function_edges at (option_map erased_all body) ≡ []
no_function_edges at None = refl
no_function_edges at (Some body) = no_edges_in (Some at) body

no_text_edges : (ps : List Item) → text_edges (erased_text ps) ≡ []
no_text_edges [] = refl
no_text_edges (item.Vars keep ds ∷ rest) = no_text_edges rest
no_text_edges (item.Fun f ∷ rest) = ap₂ (λ a b. a ++ b) (no_function_edges f.place f.body) (no_text_edges rest)

has_body : (body : Option Stmts) → is_some (option_map erased_all body) ≡ is_some body
has_body None = refl
has_body (Some body) = refl

defined_by : (name : List ℕ) (p : Item) → is_defined_by name (erased_part p) ≡ is_defined_by name p
defined_by name (item.Vars keep ds) = refl
defined_by name (item.Fun f) = let same = has_body f.body in rw same refl

defined_all : (ps : List Item) (name : List ℕ)
    → is_defined (erased_text ps) name ≡ is_defined ps name
defined_all [] name = refl
defined_all (p ∷ ps) name = ap₂ (λ a b. a || b) (defined_by name p) (defined_all ps name)

right_definition : (before : Bool) (scope : Scope) (f : Fun) (body : Option Stmts)
    → definition_breaches before scope f body ≡ []
    → definition_breaches before scope (record f { body = option_map erased_all f.body }) (option_map erased_all body) ≡ []
right_definition before scope f None h = refl
right_definition before scope f (Some body) h =
    let two = nil_right (unless (not before) _ f.place) _ h in
    nil_both _ _ (nil_left (unless (not before) _ f.place) _ h)
    (nil_both _ _ (nil_left (parameters_breaches (entered scope) f.parameters) _ two)
    (all_right_erased (result_shape f) false body (with_parameters f.parameters (entered scope)) (nil_right (parameters_breaches (entered scope) f.parameters) _ two)))

same_function : (all : List Item) (f : Fun) (scope : Scope)
    → with_function (erased_text all) (record f { body = option_map erased_all f.body }) scope
    ≡ with_function all f scope
same_function all f scope = let same = defined_all all f.name in rw same refl

right_function : (all before : List Item) (scope : Scope) (f : Fun)
    → function_breaches all before scope f ≡ []
    → function_breaches (erased_text all) (erased_text before) scope (record f { body = option_map erased_all f.body }) ≡ []
right_function all before scope f h =
    let again = again_breaches (scope.inner f.name) (result_shape f) (parameter_shapes f.parameters) f.place in
    let two = nil_right again _ h in
    let own = right_definition (is_defined before f.name) (with_function all f scope) f f.body (nil_right (unless _ _ f.place) _ two) in
    let here = same_function all f scope in
    let known = defined_all before f.name in
    let bare = record f { body = option_map erased_all f.body } in
    let moved : definition_breaches (is_defined (erased_text before) f.name) (with_function (erased_text all) bare scope) bare bare.body ≡ [] = rw (here, known) own in
    nil_both _ _ (nil_left again _ h) (nil_both _ _ (nil_left (unless _ _ f.place) _ two) moved)

right_part : (all before : List Item) (scope : Scope) (p : Item)
    → part_breaches all before scope p ≡ []
    → part_breaches (erased_text all) (erased_text before) scope (erased_part p) ≡ []
right_part all before scope (item.Vars keep ds) h = h
right_part all before scope (item.Fun f) h = right_function all before scope f h

same_behind : (all : List Item) (p : Item) (scope : Scope)
    → behind_part (erased_text all) (erased_part p) scope ≡ behind_part all p scope
same_behind all (item.Vars keep ds) scope = refl
same_behind all (item.Fun f) scope = same_function all f scope

right_parts : (all before : List Item) (scope : Scope) (ps : List Item)
    → parts_breaches all before scope ps ≡ []
    → parts_breaches (erased_text all) (erased_text before) scope (erased_text ps) ≡ []
right_parts all before scope [] h = refl
right_parts all before scope (p ∷ ps) h =
    let rest = right_parts all (before ++ p ∷ []) (behind_part all p scope) ps (nil_right (part_breaches all before scope p) _ h) in
    let same = same_behind all p scope in
    let front : erased_text (before ++ p ∷ []) ≡ erased_text before ++ erased_part p ∷ [] = map-append erased_part before (p ∷ []) in
    nil_both _ _ (right_part all before scope p (nil_left _ _ h)) (rw (same, sym front) rest)

right_text : (ps : List Item) → text_breaches ps ≡ [] → text_breaches (erased_text ps) ≡ []
right_text ps h =
    let none = no_text_edges ps in
    nil_both _ _ (right_parts ps [] empty_scope ps (nil_left _ _ h)) (rw none refl)

main_stays : (p : Item) → is_main (erased_part p) ≡ is_main p
main_stays (item.Vars keep ds) = refl
main_stays (item.Fun f) = let same = has_body f.body in rw same refl

mains_stay : (ps : List Item) → has_main (erased_text ps) ≡ has_main ps
mains_stay [] = refl
mains_stay (p ∷ ps) = ap₂ (λ a b. a || b) (main_stays p) (mains_stay ps)

pub erased_accepted : (tree bare : Tree) → items_of bare ≡ erased_text (items_of tree)
    → Accepted tree → Accepted bare
erased_accepted tree bare e h =
    let right = right_text (items_of tree) (unbroken tree h) in
    let main = mains_stay (items_of tree) in
    let there = with_main tree h in
    accepted_without bare (rw e right) (rw (e, main) there)
