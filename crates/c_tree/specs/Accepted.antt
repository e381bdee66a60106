-- The rules that a whole text breaks (C11 6.9), its fault, and the trees that are accepted.
use Rattle.std.specs.Prelude.{ℕ, Bool, true, false, not, ◌&&◌, ◌||◌, IsTrue, List, [], ◌∷◌, ◌++◌, Option, Some, None, is_some, map, length, nat_le, bytes_eq, codes}
use Rattle.c_tree.specs.declared.storage.Storage.TheVariants.{Static}
use Rattle.c_tree.specs.declared.limits.TheConstants.{MOST_PARAMETERS}
use Rattle.c_tree.specs.declared.breach.Breach.{Breach}
use Rattle.c_tree.specs.declared.breach.Broken.TheVariants.{Twice, Mismatch, Arguments, NoMain, TooManyParameters}
use Rattle.c_tree.specs.declared.breach.Ranking.TheVariants.{ForChecks}
use Rattle.c_tree.specs.declared.place.Place.{Place}
use Rattle.c_tree.specs.declared.tree.Tree.{Tree}
use Rattle.c_tree.specs.Ty.{Ty}
use Rattle.c_tree.specs.Ty as ty
use Rattle.c_tree.specs.Stmt.{Stmts}
use Rattle.c_tree.specs.Fun.{Param, Fun}
use Rattle.c_tree.specs.Item.{Item}
use Rattle.c_tree.specs.Item as item
use Rattle.c_tree.specs.View.{items_of}
use Rattle.c_tree.specs.Scope.{Known, ObjectOf, FunctionOf, Scope, empty_scope, otherwise, declared, entered}
use Rattle.c_tree.specs.Breach.{breach, unless, least_of, nothing_found}
use Rattle.c_tree.specs.Shapes.{same}
use Rattle.c_tree.specs.Declarators.{pointers, parameter_shape, with_declarators, declarators_breaches}
use Rattle.c_tree.specs.Statements.{body_breaches}
use Rattle.c_tree.specs.Regions.{text_edges, edge_breaches}

abbrev pub result_shape : Fun → Ty
result_shape f = pointers f.stars f.base

abbrev pub parameter_shapes : List Param → List Ty
parameter_shapes ps = map parameter_shape ps

-- the text defines a function of this name
abbrev pub is_defined_by : List ℕ → Item → Bool
is_defined_by name (item.Vars keep ds) = false
is_defined_by name (item.Fun f) = is_some f.body && bytes_eq f.name name

abbrev pub is_defined : List Item → List ℕ → Bool
is_defined [] name = false
is_defined (p ∷ ps) name = is_defined_by name p || is_defined ps name

abbrev pub same_all : List Ty → List Ty → Bool
same_all [] [] = true
same_all (t ∷ ts) (u ∷ us) = same t u && same_all ts us
same_all [] (u ∷ us) = false
same_all (t ∷ ts) [] = false

-- a name that is a variable already, or a function of another type (6.7)
abbrev pub again_breaches : Option Known → Ty → List Ty → Place → List Breach
again_breaches None t ts at = []
again_breaches (Some (ObjectOf u)) t ts at = breach Twice at
again_breaches (Some (FunctionOf u us defined)) t ts at =
    unless (same u t && same_all us ts) Mismatch at

-- a parameter of a definition has a name, which no other has (6.9.1)
abbrev pub parameter_name_breaches : Scope → Option (List ℕ) → Place → List Breach
parameter_name_breaches scope None at = breach Arguments at
parameter_name_breaches scope (Some name) at = unless (not (is_some (scope.inner name))) Twice at

abbrev pub with_name : Option (List ℕ) → Ty → Scope → Scope
with_name None t scope = scope
with_name (Some name) t scope = declared name (ObjectOf t) scope

abbrev pub with_parameter : Param → Scope → Scope
with_parameter p scope = with_name p.name (parameter_shape p) scope

abbrev pub with_parameters : List Param → Scope → Scope
with_parameters [] scope = scope
with_parameters (p ∷ ps) scope = with_parameters ps (with_parameter p scope)

abbrev pub parameters_breaches : Scope → List Param → List Breach
parameters_breaches scope [] = []
parameters_breaches scope (p ∷ ps) =
    parameter_name_breaches scope p.name p.place ++ parameters_breaches (with_parameter p scope) ps

-- Parameters belong to the block of the body. The flag says that a definition of the name stands before.
abbrev pub definition_breaches : Bool → Scope → Fun → Option Stmts → List Breach
definition_breaches before scope f None = []
definition_breaches before scope f (Some body) =
    unless (not before) Twice f.place
    ++ (parameters_breaches (entered scope) f.parameters
    ++ body_breaches (result_shape f) false body (with_parameters f.parameters (entered scope)))

-- what holds of a whole text: which functions it defines
module _ (all : List Item) where
  abbrev pub with_function : Fun → Scope → Scope
  with_function f scope = declared f.name
      (FunctionOf (result_shape f) (parameter_shapes f.parameters) (is_defined all f.name)) scope

  abbrev pub function_breaches : List Item → Scope → Fun → List Breach
  function_breaches before scope f =
      again_breaches (scope.inner f.name) (result_shape f) (parameter_shapes f.parameters) f.place
      ++ (unless (nat_le (length f.parameters) MOST_PARAMETERS) TooManyParameters f.place
      ++ definition_breaches (is_defined before f.name) (with_function f scope) f f.body)

  abbrev pub part_breaches : List Item → Scope → Item → List Breach
  part_breaches before scope (item.Vars keep ds) = declarators_breaches Static scope ds
  part_breaches before scope (item.Fun f) = function_breaches before scope f

  abbrev pub behind_part : Item → Scope → Scope
  behind_part (item.Vars keep ds) scope = with_declarators ds scope
  behind_part (item.Fun f) scope = with_function f scope

  abbrev pub parts_breaches : List Item → Scope → List Item → List Breach
  parts_breaches before scope [] = []
  parts_breaches before scope (p ∷ ps) =
      part_breaches before scope p ++ parts_breaches (before ++ p ∷ []) (behind_part p scope) ps

-- the breaches of a text, but for a `main` that is missing
abbrev pub text_breaches : List Item → List Breach
text_breaches ps = parts_breaches ps [] empty_scope ps ++ edge_breaches [] (text_edges ps)

abbrev pub has_no_parameter : List Param → Bool
has_no_parameter [] = true
has_no_parameter (p ∷ ps) = false

-- `main` is defined with result int and without parameters (5.1.2.2.1)
abbrev pub is_main : Item → Bool
is_main (item.Vars keep ds) = false
is_main (item.Fun f) = is_some f.body
    && (bytes_eq f.name (codes "main")
    && (same (result_shape f) ty.Int && has_no_parameter f.parameters))

abbrev pub has_main : List Item → Bool
has_main [] = false
has_main (p ∷ ps) = is_main p || has_main ps

abbrev pub start : Place
start = record { line = 1; column = 1 }

abbrev pub main_fault : Bool → Option Breach
main_fault true = None
main_fault false = Some (record { kind = NoMain; place = start })

-- the fault of a text: its least breach; only where there is none, that it has no `main`
abbrev pub text_fault : List Item → Option Breach
text_fault ps = otherwise (least_of (nothing_found ForChecks) (text_breaches ps)).found
    (main_fault (has_main ps))

abbrev pub is_none_broken : List Breach → Bool
is_none_broken [] = true
is_none_broken (b ∷ bs) = false

-- a tree is accepted where it breaks no rule
unfoldable pub is_accepted : Tree → Bool
is_accepted tree = is_none_broken (text_breaches (items_of tree)) && has_main (items_of tree)

abbrev pub Accepted : Tree → Type 0
Accepted tree = IsTrue (is_accepted tree)
