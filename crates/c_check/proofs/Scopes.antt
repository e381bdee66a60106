-- The blocks round the innermost one on the way through statements.
use Rattle.std.proofs.Common.{◌≡◌, ℕ, List, [], ◌∷◌, Option, Some, None, refl, ap, ◌∙◌}
use Rattle.c_tree.specs.Accepted.{with_name, with_parameter, with_parameters}
use Rattle.c_tree.specs.Declarators.{parameter_shape, with_declarator, with_declarators}
use Rattle.c_tree.specs.Scope.{Scope}
use Rattle.c_tree.specs.Statements.{behind, behind_beginning}
use Rattle.c_tree.specs.Ty.{Ty}
use Rattle.c_tree.specs.Var.{Var}
use Rattle.c_tree.specs.First.{First}
use Rattle.c_tree.specs.First as for_first
use Rattle.c_tree.specs.Stmt.{Stmt}
use Rattle.c_tree.specs.Stmt as stmt
use Rattle.c_tree.specs.Fun.{Param}

with_declarators_outer : (ds : List Var) (scope : Scope)
    → (with_declarators ds scope).outer ≡ scope.outer
with_declarators_outer [] scope = refl
with_declarators_outer (d ∷ ds) scope = with_declarators_outer ds (with_declarator d scope)

-- a statement opens and closes no block for those behind it
pub behind_outer : (s : Stmt) (scope : Scope) → (behind s scope).outer ≡ scope.outer
behind_outer (stmt.Vars ds at) scope = with_declarators_outer ds scope
behind_outer s scope = refl

beginning_outer : (f : First) (scope : Scope) → (behind_beginning f scope).outer ≡ scope.outer
beginning_outer for_first.Nothing scope = refl
beginning_outer (for_first.Vars ds) scope = with_declarators_outer ds scope
beginning_outer (for_first.Expr e) scope = refl

with_name_outer : (name : Option (List ℕ)) (t : Ty) (scope : Scope)
    → (with_name name t scope).outer ≡ scope.outer
with_name_outer None t scope = refl
with_name_outer (Some name) t scope = refl

parameters_outer : (ps : List Param) (scope : Scope)
    → (with_parameters ps scope).outer ≡ scope.outer
parameters_outer [] scope = refl
parameters_outer (p ∷ ps) scope = parameters_outer ps (with_parameter p scope) ∙ with_name_outer p.name (parameter_shape p) scope

-- that way through one scope more
pub through : (opened between end : Scope) → end ≡ between → between.outer ≡ opened.outer
    → end.outer ≡ opened.outer
through opened between end a b = ap (λ (x : Scope). x.outer) a ∙ b

-- the way through a `for`
pub headed : (f : First) (opened between end : Scope) → between ≡ behind_beginning f opened
    → end ≡ between → end.outer ≡ opened.outer
headed f opened between end a b = through opened between end b (through opened (behind_beginning f opened) between a (beginning_outer f opened))

-- the way through the parameters and a body
pub parametered : (ps : List Param) (opened between end : Scope)
    → between ≡ with_parameters ps opened → end.outer ≡ between.outer → end.outer ≡ opened.outer
parametered ps opened between end a b = b ∙ through opened (with_parameters ps opened) between a (parameters_outer ps opened)
