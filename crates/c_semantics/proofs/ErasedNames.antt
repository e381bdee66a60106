-- The names of a text without its markers: their functions have no markers either, and all else is the same.
use Rattle.std.proofs.Common.{◌≡◌, ℕ, List, [], ◌∷◌, drop, Bool, true, false, Option, Some, None, refl, ap, ◌∙◌}
use Rattle.std.specs.Prelude.{option_map, bytes_eq, if◌then◌else◌}
use Rattle.c_tree.specs.Declarators.{declared_shape, parameter_shape}
use Rattle.c_tree.specs.Erase.{erased, erased_all}
use Rattle.c_tree.specs.Ty.{Ty}
use Rattle.c_tree.specs.Var.{Var}
use Rattle.c_tree.specs.Stmt.{Stmt}
use Rattle.c_tree.specs.Stmt as stmt
use Rattle.c_tree.specs.Fun.{Param, Fun}
use Rattle.c_semantics.specs.declared.home.Home.TheVariants.{Fixed, InFrame}
use Rattle.c_semantics.specs.Names.{Definition, Named, Variable, Routine, Names, with_name, known, types, home_of, definition_of}
use Rattle.c_semantics.specs.Exec.{with_local, with_locals_named, named_behind}
use Rattle.c_semantics.specs.Meaning.{with_global, with_globals, with_parameter, with_parameters}

abbrev pub erased_function : Fun → Fun
erased_function f = record f { body = option_map erased_all f.body }

abbrev pub erased_definition : Definition → Definition
erased_definition d = record { function = erased_function d.function; body = erased_all d.body }

abbrev pub erased_named : Named → Named
erased_named (Variable shape home) = Variable shape home
erased_named (Routine result parameters definition) = Routine result parameters (option_map erased_definition definition)

abbrev pub erased_names : Names → Names
erased_names names = λ name. option_map erased_named (names name)

same_known : (o : Option Named) → option_map known (option_map erased_named o) ≡ option_map known o
same_known None = refl
same_known (Some (Variable shape home)) = refl
same_known (Some (Routine result parameters definition)) = refl

pub same_types : (names : Names) → types (erased_names names) ≡ types names
same_types names = λ i. record { outer = []; inner = λ name. same_known (names name) i }

pub same_home : (o : Option Named) → home_of (option_map erased_named o) ≡ home_of o
same_home None = refl
same_home (Some (Variable shape home)) = refl
same_home (Some (Routine result parameters definition)) = refl

pub erased_definition_of : (o : Option Named)
    → definition_of (option_map erased_named o) ≡ option_map erased_definition (definition_of o)
erased_definition_of None = refl
erased_definition_of (Some (Variable shape home)) = refl
erased_definition_of (Some (Routine result parameters definition)) = refl

-- A name more, before or after.

erased_where : (b : Bool) (named : Named) (o : Option Named)
    → (if b then Some (erased_named named) else option_map erased_named o)
    ≡ option_map erased_named (if b then Some named else o)
erased_where true named o = refl
erased_where false named o = refl

pub erased_with : (name : List ℕ) (named : Named) (names : Names)
    → with_name name (erased_named named) (erased_names names)
    ≡ erased_names (with_name name named names)
erased_with name named names = λ i other. erased_where (bytes_eq name other) named (names other) i

pub erased_local : (places : List ℕ) (d : Var) (names : Names)
    → with_local places d (erased_names names) ≡ erased_names (with_local places d names)
erased_local [] d names = refl
erased_local (place ∷ places) d names = erased_with d.name (Variable (declared_shape d) (InFrame place)) names

pub erased_locals : (places : List ℕ) (ds : List Var) (names : Names)
    → with_locals_named places ds (erased_names names)
    ≡ erased_names (with_locals_named places ds names)
erased_locals places [] names = refl
erased_locals places (d ∷ ds) names = ap (with_locals_named (drop 1 places) ds) (erased_local places d names) ∙ erased_locals (drop 1 places) ds (with_local places d names)

pub erased_behind : (places : List ℕ) (s : Stmt) (names : Names)
    → named_behind places (erased s) (erased_names names)
    ≡ erased_names (named_behind places s names)
erased_behind places (stmt.Vars ds at) names = erased_locals places ds names
erased_behind places s names = refl

erased_global : (places : List ℕ) (d : Var) (names : Names)
    → with_global places d (erased_names names) ≡ erased_names (with_global places d names)
erased_global [] d names = refl
erased_global (address ∷ rest) d names = erased_with d.name (Variable (declared_shape d) (Fixed address)) names

pub erased_globals : (places : List ℕ) (ds : List Var) (names : Names)
    → with_globals places ds (erased_names names) ≡ erased_names (with_globals places ds names)
erased_globals places [] names = refl
erased_globals places (d ∷ ds) names = ap (with_globals (drop 1 places) ds) (erased_global places d names) ∙ erased_globals (drop 1 places) ds (with_global places d names)

erased_parameter : (places : List ℕ) (t : Ty) (name : Option (List ℕ)) (names : Names)
    → with_parameter places t name (erased_names names)
    ≡ erased_names (with_parameter places t name names)
erased_parameter [] t name names = refl
erased_parameter (place ∷ places) t None names = refl
erased_parameter (place ∷ places) t (Some name) names = erased_with name (Variable t (InFrame place)) names

pub erased_parameters : (places : List ℕ) (ps : List Param) (names : Names)
    → with_parameters places ps (erased_names names)
    ≡ erased_names (with_parameters places ps names)
erased_parameters places [] names = refl
erased_parameters places (p ∷ ps) names =
    ap (with_parameters (drop 1 places) ps) (erased_parameter places (parameter_shape p) p.name names)
    ∙ erased_parameters (drop 1 places) ps (with_parameter places (parameter_shape p) p.name names)
