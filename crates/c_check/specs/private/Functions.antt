-- Functions, where it is known whether the text defines them and whether it did before.
use Rattle.std.specs.Prelude.{Bool, List, ◌++◌, length, nat_le}
use Rattle.c_tree.specs.declared.limits.TheConstants.{MOST_PARAMETERS}
use Rattle.c_tree.specs.Accepted.{result_shape, parameter_shapes, again_breaches, definition_breaches}
use Rattle.c_tree.specs.Breach.{unless}
use Rattle.c_tree.specs.Scope.{FunctionOf, Scope, declared}
use Rattle.c_tree.specs.Fun.{Fun}
use Rattle.c_tree.specs.declared.breach.Breach.{Breach}
use Rattle.c_tree.specs.declared.breach.Broken.TheVariants.{TooManyParameters}

abbrev pub declared_function : Bool → Fun → Scope → Scope
declared_function defined f scope =
    declared f.name (FunctionOf (result_shape f) (parameter_shapes f.parameters) defined) scope

abbrev pub heading_breaches : Scope → Fun → List Breach
heading_breaches scope f =
    again_breaches (scope.inner f.name) (result_shape f) (parameter_shapes f.parameters) f.place
    ++ unless (nat_le (length f.parameters) MOST_PARAMETERS) TooManyParameters f.place

abbrev pub routine_breaches : Bool → Bool → Scope → Fun → List Breach
routine_breaches defined before scope f =
    heading_breaches scope f
    ++ definition_breaches before (declared_function defined f scope) f f.body
