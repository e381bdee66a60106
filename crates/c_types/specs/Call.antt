-- What a call names, and what it takes.
use Rattle.std.specs.Prelude.{true, List, [], ◌∷◌, Option, Some, map}
use Rattle.std.specs.Option.{option_map, option_copied}
use Rattle.c_tree.specs.Ty.{Ty}
use Rattle.c_tree.specs.Ty as ty
use Rattle.c_tree.specs.Scope.{Known, FunctionOf}
use Rattle.c_tree.specs.View.{ty_of}
use Rattle.c_types.specs.declared.call.Parameters.{Parameters}
use Rattle.c_types.specs.declared.call.Parameters.TheVariants.{Listed, OneInt}
use Rattle.c_types.specs.declared.call.Target.{Target}
use Rattle.c_types.specs.declared.call.Target.TheVariants.{Found, Getchar, Putchar}
use Rattle.c_types.specs.Env.{known}

abbrev pub target : Target → Option Known
target (Found name) = option_map known (option_copied name)
target Getchar = Some (FunctionOf ty.Int [] true)
target Putchar = Some (FunctionOf ty.Int (ty.Int ∷ []) true)

abbrev pub parameters : Parameters → List Ty
parameters (Listed types) = map ty_of types.now
parameters OneInt = ty.Int ∷ []
