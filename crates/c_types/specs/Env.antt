-- The scope that an environment is.
use Rattle.std.specs.Prelude.{map}
use Rattle.c_tree.specs.Blocks.{mapped}
use Rattle.c_tree.specs.Scope.{Scope, Known, ObjectOf, FunctionOf}
use Rattle.c_tree.specs.View.{ty_of}
use Rattle.c_scope.specs.Scoped.{blocks_of}
use Rattle.c_types.specs.declared.env.Env.{Env}
use Rattle.c_types.specs.declared.env.Known.{Known as Entry}
use Rattle.c_types.specs.declared.env.Known.TheVariants.{Object, Function}

abbrev pub known : Entry → Known
known (Object ty) = ObjectOf (ty_of ty)
known (Function gives parameters defined) =
    FunctionOf (ty_of gives) (map ty_of parameters.items) defined

abbrev pub scope_of : Env → Scope
scope_of env = mapped known (blocks_of env.names)
