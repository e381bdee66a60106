-- The names in scope, with their types (C11 6.2.1).
pub use Rattle.c_tree.specs.Blocks.{otherwise, look_outer, look, declared, entered}
use Rattle.std.specs.Prelude.{Bool, List}
use Rattle.c_tree.specs.Blocks.{Blocks, no_blocks}
use Rattle.c_tree.specs.Blocks as blocks
use Rattle.c_tree.specs.Ty.{Ty}

-- what a name stands for; of a function, whether the text defines it
pub data Known : Type 0 where
  ObjectOf : (shape : Ty) → Known
  FunctionOf : (result : Ty) (parameters : List Ty) (defined : Bool) → Known

abbrev pub Frame : Type 0
Frame = blocks.Frame Known

abbrev pub Scope : Type 0
Scope = Blocks Known

abbrev pub empty_scope : Scope
empty_scope = no_blocks
