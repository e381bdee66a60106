-- The names in scope, by their blocks.
use Rattle.c_tree.specs.Blocks.{Blocks}
use Rattle.c_scope.specs.BlockNames.{frame_of, frames_of}
use Rattle.c_scope.specs.declared.scope.Scope.{Scope}

abbrev pub blocks_of : {T : Type 0} → Scope T → Blocks T
blocks_of scope = record { outer = frames_of scope.outer.items; inner = frame_of scope.inner }
