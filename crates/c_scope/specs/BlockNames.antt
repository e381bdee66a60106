-- What the names of a block stand for.
use Rattle.std.specs.Prelude.{List, map}
use Rattle.std.specs.Ordering.{nat_cmp}
use Rattle.std.specs.Cmp.Lexicographic.{slice_cmp}
use Rattle.std.specs.BTreeMap.{get_by}
use Rattle.c_tree.specs.Blocks.{Frame}
use Rattle.c_scope.specs.declared.block.Block.{Block}

abbrev pub frame_of : {T : Type 0} → Block T → Frame T
frame_of block = λ name. get_by (λ key. slice_cmp nat_cmp name key.items) block.names

abbrev pub frames_of : {T : Type 0} → List (Block T) → List (Frame T)
frames_of blocks = map frame_of blocks
