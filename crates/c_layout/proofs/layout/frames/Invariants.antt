use Rattle.std.proofs.Common.{◌≡◌, ◌++◌, map, drop}
use Rattle.c_tree.specs.View.{item_of}
use Rattle.c_layout.specs.Frames.{frames}
use Rattle.c_layout.specs.Laid.{planned, first_too_large}
use Rattle.c_layout.specs.LayoutAnswers.{planned_of}
use Rattle.c_layout.proofs.layout.frames.Given as goal

abbrev pub invariant-loop-item : goal.invariant-loop-item
invariant-loop-item l = record {
  made : map planned_of l.out.items
      ++ map planned (frames (map item_of (drop l.item-index l.items)))
      ≡ map planned (frames (map item_of l.items));
  fit : first_too_large (frames (map item_of (drop l.item-index l.items)))
      ≡ first_too_large (frames (map item_of l.items));
}
