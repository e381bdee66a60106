use Rattle.std.proofs.Common.{◌≡◌, ◌++◌, map, drop}
use Rattle.c_tree.specs.Regions.{text_edges}
use Rattle.c_tree.specs.View.{item_of}
use Rattle.c_check.proofs.edge.edges_of.Given as goal

abbrev pub invariant-loop-item : goal.invariant-loop-item
invariant-loop-item l = l.found.items ++ text_edges (map item_of (drop l.item-index l.items)) ≡ text_edges (map item_of l.items)
