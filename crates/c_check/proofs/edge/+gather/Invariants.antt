use Rattle.std.proofs.Common.{◌≡◌, ◌++◌, drop}
use Rattle.c_tree.specs.Regions.{body_edges}
use Rattle.c_tree.specs.View.{stmts_of}
use Rattle.c_check.proofs.edge.+gather.Given as goal

abbrev pub invariant-gather_body-loop-s : goal.invariant-gather_body-loop-s
invariant-gather_body-loop-s l = l.found.items ++ body_edges l.block (stmts_of (drop l.s-index l.body)) ≡ l.initial.found.items ++ body_edges l.block (stmts_of l.body)
