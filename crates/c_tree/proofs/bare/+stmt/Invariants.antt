use Rattle.std.proofs.Common.{◌≡◌, map, take}
use Rattle.c_tree.specs.View.{stmt_of}
use Rattle.c_tree.specs.Erase.{erased}
use Rattle.c_tree.proofs.bare.+stmt.Given as goal

abbrev pub invariant-stmts-loop-s : goal.invariant-stmts-loop-s
invariant-stmts-loop-s l = map stmt_of l.bare.items ≡ map erased (map stmt_of (take l.s-index l.list))
