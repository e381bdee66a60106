use Rattle.std.proofs.Common.{◌≡◌, ◌++◌, drop}
use Rattle.c_tree.specs.View.{exprs_of, ty_of}
use Rattle.c_semantics.specs.Meaning.{items_bytes}
use Rattle.c_meaning.proofs.machine.starting.push_items.Given as goal

abbrev pub invariant-loop-constant : goal.invariant-loop-constant
invariant-loop-constant l = l.out.items ++ items_bytes (ty_of l.ty) (exprs_of (drop l.constant-index l.constants)) ≡ l.fn.out.items ++ items_bytes (ty_of l.ty) (exprs_of l.constants)
