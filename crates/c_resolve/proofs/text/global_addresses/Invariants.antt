use Rattle.std.proofs.Common.{◌≡◌, take}
use Rattle.c_layout.specs.LayoutAnswers.{plan_of}
use Rattle.c_resolve.proofs.text.global_addresses.Given as goal

abbrev pub invariant-loop-item : goal.invariant-loop-item
invariant-loop-item l = l.out.items ≡ take l.item (plan_of l.layout).globals
