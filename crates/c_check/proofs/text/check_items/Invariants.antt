use Rattle.std.proofs.Common.{◌≡◌, [], map, take, drop}
use Rattle.c_tree.specs.Accepted.{parts_breaches}
use Rattle.c_tree.specs.Breach.{least_of}
use Rattle.c_tree.specs.Scope.{empty_scope}
use Rattle.c_tree.specs.View.{item_of}
use Rattle.c_check.specs.private.Checking.{scope_in}
use Rattle.c_check.specs.private.Defined.{Defines}
use Rattle.c_check.proofs.text.check_items.Given as goal

abbrev pub invariant-loop-item : goal.invariant-loop-item
invariant-loop-item l = record {
  before : Defines l.before (map item_of (take l.item-index l.items));
  least : least_of l.checker.least
      (parts_breaches (map item_of l.items) (map item_of (take l.item-index l.items))
      (scope_in l.checker) (map item_of (drop l.item-index l.items)))
      ≡ least_of l.initial.checker.least
      (parts_breaches (map item_of l.items) [] empty_scope (map item_of l.items));
}
