use Rattle.std.proofs.Common.{◌≡◌, map, drop}
use Rattle.c_tree.specs.Breach.{least_of}
use Rattle.c_tree.specs.Declarators.{with_declarators, declarators_breaches}
use Rattle.c_tree.specs.View.{var_of}
use Rattle.c_check.specs.private.Checking.{scope_in}
use Rattle.c_check.proofs.declarator.check_declarators.Given as goal

abbrev pub invariant-loop-v : goal.invariant-loop-v
invariant-loop-v l = record {
  scope : with_declarators (map var_of (drop l.v-index l.vars)) (scope_in l.checker)
      ≡ with_declarators (map var_of l.vars) (scope_in l.initial.checker);
  least : least_of l.checker.least
      (declarators_breaches l.storage (scope_in l.checker) (map var_of (drop l.v-index l.vars)))
      ≡ least_of l.initial.checker.least
      (declarators_breaches l.storage (scope_in l.initial.checker) (map var_of l.vars));
}
