use Rattle.std.proofs.Common.{◌≡◌, map, drop}
use Rattle.c_tree.specs.Accepted.{with_parameters, parameters_breaches}
use Rattle.c_tree.specs.Breach.{least_of}
use Rattle.c_tree.specs.View.{param_of}
use Rattle.c_check.specs.private.Checking.{scope_in}
use Rattle.c_check.proofs.function.check_params.Given as goal

abbrev pub invariant-loop-p : goal.invariant-loop-p
invariant-loop-p l = record {
  scope : with_parameters (map param_of (drop l.p-index l.params)) (scope_in l.checker)
      ≡ with_parameters (map param_of l.params) (scope_in l.initial.checker);
  least : least_of l.checker.least
      (parameters_breaches (scope_in l.checker) (map param_of (drop l.p-index l.params)))
      ≡ least_of l.initial.checker.least
      (parameters_breaches (scope_in l.initial.checker) (map param_of l.params));
}
