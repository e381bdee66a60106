use Rattle.std.proofs.Common.{◌≡◌, ◌&&◌, drop}
use Rattle.c_tree.specs.Breach.{least_of}
use Rattle.c_tree.specs.Declarators.{fit_sizes, constants_breaches}
use Rattle.c_tree.specs.View.{exprs_of}
use Rattle.c_types.specs.Env.{scope_of}
use Rattle.c_check.proofs.sizes.check_sizes.Given as goal

abbrev pub invariant-loop-size : goal.invariant-loop-size
invariant-loop-size l = record {
  fits : l.all_fit && fit_sizes (exprs_of (drop l.size-index l.sizes))
      ≡ fit_sizes (exprs_of l.sizes);
  least : least_of l.least
      (constants_breaches (scope_of l.env) (exprs_of (drop l.size-index l.sizes)))
      ≡ least_of l.initial.least (constants_breaches (scope_of l.env) (exprs_of l.sizes));
}
