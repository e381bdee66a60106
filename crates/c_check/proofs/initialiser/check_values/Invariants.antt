use Rattle.std.proofs.Common.{◌≡◌, drop}
use Rattle.c_tree.specs.Breach.{least_of}
use Rattle.c_tree.specs.Breaches.{breaches_in}
use Rattle.c_tree.specs.View.{exprs_of}
use Rattle.c_types.specs.Env.{scope_of}
use Rattle.c_check.proofs.initialiser.check_values.Given as goal

abbrev pub invariant-loop-e : goal.invariant-loop-e
invariant-loop-e l = least_of l.least (breaches_in (scope_of l.env) (exprs_of (drop l.e-index l.values))) ≡ least_of l.initial.least (breaches_in (scope_of l.env) (exprs_of l.values))
