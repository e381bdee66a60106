use Rattle.std.proofs.Common.{◌≡◌, drop}
use Rattle.c_tree.specs.Breach.{least_of}
use Rattle.c_tree.specs.Statements.{body_breaches}
use Rattle.c_tree.specs.View.{ty_of, stmts_of}
use Rattle.c_check.specs.private.Checking.{scope_in}
use Rattle.c_check.proofs.statement.+statement.Given as goal

abbrev pub invariant-check_body-loop-s : goal.invariant-check_body-loop-s
invariant-check_body-loop-s l = record {
  outer : (scope_in l.checker).outer ≡ (scope_in l.initial.checker).outer;
  least : least_of l.checker.least
      (body_breaches (ty_of l.gives) l.in_loop (stmts_of (drop l.s-index l.body)) (scope_in l.checker))
      ≡ least_of l.initial.checker.least
      (body_breaches (ty_of l.gives) l.in_loop (stmts_of l.body) (scope_in l.initial.checker));
}
