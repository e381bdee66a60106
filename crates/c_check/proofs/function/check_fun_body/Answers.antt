use Rattle.std.proofs.Common.{map}
use Rattle.c_tree.specs.View.{param_of}
use Rattle.c_types.specs.Env.{scope_of}
use Rattle.c_check.specs.private.Checking.{scope_in}
use Rattle.c_tree.proofs.BlocksLemmas.{left_is, entered_long, from_entered}
use Rattle.c_check.proofs.Scopes.{parametered}
use Rattle.c_check.proofs.function.check_fun_body.Goals as goal

pub leave-requires : goal.leave-requires
leave-requires c =
    let opened = scope_of c.enter.new.self in
    let end = scope_in c.check_body.new.checker in
    entered_long (scope_in c.args.checker.now) end
    (from_entered (scope_in c.args.checker.now) opened end c.in_ok-enter.ensures.entered
    (parametered (map param_of c.deref.result.now) opened (scope_in c.check_params.new.checker) end c.in_ok-check_params.ensures.scope c.in_ok-check_body.ensures.outer))

pub returns-clause-scope : goal.returns-clause-scope
returns-clause-scope c =
    let opened = scope_of c.enter.new.self in
    let end = scope_in c.check_body.new.checker in
    left_is (scope_in c.args.checker.now) end (scope_of c.leave.new.self)
    (from_entered (scope_in c.args.checker.now) opened end c.in_ok-enter.ensures.entered
    (parametered (map param_of c.deref.result.now) opened (scope_in c.check_params.new.checker) end c.in_ok-check_params.ensures.scope c.in_ok-check_body.ensures.outer))
    c.leave.ensures
