use Rattle.std.proofs.Common.{ap, ◌∙◌, arith}
use Rattle.std.proofs.lemmas.Grind.{common_steps}
use Rattle.c_tree.proofs.LeastBreach.{least-append}
use Rattle.c_tree.proofs.TreeLists.{cut_at}
use Rattle.c_tree.specs.Scope.{Scope}
use Rattle.c_tree.specs.Statements.{behind}
use Rattle.c_tree.proofs.ViewLemmas.{views}
use Rattle.c_tree.specs.View.{first_of, stmt_of, stmts_of}
use Rattle.c_types.specs.Env.{scope_of}
use Rattle.c_check.specs.private.Checking.{scope_in}
use Rattle.c_tree.proofs.BlocksLemmas.{left_is, entered_long, from_entered}
use Rattle.c_check.proofs.Scopes.{through, behind_outer, headed}
use Rattle.c_check.proofs.statement.+statement.Goals as goal

pub check_inner-leave-requires : goal.check_inner-leave-requires
check_inner-leave-requires t c =
    let opened = scope_of c.enter.new.self in
    let end = scope_in c.check_stmt.new.checker in
    entered_long (scope_in c.args.checker.now) end
    (from_entered (scope_in c.args.checker.now) opened end c.in_ok-enter.ensures.entered (through opened (behind (stmt_of c.args.s.now) opened) end c.in_ok-check_stmt.ensures.scope (behind_outer (stmt_of c.args.s.now) opened)))

pub check_inner-returns-clause-scope : goal.check_inner-returns-clause-scope
check_inner-returns-clause-scope t c =
    let opened = scope_of c.enter.new.self in
    let end = scope_in c.check_stmt.new.checker in
    left_is (scope_in c.args.checker.now) end (scope_of c.leave.new.self)
    (from_entered (scope_in c.args.checker.now) opened end c.in_ok-enter.ensures.entered (through opened (behind (stmt_of c.args.s.now) opened) end c.in_ok-check_stmt.ensures.scope (behind_outer (stmt_of c.args.s.now) opened)))
    c.leave.ensures

pub check_body-loop-s-preserved : goal.check_body-loop-s-preserved
check_body-loop-s-preserved t c =
    let here = ap stmts_of (cut_at c.args.body.now c.loop-s.s-index c.s-item.result c.loop-s-test.true c.s-item.is) in
    let out = behind_outer (stmt_of c.s-item.result) (scope_in c.loop-s.checker) in
    let o = ap (λ (x : Scope). x.outer) c.in_ok-check_stmt.ensures.scope in
    record {
      outer = o ∙ out ∙ c.loop-s.invariant.outer;
      least = grind (arith, common_steps, here, least-append);
    }

pub check_stmt-leave-requires : goal.check_stmt-leave-requires
check_stmt-leave-requires t c =
    let opened = scope_of c.enter.new.self in
    let end = scope_in c.check_inner-in-For.new.checker in
    entered_long (scope_in c.args.checker.now) end
    (from_entered (scope_in c.args.checker.now) opened end c.in_ok-enter-in-For.ensures.entered
    (headed (first_of c.in-For.first) opened (scope_in c.check_for_head.new.checker) end c.in_ok-check_for_head-in-For.ensures.scope c.in_ok-check_inner-in-For.ensures.scope))

pub check_stmt-returns-in_ok-check_inner-in-For-clause-scope :
    goal.check_stmt-returns-in_ok-check_inner-in-For-clause-scope
check_stmt-returns-in_ok-check_inner-in-For-clause-scope t c =
    let opened = scope_of c.enter.new.self in
    let end = scope_in c.check_inner-in-For.new.checker in
    let same = left_is (scope_in c.args.checker.now) end (scope_of c.leave.new.self)
    (from_entered (scope_in c.args.checker.now) opened end c.in_ok-enter-in-For.ensures.entered
    (headed (first_of c.in-For.first) opened (scope_in c.check_for_head.new.checker) end c.in_ok-check_for_head-in-For.ensures.scope c.in_ok-check_inner-in-For.ensures.scope))
    c.leave.ensures in
    grind (arith, common_steps, same, views)
