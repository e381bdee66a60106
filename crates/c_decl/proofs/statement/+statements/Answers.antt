use Rattle.std.proofs.Common.{rules, arith, map}
use Rattle.std.proofs.lemmas.Grind.{common_steps}
use Rattle.c_tree.specs.View as view
use Rattle.c_expr.specs.private.ExpressionReading.{turns}
use Rattle.c_expr.proofs.Opens.{one_more}
use Rattle.c_decl.specs.private.StatementReading as read
use Rattle.c_decl.proofs.statement.+statements.Goals as goal

pub parse_body-returns-in_err-take : goal.parse_body-returns-in_err-take
parse_body-returns-in_err-take t c =
    let e = one_more (λ n. turns (read.body_turn read.stated c.args.cursor.now.room) n (map view.stmt_of c.loop.found.items) c.loop.cursor.tokens.now) _ c.loop.counter c.loop-test.true c.loop.invariant.read in
    let r = c.loop.invariant.room in
    first_of (search rules, grind (arith, common_steps))

pub parse_body-returns-then-is_sign : goal.parse_body-returns-then-is_sign
parse_body-returns-then-is_sign t c =
    let e = one_more (λ n. turns (read.body_turn read.stated c.args.cursor.now.room) n (map view.stmt_of c.loop.found.items) c.loop.cursor.tokens.now) _ c.loop.counter c.loop-test.true c.loop.invariant.read in
    let r = c.loop.invariant.room in
    first_of (search rules, grind (arith, common_steps))

pub parse_body-returns-in_err-one : goal.parse_body-returns-in_err-one
parse_body-returns-in_err-one t c =
    let e = one_more (λ n. turns (read.body_turn read.stated c.args.cursor.now.room) n (map view.stmt_of c.loop.found.items) c.loop.cursor.tokens.now) _ c.loop.counter c.loop-test.true c.loop.invariant.read in
    let r = c.loop.invariant.room in
    first_of (search rules, grind (arith, common_steps))

pub parse_body-loop-preserved : goal.parse_body-loop-preserved
parse_body-loop-preserved t c =
    let e = one_more (λ n. turns (read.body_turn read.stated c.args.cursor.now.room) n (map view.stmt_of c.loop.found.items) c.loop.cursor.tokens.now) _ c.loop.counter c.loop-test.true c.loop.invariant.read in
    let r = c.loop.invariant.room in
    record { room = first_of (search rules, grind (arith, common_steps)); read = first_of (search rules, grind (arith, common_steps)) }
