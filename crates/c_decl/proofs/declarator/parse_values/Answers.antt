use Rattle.std.proofs.Common.{rules, arith, map}
use Rattle.std.proofs.lemmas.Grind.{common_steps}
use Rattle.c_tree.specs.View as view
use Rattle.c_expr.specs.private.ExpressionReading.{turns}
use Rattle.c_expr.proofs.Opens.{one_more}
use Rattle.c_decl.specs.private.DeclarationReading as read
use Rattle.c_decl.proofs.declarator.parse_values.Goals as goal

pub returns-in_err-value : goal.returns-in_err-value
returns-in_err-value c =
    let e = one_more (λ n. turns (read.value_turn c.args.cursor.now.room) n (map view.expr_of c.loop.found.items) c.loop.cursor.tokens.now) _ c.loop.counter c.loop-test.true c.loop.invariant.read in
    let r = c.loop.invariant.room in
    first_of (search rules, grind (arith, common_steps))

pub returns-in_err-parse_value_end : goal.returns-in_err-parse_value_end
returns-in_err-parse_value_end c =
    let e = one_more (λ n. turns (read.value_turn c.args.cursor.now.room) n (map view.expr_of c.loop.found.items) c.loop.cursor.tokens.now) _ c.loop.counter c.loop-test.true c.loop.invariant.read in
    let r = c.loop.invariant.room in
    first_of (search rules, grind (arith, common_steps))

pub returns-then-branch : goal.returns-then-branch
returns-then-branch c =
    let e = one_more (λ n. turns (read.value_turn c.args.cursor.now.room) n (map view.expr_of c.loop.found.items) c.loop.cursor.tokens.now) _ c.loop.counter c.loop-test.true c.loop.invariant.read in
    let r = c.loop.invariant.room in
    first_of (search rules, grind (arith, common_steps))

pub loop-preserved : goal.loop-preserved
loop-preserved c =
    let e = one_more (λ n. turns (read.value_turn c.args.cursor.now.room) n (map view.expr_of c.loop.found.items) c.loop.cursor.tokens.now) _ c.loop.counter c.loop-test.true c.loop.invariant.read in
    let r = c.loop.invariant.room in
    record { room = first_of (search rules, grind (arith, common_steps)); read = first_of (search rules, grind (arith, common_steps)) }
