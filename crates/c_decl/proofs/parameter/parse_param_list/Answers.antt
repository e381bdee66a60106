use Rattle.std.proofs.Common.{rules, arith, map}
use Rattle.std.proofs.lemmas.Grind.{common_steps}
use Rattle.c_tree.specs.View as view
use Rattle.c_expr.specs.private.ExpressionReading.{turns}
use Rattle.c_expr.proofs.Opens.{one_more}
use Rattle.c_decl.specs.private.DeclarationReading as read
use Rattle.c_decl.proofs.parameter.parse_param_list.Goals as goal

pub returns-in_err-one : goal.returns-in_err-one
returns-in_err-one c =
    let e = one_more (λ n. turns (read.parameter_turn c.args.cursor.now.room) n (map view.param_of c.loop.found.items) c.loop.cursor.tokens.now) _ c.loop.counter c.loop-test.true c.loop.invariant.read in
    let r = c.loop.invariant.room in
    first_of (search rules, grind (arith, common_steps))

pub returns-in_err-take : goal.returns-in_err-take
returns-in_err-take c =
    let e = one_more (λ n. turns (read.parameter_turn c.args.cursor.now.room) n (map view.param_of c.loop.found.items) c.loop.cursor.tokens.now) _ c.loop.counter c.loop-test.true c.loop.invariant.read in
    let r = c.loop.invariant.room in
    first_of (search rules, grind (arith, common_steps))

pub returns-in_err-expect : goal.returns-in_err-expect
returns-in_err-expect c =
    let e = one_more (λ n. turns (read.parameter_turn c.args.cursor.now.room) n (map view.param_of c.loop.found.items) c.loop.cursor.tokens.now) _ c.loop.counter c.loop-test.true c.loop.invariant.read in
    let r = c.loop.invariant.room in
    first_of (search rules, grind (arith, common_steps))

pub returns-else-is_sign : goal.returns-else-is_sign
returns-else-is_sign c =
    let e = one_more (λ n. turns (read.parameter_turn c.args.cursor.now.room) n (map view.param_of c.loop.found.items) c.loop.cursor.tokens.now) _ c.loop.counter c.loop-test.true c.loop.invariant.read in
    let r = c.loop.invariant.room in
    first_of (search rules, grind (arith, common_steps))

pub loop-preserved : goal.loop-preserved
loop-preserved c =
    let e = one_more (λ n. turns (read.parameter_turn c.args.cursor.now.room) n (map view.param_of c.loop.found.items) c.loop.cursor.tokens.now) _ c.loop.counter c.loop-test.true c.loop.invariant.read in
    let r = c.loop.invariant.room in
    record { room = first_of (search rules, grind (arith, common_steps)); read = first_of (search rules, grind (arith, common_steps)) }
