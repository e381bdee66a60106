use Rattle.std.proofs.Common.{rules, arith, sym, map}
use Rattle.std.proofs.lemmas.Grind.{common_steps}
use Rattle.c_tree.specs.View.{expr_of}
use Rattle.c_expr.specs.private.ExpressionReading as read
use Rattle.c_expr.proofs.Opens.{counted, one_more, arguments_open}
use Rattle.c_expr.proofs.parse.+rules.Goals as goal
use Rattle.c_expr.proofs.parse.+rules.Goals.{parse_suffixes-then-is_sign+in_ok-place+in_ok-index+in_ok-expect+in_ok-value, parse_suffixes-else-is_sign+in-Some+in_ok-place-2+in_ok-value-2}

pub parse_arguments-returns-in_err-value : goal.parse_arguments-returns-in_err-value
parse_arguments-returns-in_err-value t c =
    let o = arguments_open read.ruled _ c.args.cursor.now.room c.args.cursor.now.tokens.now (sym c.if-is_sign.ensures) in
    let e = one_more (λ n. read.turns (read.argument read.ruled c.args.cursor.now.room) n (map expr_of c.loop.found.items) c.loop.cursor.tokens.now) _ c.loop.counter c.loop-test.true c.loop.invariant.read in
    let r = c.loop.invariant.room in
    first_of (search rules, grind (arith, common_steps))

pub parse_arguments-returns-in_err-take-2 : goal.parse_arguments-returns-in_err-take-2
parse_arguments-returns-in_err-take-2 t c =
    let o = arguments_open read.ruled _ c.args.cursor.now.room c.args.cursor.now.tokens.now (sym c.if-is_sign.ensures) in
    let e = one_more (λ n. read.turns (read.argument read.ruled c.args.cursor.now.room) n (map expr_of c.loop.found.items) c.loop.cursor.tokens.now) _ c.loop.counter c.loop-test.true c.loop.invariant.read in
    let r = c.loop.invariant.room in
    first_of (search rules, grind (arith, common_steps))

pub parse_arguments-returns-in_err-expect : goal.parse_arguments-returns-in_err-expect
parse_arguments-returns-in_err-expect t c =
    let o = arguments_open read.ruled _ c.args.cursor.now.room c.args.cursor.now.tokens.now (sym c.if-is_sign.ensures) in
    let e = one_more (λ n. read.turns (read.argument read.ruled c.args.cursor.now.room) n (map expr_of c.loop.found.items) c.loop.cursor.tokens.now) _ c.loop.counter c.loop-test.true c.loop.invariant.read in
    let r = c.loop.invariant.room in
    first_of (search rules, grind (arith, common_steps))

pub parse_arguments-returns-else-is_sign-2 : goal.parse_arguments-returns-else-is_sign-2
parse_arguments-returns-else-is_sign-2 t c =
    let o = arguments_open read.ruled _ c.args.cursor.now.room c.args.cursor.now.tokens.now (sym c.if-is_sign.ensures) in
    let e = one_more (λ n. read.turns (read.argument read.ruled c.args.cursor.now.room) n (map expr_of c.loop.found.items) c.loop.cursor.tokens.now) _ c.loop.counter c.loop-test.true c.loop.invariant.read in
    let r = c.loop.invariant.room in
    first_of (search rules, grind (arith, common_steps))

pub parse_arguments-loop-preserved : goal.parse_arguments-loop-preserved
parse_arguments-loop-preserved t c =
    let o = arguments_open read.ruled _ c.args.cursor.now.room c.args.cursor.now.tokens.now (sym c.if-is_sign.ensures) in
    let e = one_more (λ n. read.turns (read.argument read.ruled c.args.cursor.now.room) n (map expr_of c.loop.found.items) c.loop.cursor.tokens.now) _ c.loop.counter c.loop-test.true c.loop.invariant.read in
    let r = c.loop.invariant.room in
    record { room = first_of (search rules, grind (arith, common_steps)); read = first_of (search rules, grind (arith, common_steps)) }

pub parse_suffixes-loop-cursor-preserved : goal.parse_suffixes-loop-cursor-preserved
parse_suffixes-loop-cursor-preserved t c = elim c.if-is_sign.branch [
  | parse_suffixes-then-is_sign+in_ok-place+in_ok-index+in_ok-expect+in_ok-value w ↦
      (let e = counted (λ n. read.suffixes_from read.ruled n (expr_of c.loop-cursor.value) c.loop-cursor.cursor.tokens.now) c.loop-cursor.cursor.room w.in_ok-place.ensures.room c.loop-cursor.invariant.read in
      let b = c.loop-cursor.invariant.bound in
      record { bound = first_of (search rules, grind (arith, common_steps)); read = first_of (search rules, grind (arith, common_steps)) })
  | parse_suffixes-else-is_sign+in-Some+in_ok-place-2+in_ok-value-2 w ↦
      (let e = counted (λ n. read.suffixes_from read.ruled n (expr_of c.loop-cursor.value) c.loop-cursor.cursor.tokens.now) c.loop-cursor.cursor.room w.in_ok-place-2.ensures.room c.loop-cursor.invariant.read in
      let b = c.loop-cursor.invariant.bound in
      record { bound = first_of (search rules, grind (arith, common_steps)); read = first_of (search rules, grind (arith, common_steps)) })
]
