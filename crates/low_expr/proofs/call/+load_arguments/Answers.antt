use Rattle.std.proofs.Common.{ap, ◌∙◌, ◌-◌, ◌+◌, arith}
use Rattle.low_expr.specs.CodePieces.{all_do, take_slot}
use Rattle.low_expr.specs.ExprCode.{arguments_into}
use Rattle.low_expr.proofs.Emitting.{argument_first, do_append, refused_behind}
use Rattle.low_expr.proofs.call.+load_arguments.Goals as goal

pub returns-clause-too_long : goal.returns-clause-too_long
returns-clause-too_long t c =
    let n = c.args.count in
    let rd = c.args.rd in
    let slot = c.args.slot in
    let first = take_slot rd slot in
    let rest = arguments_into (n - 1) (rd + 1) (slot + 1) in
    let whole = ap all_do (argument_first n rd slot (omega (arith, c.if-count-eq0.false))) ∙ do_append first rest in
    refused_behind c.load_arguments.result (all_do first) (all_do rest) (all_do (arguments_into n rd slot)) c.args.asm.now c.load_slot.new.asm c.in_ok-load_slot.ensures.added whole c.load_arguments.ensures.too_long
