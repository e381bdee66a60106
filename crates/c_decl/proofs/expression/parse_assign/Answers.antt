use Rattle.std.proofs.Common.{arith, ◌-◌, refl}
use Rattle.std.proofs.lemmas.Result.{err_from_is_err_and}
use Rattle.c_expr.specs.private.ParserRules.{Assign}
use Rattle.c_expr.proofs.Agreed.{reads_ok, reads_err, reads_none}
use Rattle.c_expr.proofs.EndedTokensLemmas.{some_ended, none_left, from_ends}
use Rattle.c_decl.proofs.expression.parse_assign.Goals as goal

pub returns-then-is_empty : goal.returns-then-is_empty
returns-then-is_empty c =
    rw c.unexpected.ensures (reads_none Assign c.args.cursor.now.room c.args.cursor.now.tokens.now (none_left c.args.cursor.now.tokens.now c.is_empty.ensures c.if-is_empty.true))

pub parse_expr-requires-clause-ended : goal.parse_expr-requires-clause-ended
parse_expr-requires-clause-ended c = some_ended c.args.cursor.now.tokens.now c.is_empty.ensures c.if-is_empty.false c.args.cursor.now.ended

pub returns-in_err-found : goal.returns-in_err-found
returns-in_err-found c =
    let p = err_from_is_err_and c.from_residual.result c.from_residual.ensures.1 in
    let ended = some_ended c.args.cursor.now.tokens.now c.is_empty.ensures c.if-is_empty.false c.args.cursor.now.ended in
    rw (p.1, p.2) (reads_err Assign (201 - c.args.cursor.now.room) c.args.cursor.now.room c.args.cursor.now.tokens.now (omega arith) ended c.in_err-found.field-0.0 c.in_err-found.ensures)

pub invariant_of-cursor : goal.invariant_of-cursor
invariant_of-cursor c = record {
  ended = from_ends c.args.cursor.now.tokens.now c.in_ok-found.end c.args.cursor.now.ended;
  bounded = c.args.cursor.now.bounded;
}

pub returns : goal.returns
returns c =
    let ended = some_ended c.args.cursor.now.tokens.now c.is_empty.ensures c.if-is_empty.false c.args.cursor.now.ended in
    (reads_ok Assign (201 - c.args.cursor.now.room) c.args.cursor.now.room c.args.cursor.now.tokens.now (omega arith) ended c.in_ok-found.found c.in_ok-found.end c.in_ok-found.ensures, refl)
