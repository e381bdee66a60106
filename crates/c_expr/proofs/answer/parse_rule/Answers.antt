use Rattle.std.proofs.Common.{arith}
use Rattle.std.proofs.lemmas.Result.{err_from_is_err_and}
use Rattle.c_expr.proofs.EndedTokensLemmas.{ended_ends, from_ends}
use Rattle.c_expr.proofs.ExactExpressions.{ok_at, err_at}
use Rattle.c_expr.proofs.answer.parse_rule.Goals as goal

pub invariant_of-cursor : goal.invariant_of-cursor
invariant_of-cursor c = record {
  ended = from_ends c.args.tokens.now c.args.at (ended_ends c.args.tokens.now c.requires.ended);
  bounded = (let r = c.saturating_sub-room.ensures in omega arith);
}

pub returns : goal.returns
returns c =
    let r = c.saturating_sub-room.result in
    ok_at c.args.which c.args.level r c.saturating_sub-room.ensures c.args.tokens.now c.args.at c.requires.below c.requires.ended
    c.saturating_sub.result c.in_ok-found.found c.open_rule.new.cursor.tokens.now c.in_ok-found.ensures.0 c.saturating_sub.ensures

pub returns-in_err-found : goal.returns-in_err-found
returns-in_err-found c =
    let r = c.saturating_sub-room.result in
    let p = err_from_is_err_and c.from_residual.result c.from_residual.ensures.1 in
    rw (p.1, p.2) (err_at c.args.which c.args.level r c.saturating_sub-room.ensures c.args.tokens.now c.args.at c.requires.below c.requires.ended
    c.in_err-found.field-0.0 c.in_err-found.ensures)
