use Rattle.std.proofs.Common.{arith}
use Rattle.std.proofs.lemmas.Result.{err_from_is_err_and}
use Rattle.c_expr.proofs.EndedTokensLemmas.{ended_ends}
use Rattle.c_decl.proofs.ExactTexts.{text_refused, text_whole, text_left}
use Rattle.c_decl.proofs.unit.parse.Goals as goal

pub invariant_of-cursor : goal.invariant_of-cursor
invariant_of-cursor c = record { ended = ended_ends c.args.tokens.now c.requires; bounded = omega arith }

pub returns-in_err-items : goal.returns-in_err-items
returns-in_err-items c =
    let p = err_from_is_err_and c.from_residual.result c.from_residual.ensures.1 in
    rw (p.1, p.2) (text_refused c.args.tokens.now c.in_err-items.field-0.0 c.requires c.in_err-items.ensures)

pub returns-in-empty : goal.returns-in-empty
returns-in-empty c = text_whole c.args.tokens.now c.parse_items.new.cursor.tokens.now _ c.requires c.in_ok-items.ensures.0 c.in-empty.len_below

pub returns-in-len1-up : goal.returns-in-len1-up
returns-in-len1-up c = text_left c.args.tokens.now c.parse_items.new.cursor.tokens.now _ c.next-item.result c.requires c.in_ok-items.ensures.0 c.in-len1-up.len_at_least c.next-item.is
