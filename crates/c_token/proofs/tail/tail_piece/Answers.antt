use Rattle.std.proofs.Common.{arith, sym}
use Rattle.c_token.proofs.Tails.{blank_tail, tail_blank, return_tail, tail_return, comment_tail, tail_comment, tail_open}
use Rattle.c_token.proofs.tail.tail_piece.Goals as goal

pub returns-then-is_blank : goal.returns-then-is_blank
returns-then-is_blank c = (omega arith, c.requires, blank_tail _ _ c.requires (sym c.if-is_blank.ensures), tail_blank _ _ c.requires (sym c.if-is_blank.ensures))

pub returns-then-may_return : goal.returns-then-may_return
returns-then-may_return c = (omega arith, c.requires, return_tail _ _ c.requires c.if-rest-eq13.true c.if-may_return.true, tail_return _ _ c.requires c.if-rest-eq13.true)

pub returns-in-Some : goal.returns-in-Some
returns-in-Some c = (c.in-Some.ensures.0, c.in-Some.ensures.1, comment_tail _ _ c.in-Some.len c.in-Some.ensures, tail_comment _ _ c.in-Some.len (sym c.if-opens_comment.ensures) c.in-Some.ensures)

pub returns-in-None : goal.returns-in-None
returns-in-None c = tail_open _ _ (sym c.if-opens_comment.ensures) c.in-None.ensures
