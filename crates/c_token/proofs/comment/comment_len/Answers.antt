use Rattle.std.proofs.Common.{subst, ◌≡◌, false}
use Rattle.c_token.proofs.CommentsLemmas.{block_found, block_open, line_found}
use Rattle.c_token.specs.private.Lines.{IsClosed}
use Rattle.c_token.proofs.TokenLists.{back}
use Rattle.c_token.specs.Comments.{has_close}
use Rattle.c_token.proofs.comment.comment_len.Goals as goal

pub returns-in-Some : goal.returns-in-Some
returns-in-Some c = block_found _ c.in-Some.len c.requires c.if-rest-eq42.true (subst (λ l. IsClosed l c.in-Some.len) (back c.args.rest.now 2) c.in-Some.ensures)

pub returns-in-None : goal.returns-in-None
returns-in-None c = block_open _ c.requires c.if-rest-eq42.true (subst (λ l. has_close l ≡ false) (back c.args.rest.now 2) c.in-None.ensures)

pub returns-else-rest-eq42 : goal.returns-else-rest-eq42
returns-else-rest-eq42 c = line_found _ _ c.requires c.if-rest-eq42.false c.line_len.ensures
