use Rattle.std.proofs.Common.{arith, sym, ◌∙◌}
use Rattle.c_token.proofs.TokenLists.{take_one}
use Rattle.c_token.proofs.ReadingSteps.{skipped}
use Rattle.c_token.proofs.Stuck.{comment_stops}
use Rattle.c_token.specs.Pieces.IsPiece.{separator, comment}
use Rattle.c_token.proofs.reader.Reader.read_piece.Goals as goal

pub returns-then-is_separator : goal.returns-then-is_separator
returns-then-is_separator c = skipped c.args.self.now c.skip.new.self 1 c.skip.ensures (omega arith) c.requires.some (separator _ (take_one c.args.self.now.rest.now c.requires.some) (sym c.is_separator.ensures ∙ c.if-is_separator.true))

pub returns-in-Some : goal.returns-in-Some
returns-in-Some c = skipped c.args.self.now c.skip-in-Some.new.self c.in-Some.len c.skip-in-Some.ensures c.in-Some.ensures.0 c.in-Some.ensures.1 (comment c.in-Some.ensures.2)

pub returns-in-None : goal.returns-in-None
returns-in-None c = comment_stops c.args.self.now c.requires.some (sym c.is_separator.ensures ∙ c.if-is_separator.false) (sym c.opens_comment.ensures ∙ c.if-opens_comment.true) c.in-None.ensures
