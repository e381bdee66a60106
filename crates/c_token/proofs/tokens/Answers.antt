use Rattle.std.proofs.Common.{refl}
use Rattle.c_token.proofs.ReadingSteps.{steps_read, finished}
use Rattle.c_token.proofs.TokenFacts.{answer_proper, answer_count, answer_end}
use Rattle.c_token.proofs.tokens.Goals as goal

pub loop-reader-preserved : goal.loop-reader-preserved
loop-reader-preserved c = steps_read c.args.text.now c.loop-reader.reader c.read_piece.new.self c.loop-reader.invariant c.in_ok-read_piece.ensures

pub returns-clause-proper : goal.returns-clause-proper
returns-clause-proper c = answer_proper c.args.text.now c.finish.result (finished c.args.text.now c.loop-reader.reader c.finish.result c.loop-reader.invariant (c.loop-reader-test.ensures.0 refl) c.finish.ensures)

pub returns-clause-count : goal.returns-clause-count
returns-clause-count c = answer_count c.args.text.now c.finish.result (finished c.args.text.now c.loop-reader.reader c.finish.result c.loop-reader.invariant (c.loop-reader-test.ensures.0 refl) c.finish.ensures)

pub returns-clause-end : goal.returns-clause-end
returns-clause-end c = answer_end c.args.text.now c.finish.result (finished c.args.text.now c.loop-reader.reader c.finish.result c.loop-reader.invariant (c.loop-reader-test.ensures.0 refl) c.finish.ensures)
