use Rattle.std.proofs.Common.{ap, ◌∙◌, length, take, arith}
use Rattle.std.proofs.lemmas.Grind.{common_steps}
use Rattle.low_labels.specs.Closed.{place_in}
use Rattle.low_labels.proofs.ClosedLemmas.{length_words, words_more}
use Rattle.low_labels.proofs.asm.Asm.close.Goals as goal

pub instr_of-instr-requires-clause-at : goal.instr_of-instr-requires-clause-at
instr_of-instr-requires-clause-at c =
    let labels = place_in c.args.self.places in
    let len = ap length c.loop-line.invariant ∙ length_words labels 0 (take c.loop-line.line-index c.args.self.lines) in
    grind (arith, common_steps)

pub loop-line-preserved : goal.loop-line-preserved
loop-line-preserved c =
    let labels = place_in c.args.self.places in
    let len = ap length c.loop-line.invariant ∙ length_words labels 0 (take c.loop-line.line-index c.args.self.lines) in
    grind (arith, common_steps, words_more)
