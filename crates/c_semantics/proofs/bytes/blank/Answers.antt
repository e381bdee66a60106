use Rattle.std.proofs.Common.{arith}
use Rattle.std.proofs.lemmas.Grind.{common_steps}
use Rattle.c_semantics.proofs.WrittenMemory.{blank_more, blank_all}
use Rattle.c_semantics.proofs.bytes.blank.Goals as goal

pub loop-offset-preserved : goal.loop-offset-preserved
loop-offset-preserved c =
    let more = blank_more c.loop-offset.offset c.args.at c.args.cells.now in
    grind (arith, common_steps)

pub returns : goal.returns
returns c =
    let all = blank_all c.args.size c.loop-offset.offset c.args.at c.args.cells.now c.requires (omega arith) in
    grind arith
