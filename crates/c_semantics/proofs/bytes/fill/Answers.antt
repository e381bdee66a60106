use Rattle.std.proofs.Common.{◌<◌, length, arith}
use Rattle.std.proofs.lemmas.Grind.{common_steps}
use Rattle.c_semantics.proofs.WrittenMemory.{with_bytes_more, with_bytes_all}
use Rattle.c_semantics.proofs.bytes.fill.Goals as goal

pub loop-offset-preserved : goal.loop-offset-preserved
loop-offset-preserved c =
    let within : c.loop-offset.offset < length c.args.bytes.now = omega arith in
    let more = with_bytes_more c.args.bytes.now c.loop-offset.offset c.args.at 0 c.args.cells.now within in
    grind (arith, common_steps)

pub returns : goal.returns
returns c =
    let all = with_bytes_all c.args.bytes.now c.loop-offset.offset c.args.at c.args.cells.now c.requires (omega arith) in
    grind arith
