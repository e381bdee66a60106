use Rattle.c_semantics.proofs.Along.{below_none}
use Rattle.c_semantics.proofs.live.Live.along.Goals as goal

pub returns-in-Err : goal.returns-in-Err
returns-in-Err c = below_none c.args.y c.args.z c.args.self.now c.ranges.z c.in-Err.ensures
