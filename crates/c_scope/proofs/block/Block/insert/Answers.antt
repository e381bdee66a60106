use Rattle.std.proofs.Common.{arith}
use Rattle.std.proofs.lemmas.Grind.{common_steps}
use Rattle.c_scope.proofs.ScopeFrames.{frame_bound}
use Rattle.c_scope.proofs.block.Block.insert.Goals as goal

pub returns-clause-bound : goal.returns-clause-bound
returns-clause-bound g c = frame_bound c.args.name.now c.in_ok-bytes.bytes.items (grind (arith, common_steps)) c.args.self.now.names c.insert.new.self c.args.entry c.in_ok-insert.ensures.updates
