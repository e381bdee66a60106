use Rattle.c_scope.proofs.ScopeFrames.{frame_unbound}
use Rattle.c_scope.proofs.block.Block.remove.Goals as goal

pub returns : goal.returns
returns g c = frame_unbound c.args.name.now c.get.result.now c.get.ensures c.args.self.now.names c.remove.new.self c.remove.ensures.updates
