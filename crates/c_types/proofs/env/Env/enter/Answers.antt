use Rattle.std.proofs.Common.{ap, ◌∙◌}
use Rattle.c_tree.specs.Blocks.{mapped}
use Rattle.c_tree.proofs.BlocksLemmas.{mapped_entered}
use Rattle.c_scope.specs.Scoped.{blocks_of}
use Rattle.c_types.specs.Env.{known}
use Rattle.c_types.proofs.env.Env.enter.Goals as goal

pub returns-clause-entered : goal.returns-clause-entered
returns-clause-entered c =
    ap (mapped known) c.in_ok-enter.ensures.entered ∙ mapped_entered known (blocks_of c.args.self.now.names)
