use Rattle.std.proofs.Common.{ap, ◌∙◌}
use Rattle.c_tree.specs.Blocks.{mapped}
use Rattle.c_tree.proofs.BlocksLemmas.{mapped_declared}
use Rattle.c_scope.specs.Scoped.{blocks_of}
use Rattle.c_types.specs.Env.{known}
use Rattle.c_types.proofs.env.Env.bind.Goals as goal

pub returns-clause-declared : goal.returns-clause-declared
returns-clause-declared c =
    ap (mapped known) c.in_ok-declare.ensures.declared
    ∙ mapped_declared known c.args.name.now c.args.entry (blocks_of c.args.self.now.names)
