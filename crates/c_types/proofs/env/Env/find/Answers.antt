use Rattle.std.proofs.Common.{ap, ◌∙◌}
use Rattle.std.specs.Prelude.{option_map}
use Rattle.c_tree.proofs.BlocksLemmas.{look_mapped}
use Rattle.c_scope.specs.Scoped.{blocks_of}
use Rattle.c_types.specs.Env.{known}
use Rattle.c_types.proofs.env.Env.find.Goals as goal

pub returns : goal.returns
returns c =
    ap (option_map known) c.find.ensures ∙ look_mapped known (blocks_of c.args.self.now.names) c.args.name.now
