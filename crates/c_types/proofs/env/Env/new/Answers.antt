use Rattle.std.proofs.Common.{ap}
use Rattle.c_tree.specs.Blocks.{mapped}
use Rattle.c_types.specs.Env.{known}
use Rattle.c_types.proofs.env.Env.new.Goals as goal

pub returns : goal.returns
returns c = ap (mapped known) c.new.ensures
