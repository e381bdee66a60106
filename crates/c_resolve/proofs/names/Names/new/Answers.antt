use Rattle.std.proofs.Common.{ap, ◌∙◌}
use Rattle.c_resolve.specs.DeclaredNames.{names_at}
use Rattle.c_resolve.proofs.BlockNamesLemmas.{names_none}
use Rattle.c_resolve.proofs.names.Names.new.Goals as goal

pub returns : goal.returns
returns c = λ definitions. ap (names_at definitions) c.new.ensures ∙ names_none definitions
