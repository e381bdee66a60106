use Rattle.std.proofs.Common.{ap, ◌∙◌}
use Rattle.std.specs.Prelude.{option_map}
use Rattle.c_resolve.specs.DeclaredNames.{named, blocks_in}
use Rattle.c_resolve.proofs.BlockNamesLemmas.{names_found}
use Rattle.c_resolve.proofs.names.Names.find.Goals as goal

pub returns : goal.returns
returns c = λ definitions.
    ap (option_map (named definitions)) c.find.ensures ∙ names_found definitions (blocks_in c.args.self.now) c.args.name.now
