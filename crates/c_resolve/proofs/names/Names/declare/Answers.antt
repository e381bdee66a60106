use Rattle.std.proofs.Common.{ap, ◌∙◌}
use Rattle.c_tree.specs.Blocks.{Blocks}
use Rattle.c_resolve.specs.DeclaredNames.{blocks_in, names_at}
use Rattle.c_resolve.proofs.BlockNamesLemmas.{names_declared}
use Rattle.c_resolve.proofs.names.Names.declare.Goals as goal

pub returns-clause-declared : goal.returns-clause-declared
returns-clause-declared c = λ definitions.
    ap (names_at definitions) c.in_ok-declare.ensures.declared
    ∙ names_declared definitions c.args.name.now c.args.stands_for (blocks_in c.args.self.now)

pub returns-clause-kept : goal.returns-clause-kept
returns-clause-kept c = ap (λ (blocks : Blocks _). blocks.outer) c.in_ok-declare.ensures.declared
