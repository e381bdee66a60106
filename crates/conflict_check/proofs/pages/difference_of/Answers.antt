use Rattle.std.proofs.Common.{◌∙◌}
use Rattle.bop_bits.specs.BitSets.{is_in}
use Rattle.value_check.proofs.FirstDifferenceLemmas.{first_difference-whole}
use Rattle.conflict_check.proofs.pages.difference_of.Goals as goal

pub returns : goal.returns
returns c =
    c.first_differing.ensures
    ∙ first_difference-whole c.args.now.now.bytes c.args.seen.now.bytes c.args.page (is_in c.whole_page-whole.result.words)
    c.whole_page-whole.ensures
