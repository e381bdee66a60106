use Rattle.std.proofs.Common.{sym, subst}
use Rattle.c_tree.specs.declared.tree.Tree.{Tree}
use Rattle.c_tree.specs.View.{items_of}
use Rattle.c_tree.proofs.Acceptance.{faultless}
use Rattle.low_link.specs.Front.{Spells}
use Rattle.low_link.proofs.stages.accept.Goals as goal

pub returns : goal.returns
returns c = record {
  spells = subst (λ (t : Tree). Spells c.args.text.now (items_of t)) (sym c.in_ok-check.ensures) c.in_ok-tree.ensures;
  faultless = faultless c.in_ok-check.field-0.tree c.in_ok-check.field-0.accepted;
}
