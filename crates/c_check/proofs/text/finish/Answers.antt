use Rattle.std.proofs.Common.{◌≡◌, true, None, sym, ◌∙◌, refl, arith}
use Rattle.std.proofs.lemmas.Grind.{common_steps}
use Rattle.c_tree.specs.Accepted.{text_breaches, has_main}
use Rattle.c_tree.specs.Breach.{least_of, nothing_found}
use Rattle.c_tree.specs.View.{items_of}
use Rattle.c_tree.specs.declared.breach.Ranking.TheVariants.{ForChecks}
use Rattle.c_tree.proofs.Acceptance.{accepted_faultless}
use Rattle.c_check.proofs.text.finish.Goals as goal

pub of-requires : goal.of-requires
of-requires c =
    let none : (least_of (nothing_found ForChecks) (text_breaches (items_of c.args.tree))).found ≡ None = sym c.requires ∙ c.in_default.is in
    let main : has_main (items_of c.args.tree) ≡ true = grind (arith, common_steps) in
    accepted_faultless c.args.tree (rw (none, main) refl)
