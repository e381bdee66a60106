use Rattle.std.proofs.Common.{◌≡◌, ℕ, List, [], ◌∷◌, map, refl, ap, sym, ◌∙◌}
use Rattle.std.proofs.lemmas.List.{drop_all}
use Rattle.c_tree.specs.View.{param_of}
use Rattle.low_labels.specs.Emission.{emit_all}
use Rattle.low_stmt.specs.FunCode.{pass_code}
use Rattle.low_stmt.proofs.frame_code.pass_arguments.Goals as goal

none_left : (r : ℕ) (places : List ℕ) → pass_code r places [] ≡ []
none_left r [] = refl
none_left r (place ∷ places) = refl

pub returns-clause-added : goal.returns-clause-added
returns-clause-added c =
    let left = drop_all c.loop-p.p-index c.args.params.now c.loop-p-test.false in
    let r = c.loop-p.register in
    let rest = c.loop-p.rest.now in
    sym (ap (λ os. emit_all os c.loop-p.asm) (ap (λ ps. pass_code r rest (map param_of ps)) left ∙ none_left r rest))
    ∙ c.loop-p.invariant.added
