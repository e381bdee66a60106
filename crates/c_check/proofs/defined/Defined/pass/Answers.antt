use Rattle.std.proofs.Common.{◌≡◌, true, false, is_some, ap, ◌∙◌, ◌||◌, arith}
use Rattle.std.proofs.lemmas.Grind.{common_steps}
use Rattle.std.proofs.lemmas.Result.{on_ok_weaker}
use Rattle.std.specs.Prelude.{bytes_eq}
use Rattle.c_tree.specs.Accepted.{is_defined_by}
use Rattle.c_tree.specs.View.{item_of}
use Rattle.c_tree.specs.declared.tree.Item.{Item}
use Rattle.c_check.proofs.DefinedNames.{one_more, none_more, with_body, without_body}
use Rattle.c_check.proofs.defined.Defined.pass.Goals as goal

pub returns-in-Vars : goal.returns-in-Vars
returns-in-Vars c = λ ps f name. f name ∙ none_more ps (item_of c.args.item.now) name (ap (λ (i : Item). is_defined_by name (item_of i)) c.in-Vars.is)

pub returns-then-is_some : goal.returns-then-is_some
returns-then-is_some c =
    let there : is_some c.in-Fun.f.body ≡ true = grind (arith, common_steps) in
    on_ok_weaker c.add.result
    (λ h ps f name.
    h name
    ∙ ap (λ t. t || bytes_eq c.in-Fun.f.name name) (f name)
    ∙ one_more ps (item_of c.args.item.now) name (bytes_eq c.in-Fun.f.name name) (ap (λ (i : Item). is_defined_by name (item_of i)) c.in-Fun.is ∙ with_body c.in-Fun.f name there))
    c.add.ensures

pub returns-else-is_some : goal.returns-else-is_some
returns-else-is_some c = λ ps f name.
    let none : is_some c.in-Fun.f.body ≡ false = grind (arith, common_steps) in
    f name ∙ none_more ps (item_of c.args.item.now) name (ap (λ (i : Item). is_defined_by name (item_of i)) c.in-Fun.is ∙ without_body c.in-Fun.f name none)
