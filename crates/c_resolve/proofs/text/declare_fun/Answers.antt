use Rattle.std.proofs.Common.{◌≡◌, List, map, ap, ◌∙◌}
use Rattle.std.proofs.lemmas.Result.{on_ok_weaker}
use Rattle.c_tree.specs.Accepted.{parameter_shapes}
use Rattle.c_tree.specs.Item.{Item}
use Rattle.c_tree.specs.View.{fun_of, param_of, ty_of}
use Rattle.c_resolve.specs.DeclaredNames.{indexed_at, numbered, names_in}
use Rattle.c_semantics.specs.Meaning.{definition}
use Rattle.c_semantics.specs.Names.{Routine, with_name}
use Rattle.c_resolve.specs.Routines.{definitions_of, AreNumbersOf}
use Rattle.c_resolve.proofs.Numbering.{definition_numbered}
use Rattle.c_resolve.proofs.text.declare_fun.Goals as goal

pub returns : goal.returns
returns c =
    let f = c.args.f.now in
    let types : map ty_of c.in_ok-types.types.items ≡ parameter_shapes (fun_of f).parameters = c.in_ok-types.ensures ∙ ap (λ ps. parameter_shapes (map param_of ps)) c.deref.ensures.value in
    let number : (text : List Item) → AreNumbersOf c.args.numbers.now (definitions_of text) → numbered (definitions_of text) c.find-number.result ≡ definition text f.name = λ text known.
    ap (numbered (definitions_of text)) (c.find-number.ensures ∙ (ap (indexed_at c.args.numbers.now.numbers) c.get.ensures ∙ known.first f.name)) ∙ definition_numbered text f.name in
    on_ok_weaker c.declare.result
    (λ declared text known.
    let counted = number text known in
    declared (definitions_of text) ∙ (λ i. with_name f.name (Routine (c.in_ok-gives.ensures i) (types i) (counted i)) (names_in (definitions_of text) c.args.names.now)))
    c.declare.ensures.declared
