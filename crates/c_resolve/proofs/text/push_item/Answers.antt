use Rattle.std.proofs.Common.{◌≡◌, List, [], ◌∷◌, ◌++◌, Option, Vec, Global, ap, sym, subst, ◌∙◌}
use Rattle.std.specs.Option.{option_map}
use Rattle.std.specs.Prelude.{OnOk}
use Rattle.c_tree.specs.declared.tree.Item.{Item as ItemTree}
use Rattle.c_tree.specs.declared.tree.Stmt.{Stmt}
use Rattle.c_tree.specs.View.{fun_of, item_of, stmts_of}
use Rattle.c_semantics.specs.Names.{Definition}
use Rattle.c_resolve.specs.Routines.{own_definition, definitions_of}
use Rattle.c_resolve.specs.private.Acted.{AddsRoutines}
use Rattle.c_resolve.proofs.text.push_item.Goals as goal

pub returns-in-Some-clause-means : goal.returns-in-Some-clause-means
returns-in-Some-clause-means c =
    let f = c.in-Fun.f in
    let defined : List Stmt → List Definition = λ body. record { function = fun_of f; body = stmts_of body } ∷ [] in
    let one : definitions_of (item_of c.args.item.now ∷ []) ≡ defined c.in-Some.body.items =
    ap (λ (i : ItemTree). definitions_of (item_of i ∷ [])) c.in-Fun.is ∙ ap (λ (b : Option (Vec Stmt Global)). own_definition (fun_of f) (option_map (λ body. stmts_of body.items) b) ++ []) c.in-Some.is in
    subst (λ (ds : List Definition). OnOk c.push_definition.result (AddsRoutines c.args.names.now c.args.out.now.items c.push_definition.new.out.items ds))
    (ap defined c.deref.ensures.value ∙ sym one) c.push_definition.ensures.means
