use Rattle.std.proofs.Common.{◌≡◌, List, [], ◌∷◌, ◌++◌, Option, Vec, Global, ap, sym, subst, refl, ◌∙◌, append-nil}
use Rattle.std.specs.Option.{option_map}
use Rattle.std.proofs.lemmas.Result.{on_ok_weaker}
use Rattle.c_tree.specs.declared.tree.Item.{Item as ItemTree}
use Rattle.c_tree.specs.declared.tree.Stmt.{Stmt}
use Rattle.c_tree.specs.Item.{Item}
use Rattle.c_tree.specs.View.{fun_of, item_of, stmts_of}
use Rattle.c_semantics.specs.Names.{Definition}
use Rattle.c_resolve.specs.Routines.{own_definition, definitions_of, AreNumbersOf}
use Rattle.c_resolve.proofs.Numbering.{definitions_push}
use Rattle.c_resolve.proofs.numbers.Numbers.pass.Goals as goal

-- an item that defines nothing
none_more : (ps : List Item) (p : Item) → definitions_of (p ∷ []) ≡ []
    → definitions_of ps ≡ definitions_of (ps ++ p ∷ [])
none_more ps p empty = sym (append-nil (definitions_of ps)) ∙ (ap (λ (ds : List Definition). definitions_of ps ++ ds) (sym empty) ∙ sym (definitions_push ps p))

pub returns-in-Vars : goal.returns-in-Vars
returns-in-Vars c = λ ps known.
    let empty = ap (λ (i : ItemTree). definitions_of (item_of i ∷ [])) c.in-Vars.is in
    subst (AreNumbersOf c.args.self.now) (none_more ps (item_of c.args.item.now) empty) known

pub returns-in-None : goal.returns-in-None
returns-in-None c = λ ps known.
    let f = c.in-Fun.f in
    let empty = ap (λ (i : ItemTree). definitions_of (item_of i ∷ [])) c.in-Fun.is ∙ ap (λ (b : Option (Vec Stmt Global)). own_definition (fun_of f) (option_map (λ body. stmts_of body.items) b) ++ []) c.in-None.is in
    subst (AreNumbersOf c.args.self.now) (none_more ps (item_of c.args.item.now) empty) known

pub returns-in-Some : goal.returns-in-Some
returns-in-Some c =
    let f = c.in-Fun.f in
    let d : Definition = record { function = fun_of f; body = stmts_of c.in-Some.field-0.items } in
    let one : definitions_of (item_of c.args.item.now ∷ []) ≡ d ∷ [] =
    ap (λ (i : ItemTree). definitions_of (item_of i ∷ [])) c.in-Fun.is ∙ ap (λ (b : Option (Vec Stmt Global)). own_definition (fun_of f) (option_map (λ body. stmts_of body.items) b) ++ []) c.in-Some.is in
    let new = c.add.new.self in
    on_ok_weaker c.add.result
    (λ added ps known. subst (AreNumbersOf new) (ap (λ (ds : List Definition). definitions_of ps ++ ds) (sym one) ∙ sym (definitions_push ps (item_of c.args.item.now))) (added (definitions_of ps) d refl known))
    c.add.ensures
