use Rattle.std.proofs.Common.{◌≡◌, Some, None, sym, ◌∙◌, arith}
use Rattle.std.specs.Option.{option_map}
use Rattle.std.proofs.lemmas.Grind.{common_steps}
use Rattle.c_tree.specs.Expr as expr
use Rattle.c_tree.specs.Typing.{type_at, object}
use Rattle.c_rules.specs.Seen.{seen}
use Rattle.c_semantics.specs.Names.{known, types, home_of, held_by}
use Rattle.c_resolve.specs.Nodes.{placed, name_run, name_address}
use Rattle.c_resolve.specs.private.Resolved.{scope}
use Rattle.c_semantics.specs.declared.home.Home.TheVariants.{Nowhere}
use Rattle.c_resolve.proofs.ResolvedLemmas.{typed_name, name_made}
use Rattle.c_resolve.proofs.expression.resolve_name.Goals as goal

pub returns-in-Some-Variable-clause-means : goal.returns-in-Some-Variable-clause-means
returns-in-Some-Variable-clause-means c = λ context.
    let name = c.args.name.now in
    let at = c.args.at in
    let names = scope context c.args.names.now in
    let home : c.in-Some-Variable.home ≡ home_of (names name) = grind (arith, common_steps) in
    let found : Some (seen c.of.result) ≡ object (option_map known (names name)) = grind (arith, common_steps) in
    let ty : Some (seen c.of.result) ≡ type_at (types names) (expr.Name name at) = found ∙ sym (typed_name names name at) in
    c.build_name.ensures.means context
    ∙ ((λ i. placed (name_run (home i) (held_by (ty i)) at) (name_address (home i)) at) ∙ name_made context names name at)

pub returns-in_default-clause-means : goal.returns-in_default-clause-means
returns-in_default-clause-means c = λ context.
    let name = c.args.name.now in
    let at = c.args.at in
    let names = scope context c.args.names.now in
    let home : Nowhere ≡ home_of (names name) = grind (arith, common_steps) in
    let found : None ≡ object (option_map known (names name)) = grind (arith, common_steps) in
    let ty : None ≡ type_at (types names) (expr.Name name at) = found ∙ sym (typed_name names name at) in
    c.build_name-in_default.ensures.means context
    ∙ ((λ i. placed (name_run (home i) (held_by (ty i)) at) (name_address (home i)) at) ∙ name_made context names name at)
