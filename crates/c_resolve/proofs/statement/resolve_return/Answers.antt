use Rattle.std.proofs.Common.{◌≡◌, Option, Some, ap, sym, ◌∙◌}
use Rattle.std.specs.Option.{option_map}
use Rattle.c_tree.specs.declared.tree.Expr.{Expr}
use Rattle.c_tree.specs.View.{expr_of, ty_of}
use Rattle.c_tree.specs.Arithmetic.{converted}
use Rattle.c_semantics.specs.declared.flow.Flow.TheVariants.{AtReturn}
use Rattle.c_semantics.specs.Run.{pure, ◌>>=◌, ◌>>◌, count}
use Rattle.c_semantics.specs.Exec.{return_flow}
use Rattle.c_resolve.specs.Nodes.{cast_value}
use Rattle.c_resolve.specs.private.Resolved.{scope}
use Rattle.c_resolve.proofs.ResolvedLemmas.{converted_held}
use Rattle.c_resolve.proofs.ActionViews.{return_is}
use Rattle.c_resolve.proofs.statement.resolve_return.Goals as goal

pub returns-in_ok-resolve-in-Some : goal.returns-in_ok-resolve-in-Some
returns-in_ok-resolve-in-Some c = λ places at context.
    let names = scope context c.args.names.now in
    let t = ty_of c.args.gives.now in
    let does = c.in_ok-resolve-in-Some.ensures.means context in
    let same : cast_value c.held_of-holds.result ≡ converted t = ap cast_value c.held_of-holds.ensures ∙ converted_held t in
    return_is context c.held_of-holds.result (Some c.in_ok-resolve-in-Some.field-0.node)
    ∙ ((λ i. count >> ((does i).value >>= λ v. pure (AtReturn (Some (same i v)))))
    ∙ ap (λ (e : Option Expr). count >> return_flow context.input context.calls t names (option_map expr_of e)) (sym c.in-Some.is))
