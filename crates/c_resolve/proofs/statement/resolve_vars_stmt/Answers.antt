use Rattle.std.proofs.Common.{◌∙◌, ap, sym, drop}
use Rattle.std.proofs.lemmas.List.{length-map}
use Rattle.c_tree.specs.View.{var_of}
use Rattle.c_resolve.specs.Actions.{vars_run}
use Rattle.c_resolve.proofs.ActionViews.{declare_is}
use Rattle.c_resolve.proofs.statement.resolve_vars_stmt.Goals as goal

pub returns-clause-means : goal.returns-clause-means
returns-clause-means c = λ gives at context.
    let passes = c.in_ok-declared.ensures.means context in
    declare_is context c.has_init-counted.result c.in_ok-declared.declared.passed
    ∙ (λ i. vars_run (c.has_init-counted.ensures i) (passes i))

pub returns-clause-rest : goal.returns-clause-rest
returns-clause-rest c = c.past.ensures ∙ ap (λ n. drop n c.args.places.now) (sym (length-map c.args.vars.now var_of))
