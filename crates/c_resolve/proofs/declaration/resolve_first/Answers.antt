use Rattle.std.proofs.Common.{ap, sym, ◌∙◌}
use Rattle.c_tree.specs.declared.tree.First.{First}
use Rattle.c_tree.specs.View.{first_of}
use Rattle.c_semantics.specs.Exec.{beginning_own}
use Rattle.c_resolve.proofs.Passing.{no_locals}
use Rattle.c_resolve.proofs.declaration.resolve_first.Goals as goal

pub returns-in-Nothing-clause-own : goal.returns-in-Nothing-clause-own
returns-in-Nothing-clause-own c =
    c.new-own.ensures.items
    ∙ (sym (no_locals c.args.places.now)
    ∙ ap (λ (f : First). beginning_own c.args.places.now (first_of f)) (sym c.in-Nothing.is))

pub returns-in_ok-resolve-in-Expr-clause-own : goal.returns-in_ok-resolve-in-Expr-clause-own
returns-in_ok-resolve-in-Expr-clause-own c =
    c.new-own.ensures.items
    ∙ (sym (no_locals c.args.places.now)
    ∙ ap (λ (f : First). beginning_own c.args.places.now (first_of f)) (sym c.in-Expr.is))
