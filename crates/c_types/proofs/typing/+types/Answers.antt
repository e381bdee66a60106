use Rattle.std.proofs.Common.{◌≡◌, ◌≤◌, Bool, true, Some, refl, ℕ, ◌+◌, ◌<◌, length, get_or, drop, List, ap, ◌∙◌, sym, arith}
use Rattle.std.proofs.Math.Bool.{and_assoc}
use Rattle.std.proofs.lemmas.Grind.{common_steps}
use Rattle.c_tree.specs.declared.usage.Use.{Use}
use Rattle.c_tree.specs.declared.usage.Use.TheVariants.{Value}
use Rattle.c_tree.specs.Expr.{Expr}
use Rattle.c_tree.specs.Expr as expr
use Rattle.c_tree.specs.Breach.{least_of}
use Rattle.c_tree.specs.Breaches.{breaches}
use Rattle.c_tree.specs.Rules.{is_place}
use Rattle.c_tree.specs.Scope.{Scope}
use Rattle.c_tree.specs.Typing.{type_at}
use Rattle.c_tree.specs.View.{expr_of, exprs_of}
use Rattle.c_tree.specs.declared.tree.Expr.{Expr as ExprTree, size-Expr}
use Rattle.c_tree.proofs.LeastBreach.{least-append}
use Rattle.c_tree.proofs.TreeLists.{cut_at}
use Rattle.c_rules.proofs.Descent.{risen, at_top}
use Rattle.c_types.specs.Env.{scope_of}
use Rattle.c_tree.specs.FirstOperand.{first_operand}
use Rattle.c_rules.specs.declared.spine.Along.TheVariants.{Operands}
use Rattle.c_types.proofs.typing.+types.Goals as goal

cut : (args : List ExprTree) (i : ℕ) (item : ExprTree) → i < length args
    → item ≡ get_or args i item
    → exprs_of (drop i args) ≡ expr.More (expr_of item) (exprs_of (drop (i + 1) args))
cut args i item h e = ap exprs_of (cut_at args i item h e)

pub type_arguments-loop-arg-preserved : goal.type_arguments-loop-arg-preserved
type_arguments-loop-arg-preserved t c =
    let here = cut c.args.args.now c.loop-arg.arg-index c.arg-item.result c.loop-arg-test.true c.arg-item.is in
    record {
      counts = grind (arith, common_steps, here, and_assoc);
      fits = grind (arith, common_steps, here, and_assoc);
      typed = grind (arith, common_steps, here, and_assoc);
      least = grind (arith, common_steps, here, least-append);
    }

pub rise-type_above-ty-requires : goal.rise-type_above-ty-requires
rise-type_above-ty-requires t c =
    let small : size-Expr c.descend-node.result.now ≤ size-Expr c.args.e.now = c.descend-node.ensures.small in
    let here = risen Operands c.loop-left.left (expr_of c.args.e.now) (expr_of c.descend-node.result.now) c.loop-left-test.true c.descend-node.ensures.reaches in
    (grind (arith, common_steps, small), (c.loop-left.invariant.ty ∙ ap (type_at (scope_of c.args.env.now)) (sym here), λ h. c.loop-left.invariant.flat (ap is_place (sym here) ∙ h)))

pub rise-loop-left-preserved : goal.rise-loop-left-preserved
rise-loop-left-preserved t c =
    let here = risen Operands c.loop-left.left (expr_of c.args.e.now) (expr_of c.descend-node.result.now) c.loop-left-test.true c.descend-node.ensures.reaches in
    record {
      ty = c.type_above-ty.ensures.ty ∙ ap (type_at (scope_of c.args.env.now)) c.descend-node.ensures.reaches;
      flat = λ h. c.type_above-ty.ensures.flat (ap is_place c.descend-node.ensures.reaches ∙ h);
      least = λ start h.
          c.type_above-ty.ensures.least start (c.loop-left.invariant.least start h ∙ ap (λ x. least_of start (breaches (scope_of c.args.env.now) Value x)) (sym here))
          ∙ ap (λ x. least_of start (breaches (scope_of c.args.env.now) Value x)) c.descend-node.ensures.reaches;
    }

pub rise-returns-clause-ty : goal.rise-returns-clause-ty
rise-returns-clause-ty t c =
    let top = at_top Operands c.loop-left.left (expr_of c.args.e.now) c.loop-left-test.false in
    c.loop-left.invariant.ty ∙ ap (type_at (scope_of c.args.env.now)) top

pub rise-returns-clause-flat : goal.rise-returns-clause-flat
rise-returns-clause-flat t c =
    let top = at_top Operands c.loop-left.left (expr_of c.args.e.now) c.loop-left-test.false in
    λ h. c.loop-left.invariant.flat (ap is_place top ∙ h)

pub rise-returns-clause-least : goal.rise-returns-clause-least
rise-returns-clause-least t c =
    let top = at_top Operands c.loop-left.left (expr_of c.args.e.now) c.loop-left-test.false in
    λ start h. c.loop-left.invariant.least start h ∙ ap (λ x. least_of start (breaches (scope_of c.args.env.now) Value x)) top

-- whether its value is used is nothing to an expression with a first operand
unused : (scope : Scope) (used : Use) (e a : Expr) → first_operand e ≡ Some a
    → breaches scope Value e ≡ breaches scope used e
unused scope used (expr.Name name at) a h = cc
unused scope used (expr.Number t n at) a h = cc
unused scope used (expr.Character code at) a h = cc
unused scope used (expr.Eof at) a h = cc
unused scope used (expr.Unary op b at) a h = refl
unused scope used (expr.Step how b at) a h = refl
unused scope used (expr.Cast to b at) a h = refl
unused scope used (expr.Binary op b d at) a h = refl
unused scope used (expr.Conditional b d e at) a h = refl
unused scope used (expr.Assign how b d at) a h = refl
unused scope used (expr.Index b d at) a h = refl
unused scope used (expr.Call name all at) a h = cc

pub walk-returns-then-lowest-lt-LIMIT-clause-least : goal.walk-returns-then-lowest-lt-LIMIT-clause-least
walk-returns-then-lowest-lt-LIMIT-clause-least t c =
    let scope = scope_of c.args.env.now in
    c.rise.ensures.least c.args.least.now (c.type_leaf-end.ensures.least ∙ ap (λ x. least_of c.args.least.now (breaches scope Value x)) c.follow-lowest.ensures.reaches)
    ∙ ap (least_of c.args.least.now) (unused scope c.args.used (expr_of c.args.e.now) (expr_of c.in-Some._first.now) c.in-Some.ensures.value)

pub walk-returns-else-lowest-lt-LIMIT-clause-least : goal.walk-returns-else-lowest-lt-LIMIT-clause-least
walk-returns-else-lowest-lt-LIMIT-clause-least t c =
    let scope = scope_of c.args.env.now in
    c.rise-else-lowest-lt-LIMIT.ensures.least c.args.least.now (c.walk-end.ensures.least ∙ ap (λ x. least_of c.args.least.now (breaches scope Value x)) c.follow-lowest.ensures.reaches)
    ∙ ap (least_of c.args.least.now) (unused scope c.args.used (expr_of c.args.e.now) (expr_of c.in-Some._first.now) c.in-Some.ensures.value)
