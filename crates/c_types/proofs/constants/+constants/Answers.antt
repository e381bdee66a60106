use Rattle.std.proofs.Common.{◌≤◌, ap, ◌∙◌, sym, arith}
use Rattle.std.specs.Option.{option_map, option_copied}
use Rattle.std.proofs.lemmas.Grind.{common_steps}
use Rattle.c_tree.specs.Breach.{least_of}
use Rattle.c_tree.specs.Constant.{constant_shape, value_of, constant_breaches}
use Rattle.c_tree.specs.View.{expr_of}
use Rattle.c_tree.specs.declared.tree.Expr.{size-Expr}
use Rattle.c_rules.proofs.Descent.{risen, at_top}
use Rattle.c_types.specs.Env.{scope_of}
use Rattle.c_rules.specs.declared.spine.Along.TheVariants.{Constants}
use Rattle.c_types.proofs.constants.+constants.Goals as goal

pub rise-evaluate_above-known-requires : goal.rise-evaluate_above-known-requires
rise-evaluate_above-known-requires t c =
    let small : size-Expr c.descend-node.result.now ≤ size-Expr c.args.e.now = c.descend-node.ensures.small in
    let here = risen Constants c.loop-left.left (expr_of c.args.e.now) (expr_of c.descend-node.result.now) c.loop-left-test.true c.descend-node.ensures.reaches in
    (grind (arith, common_steps, small), (c.loop-left.invariant.ty ∙ ap constant_shape (sym here), c.loop-left.invariant.value ∙ ap value_of (sym here)))

pub rise-loop-left-preserved : goal.rise-loop-left-preserved
rise-loop-left-preserved t c =
    let here = risen Constants c.loop-left.left (expr_of c.args.e.now) (expr_of c.descend-node.result.now) c.loop-left-test.true c.descend-node.ensures.reaches in
    record {
      ty = c.evaluate_above-known.ensures.ty ∙ ap constant_shape c.descend-node.ensures.reaches;
      value = c.evaluate_above-known.ensures.value ∙ ap value_of c.descend-node.ensures.reaches;
      least = λ start h.
          c.evaluate_above-known.ensures.least start (c.loop-left.invariant.least start h ∙ ap (λ x. least_of start (constant_breaches (option_map scope_of (option_copied c.args.env)) c.args.live x)) (sym here))
          ∙ ap (λ x. least_of start (constant_breaches (option_map scope_of (option_copied c.args.env)) c.args.live x)) c.descend-node.ensures.reaches;
    }

pub rise-returns-clause-ty : goal.rise-returns-clause-ty
rise-returns-clause-ty t c = c.loop-left.invariant.ty ∙ ap constant_shape (at_top Constants c.loop-left.left (expr_of c.args.e.now) c.loop-left-test.false)

pub rise-returns-clause-value : goal.rise-returns-clause-value
rise-returns-clause-value t c = c.loop-left.invariant.value ∙ ap value_of (at_top Constants c.loop-left.left (expr_of c.args.e.now) c.loop-left-test.false)

pub rise-returns-clause-least : goal.rise-returns-clause-least
rise-returns-clause-least t c =
    let top = at_top Constants c.loop-left.left (expr_of c.args.e.now) c.loop-left-test.false in
    λ start h. c.loop-left.invariant.least start h ∙ ap (λ x. least_of start (constant_breaches (option_map scope_of (option_copied c.args.env)) c.args.live x)) top
