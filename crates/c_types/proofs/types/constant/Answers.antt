use Rattle.std.proofs.Common.{◌≡◌, true, Some, None, is_some, refl, ap, sym, ◌∙◌, arith}
use Rattle.std.proofs.lemmas.Grind.{common_steps}
use Rattle.c_tree.specs.Breach.{least_of}
use Rattle.c_tree.specs.Constant.{value_of, constant_breaches}
use Rattle.c_tree.specs.View.{expr_of}
use Rattle.c_tree.specs.declared.breach.Broken.{Broken}
use Rattle.c_tree.specs.declared.breach.Least.{Least}
use Rattle.c_tree.proofs.ConstantLemmas.{valued, constant_typed, constant_kinds, is_not_constant}
use Rattle.c_types.proofs.TypeFaultsLemmas.{of_each, of_none, not_constant}
use Rattle.c_types.proofs.types.constant.Goals as goal

pub returns-in-Some : goal.returns-in-Some
returns-in-Some c =
    let bs = constant_breaches None true (expr_of c.args.expr.now) in
    let kind = not_constant c.in-Some.breach.kind (of_each is_not_constant c.none_found-least.result c.evaluate-known.new.least bs c.in-Some.breach (ap (λ (l : Least). l.found) c.none_found-least.ensures) c.evaluate-known.ensures.least (constant_kinds true (expr_of c.args.expr.now)) c.in-Some.is) in
    ap (λ (l : Least). (least_of l bs).found) (sym c.none_found-least.ensures)
    ∙ ap (λ (l : Least). l.found) (sym c.evaluate-known.ensures.least)
    ∙ c.in-Some.is
    ∙ ap (λ (k : Broken). Some (record { kind = k; place = c.in-Some.breach.place })) kind

pub unreachable-requires : goal.unreachable-requires
unreachable-requires c =
    let e = expr_of c.args.expr.now in
    let some : is_some (value_of e) ≡ true = valued None true e refl (of_none c.none_found-least.result c.evaluate-known.new.least (constant_breaches None true e) c.evaluate-known.ensures.least c.in_default.is) in
    grind (arith, common_steps, some)

pub returns : goal.returns
returns c =
    let e = expr_of c.args.expr.now in
    let none = of_none c.none_found-least.result c.evaluate-known.new.least (constant_breaches None true e) c.evaluate-known.ensures.least c.in_default.is in
    ((λ scope. (constant_typed None scope true e none).1 ∙ ap Some (sym c.evaluate-known.ensures.ty ∙ sym c.own.ensures)), sym c.evaluate-known.ensures.value ∙ c.in-Some-value.is, none)
