use Rattle.std.proofs.Common.{◌≡◌, true, is_some, ap, arith}
use Rattle.std.proofs.lemmas.Grind.{common_steps}
use Rattle.c_tree.specs.declared.usage.Use.TheVariants.{Value}
use Rattle.c_tree.specs.Breaches.{breaches}
use Rattle.c_tree.specs.Typing.{type_at}
use Rattle.c_tree.specs.View.{expr_of}
use Rattle.c_tree.specs.declared.breach.Least.{Least}
use Rattle.c_tree.proofs.Typed.{typed}
use Rattle.c_tree.proofs.TypingBreaches.{typing_kinds}
use Rattle.c_tree.specs.Breach.{is_typing}
use Rattle.c_types.proofs.TypeFaultsLemmas.{of_each, of_none}
use Rattle.c_types.specs.Env.{scope_of}
use Rattle.c_types.proofs.types.type_of.Goals as goal

pub fault_of-requires : goal.fault_of-requires
fault_of-requires c =
    let scope = scope_of c.args.env.now in
    let e = expr_of c.args.expr.now in
    of_each is_typing c.none_found-least.result c.walk-ty.new.least (breaches scope Value e) c.in-Some.breach (ap (λ (l : Least). l.found) c.none_found-least.ensures) c.walk-ty.ensures.least (typing_kinds scope Value e) c.in-Some.is

pub unreachable-requires : goal.unreachable-requires
unreachable-requires c =
    let scope = scope_of c.args.env.now in
    let e = expr_of c.args.expr.now in
    let some : is_some (type_at scope e) ≡ true = typed scope e (of_none c.none_found-least.result c.walk-ty.new.least (breaches scope Value e) c.walk-ty.ensures.least c.in_default.is) in
    grind (arith, common_steps, some)

pub returns-in-Ok : goal.returns-in-Ok
returns-in-Ok c =
    let scope = scope_of c.args.env.now in
    let e = expr_of c.args.expr.now in
    (grind (arith, common_steps), of_none c.none_found-least.result c.walk-ty.new.least (breaches scope Value e) c.walk-ty.ensures.least c.in_default.is)
