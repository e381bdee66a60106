use Rattle.std.proofs.Common.{◌≡◌, sym, List, ap, subst, ◌∙◌}
use Rattle.std.proofs.lemmas.Result.{on_ok_weaker, IfErr-weaker}
use Rattle.c_semantics.specs.Names.{Definition}
use Rattle.c_tree.specs.declared.tree.Count.{Count}
use Rattle.low_labels.specs.Emission.{emit_all, IsTooLong}
use Rattle.low_labels.specs.Operation.{width_of}
use Rattle.low_labels.specs.declared.fault.AsmFault.TheVariants.{CodeTooLong}
use Rattle.low_expr.specs.CodePieces.{all_do}
use Rattle.low_expr.specs.LabelledNames.{scope_in}
use Rattle.low_stmt.specs.MarkerCode.{take_count}
use Rattle.low_stmt.proofs.marker.load_count.Goals as goal

pub returns-in-Name-clause-added : goal.returns-in-Name-clause-added
returns-in-Name-clause-added c =
    on_ok_weaker c.load_variable.result
    (λ added definitions.
    added definitions c.in-Name.field-1
    ∙ ap (λ (n : Count). emit_all (all_do (take_count (scope_in definitions c.args.names.now) n)) c.args.asm.now) (sym c.in-Name.is))
    c.load_variable.ensures.added

pub returns-in-Name-clause-too_long : goal.returns-in-Name-clause-too_long
returns-in-Name-clause-too_long c =
    IfErr-weaker c.load_variable.result _
    (λ fault. fault ≡ CodeTooLong → (definitions : List Definition) → IsTooLong (width_of (all_do (take_count (scope_in definitions c.args.names.now) c.args.count.now))) c.args.asm.now)
    (λ fault refused said definitions.
    subst (λ (n : Count). IsTooLong (width_of (all_do (take_count (scope_in definitions c.args.names.now) n))) c.args.asm.now) (sym c.in-Name.is) (refused said definitions c.in-Name.field-1))
    c.load_variable.ensures.too_long
