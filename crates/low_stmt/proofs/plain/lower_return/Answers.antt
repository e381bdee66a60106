use Rattle.std.proofs.Common.{ℕ, List, [], ◌∷◌, ◌++◌, subst}
use Rattle.std.specs.Option.{option_map}
use Rattle.c_tree.specs.View.{expr_of, ty_of}
use Rattle.low_labels.specs.Operation.{Operation, Jump}
use Rattle.low_expr.specs.LabelledNames.{functions_in}
use Rattle.low_stmt.specs.StmtCode.{counted, return_code}
use Rattle.low_stmt.specs.private.Parts.{Adds, Part}
use Rattle.low_stmt.specs.private.StmtParts.{return_part, scopes}
use Rattle.low_stmt.proofs.PartLemmas.{added_before, added_behind}
use Rattle.low_stmt.proofs.plain.lower_return.Goals as goal

pub returns-clause-lowered : goal.returns-clause-lowered
returns-clause-lowered c = λ places targets at to.
    let functions = functions_in c.args.names.now in
    let scope = scopes c.args.names.now in
    let t = ty_of c.args.gives.now in
    let value = option_map expr_of c.args.value.now in
    let part : ℕ → ℕ → Part = λ target label. record {
      labels = (return_part functions scope t value label).labels;
      code = λ ds. return_code functions t (scope ds) label value ++ Jump 0 target ∷ [];
      ends = [];
    } in
    let jump : List Operation = Jump 0 c.args.to ∷ [] in
    let last = added_before (return_part functions scope t value) jump c.add_nothing.new.asm c.lower_returned.new.asm c.jump.new.self
    c.in_ok-lower_returned.ensures.lowered c.in_ok-jump.ensures.added tt in
    added_behind (part targets.at_return) counted c.args.asm.now c.add_nothing.new.asm c.jump.new.self c.in_ok-add_nothing.ensures.added tt
    (subst (λ target. Adds (part target) c.add_nothing.new.asm c.jump.new.self) to last)
