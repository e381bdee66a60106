use Rattle.std.proofs.Common.{◌∙◌, Err, ap, sym, subst}
use Rattle.std.proofs.lemmas.Result.{err_from_is_err_and}
use Rattle.low_labels.specs.Emission.{emit, IsTooLong}
use Rattle.low_labels.specs.Operation as op
use Rattle.low_expr.proofs.Emitting.{do_more, some_too_long}
use Rattle.low_expr.proofs.piece.add.Goals as goal

pub returns-in_err-op-clause-too_long : goal.returns-in_err-op-clause-too_long
returns-in_err-op-clause-too_long c =
    let p = err_from_is_err_and c.from_residual.result c.from_residual.ensures.1 in
    rw (p.1, p.2) (λ said.
    let long = c.in_err-op.ensures.too_long.0 (ap Err said) in
    some_too_long c.args.instrs.now c.loop-instr.instr-index c.args.asm.now c.loop-instr-test.true (subst (IsTooLong 1) c.loop-instr.invariant long))

pub loop-instr-preserved : goal.loop-instr-preserved
loop-instr-preserved c =
    c.in_ok-op.ensures.added ∙ (ap (emit (op.Do _)) c.loop-instr.invariant ∙ sym (do_more c.args.instrs.now c.loop-instr.instr-index _ c.args.asm.now c.loop-instr-test.true))
