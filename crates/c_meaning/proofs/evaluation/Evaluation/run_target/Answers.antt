use Rattle.std.proofs.Common.{sym, subst}
use Rattle.c_resolve.specs.declared.node.Target.{Target}
use Rattle.c_meaning.specs.private.Called.{target_after}
use Rattle.c_meaning.specs.private.Turned.{Turned}
use Rattle.c_meaning.specs.private.Pending.{Program}
use Rattle.c_meaning.proofs.evaluation.Evaluation.run_target.Goals as goal

pub returns-in-Function : goal.returns-in-Function
returns-in-Function c = λ text are.
    let input = c.args.input.now in
    let program : Program = record { text = text; input = input } in
    subst (λ (t : Target). Turned program (target_after program t c.args.arguments.now c.args.self.now) c.call_routine.new.self c.call_routine.result) (sym c.in-Function.is) (c.call_routine.ensures input text are)
