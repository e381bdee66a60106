use Rattle.std.proofs.Common.{◌≡◌, drop}
use Rattle.c_resolve.specs.Actions.{arguments_run}
use Rattle.c_meaning.specs.private.EvaluatorState.{store_of}
use Rattle.c_resolve.specs.Context.{Context}
use Rattle.c_meaning.proofs.machine.Machine.pass_all.Given as goal

abbrev pub invariant-loop-parameter : goal.invariant-loop-parameter
invariant-loop-parameter l = (context : Context)
    → arguments_run context (drop l.parameter-index l.parameters) l.rest (store_of l.self) l.self.left
    ≡ arguments_run context l.parameters l.arguments (store_of l.fn.self) l.fn.self.left
