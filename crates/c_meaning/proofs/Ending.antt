-- The end of the work on a program.
use Rattle.std.proofs.Common.{◌≡◌, ◌∙◌, ℕ, List, [], Option, Result, Ok, Err, ap, reverse}
use Rattle.std.specs.Prelude.{IfOk, OnOk}
use Rattle.bop_ends.specs.declared.fault.OutOfMemory.{OutOfMemory}
use Rattle.c_semantics.specs.declared.flow.Flow.{Flow}
use Rattle.c_meaning.specs.declared.halt.Halt.{Halt}
use Rattle.c_meaning.specs.declared.machine.Machine.{Machine}
use Rattle.c_meaning.specs.declared.meant.Meant.{Meant}
use Rattle.c_meaning.specs.declared.pending.Work.{Work}
use Rattle.c_meaning.specs.Answer.{meaning_of, Ends}
use Rattle.c_meaning.specs.private.EvaluatorState.{store_of}
use Rattle.c_semantics.specs.Meaning.{ended}
use Rattle.c_meaning.specs.private.Pending.{Program, after}
use Rattle.c_semantics.specs.Run.{Ended}
use Rattle.c_meaning.specs.private.Turned.{Turned}
use Rattle.c_meaning.specs.declared.evaluation.Evaluation.{Evaluation}

-- where no work is left, it ended with the last flow
pub ends_by : (program : Program) (end : Ended (Option ℕ)) (e : Evaluation)
    (done : Result (Unit {0}) Halt) → Turned program end e done
    → OnOk done (e.pending.work.items ≡ []) → Ends end e.pending.flow e.machine done
ends_by program end e (Ok v) is none = is ∙ ap (λ (l : List Work). after program (reverse l) e.pending.depth e.pending.flow (reverse e.pending.values.items) (store_of e.machine) e.machine.left) none
ends_by program end e (Err why) is none = is

-- an answer for each end is one for this
pub ok_means : (answer : Result Meant OutOfMemory) (end : Ended (Option ℕ)) (f : Flow)
    (m : Machine) (done : Result (Unit {0}) Halt)
    → IfOk answer (λ meant. (e : Ended (Option ℕ)) → Ends e f m done → meaning_of meant ≡ ended e) → Ends end f m done → IfOk answer (λ meant. meaning_of meant ≡ ended end)
ok_means (Ok meant) end f m done each ends = each end ends
ok_means (Err why) end f m done each ends = tt
