-- Where a run stops, and where it goes on.
use Rattle.std.proofs.Common.{◌≡◌, ◌∙◌, ℕ, Option, Result, Ok, Err, ap, sym, subst}
use Rattle.c_meaning.specs.declared.halt.Halt.{Halt}
use Rattle.c_meaning.specs.declared.halt.Halt.TheVariants as halt
use Rattle.c_meaning.specs.declared.machine.Machine.{Machine}
use Rattle.c_meaning.specs.private.EvaluatorState.{store_of, Halts, Ran}
use Rattle.c_semantics.specs.Run.{Run, Ended, then_run, ◌>>=◌}
use Rattle.c_meaning.specs.private.Turned.{all_after, Turned}
use Rattle.c_meaning.specs.private.Pending.{Program}
use Rattle.c_meaning.specs.declared.evaluation.Evaluation.{Evaluation}

-- what would follow a run makes no difference where it stops
pub halts_then : {A B : Type 0} (end : Ended A) (f : A → Run B) (m : Machine) (why : Halt)
    → Halts end m why → Halts (then_run end f) m why
halts_then end f m halt.StackFull h = ap (λ e. then_run e f) h
halts_then end f m halt.More h = ap (λ e. then_run e f) h
halts_then end f m (halt.Undefined act at) h = ap (λ e. then_run e f) h
halts_then end f m halt.OutOfMemory h = tt

-- a run that the machine did last, and what follows it
pub ran_then : (program : Program)
    (end : Ended (Option ℕ)) (run : Run (Unit {0})) (f : Unit {0} → Run (Option ℕ))
    (old : Machine) (new : Evaluation) (result : Result (Unit {0}) Halt)
    → end ≡ (run >>= f) (store_of old) old.left → Ran run old new.machine result → f tt (store_of new.machine) new.machine.left ≡ all_after program new → Turned program end new result
ran_then program end run f old new (Ok v) is ran rest = is ∙ ap (λ e. then_run e f) ran ∙ rest
ran_then program end run f old new (Err why) is ran rest = subst (λ e. Halts e new.machine why) (sym is) (halts_then (run (store_of old) old.left) f new.machine why ran)
