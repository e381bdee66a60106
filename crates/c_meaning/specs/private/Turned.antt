-- What a turn of the evaluation leaves.
use Rattle.std.specs.Prelude.{◌≡◌, ℕ, List, ◌∷◌, Option, Result, Ok, Err, reverse}
use Rattle.c_tree.specs.Item.{Item}
use Rattle.c_semantics.specs.declared.flow.Flow.{Flow}
use Rattle.c_semantics.specs.declared.flow.Flow.TheVariants.{Normal}
use Rattle.c_resolve.specs.declared.routine.Routine.{Routine}
use Rattle.c_meaning.specs.declared.halt.Halt.{Halt}
use Rattle.c_meaning.specs.declared.evaluation.Evaluation.{Evaluation}
use Rattle.c_meaning.specs.declared.pending.Task.{Task}
use Rattle.c_meaning.specs.declared.pending.Edge.{Edge}
use Rattle.c_meaning.specs.declared.pending.Work.{Work}
use Rattle.c_meaning.specs.declared.pending.Work.TheVariants.{Edge as EdgeWork}
use Rattle.c_semantics.specs.Run.{Ended, Run, ◌>>=◌}
use Rattle.c_resolve.specs.Context.{Context}
use Rattle.c_resolve.specs.Routines.{AreRoutinesOf}
use Rattle.c_meaning.specs.private.EvaluatorState.{store_of, Halts}
use Rattle.c_meaning.specs.private.Pending.{Program, context_at, after, done, with_value}

module _ (program : Program) where
  -- what all that is still to be done comes to
  abbrev pub all_after : Evaluation → Ended (Option ℕ)
  all_after e = after program (reverse e.pending.work.items) e.pending.depth e.pending.flow
      (reverse e.pending.values.items) (store_of e.machine) e.machine.left

  -- what it comes to with one task before it, whatever ended before
  abbrev pub task_after : Task → Evaluation → Ended (Option ℕ)
  task_after t e = done (context_at program e.pending.depth) t (reverse e.pending.values.items)
      (after program (reverse e.pending.work.items) e.pending.depth)
      (store_of e.machine) e.machine.left

  -- and with one piece of work before it
  abbrev pub work_after : Work → Evaluation → Ended (Option ℕ)
  work_after w e =
      after program (w ∷ reverse e.pending.work.items) e.pending.depth e.pending.flow
      (reverse e.pending.values.items) (store_of e.machine) e.machine.left

  -- what came to an end comes to what is left, or stops as the machine does
  abbrev pub Turned : Ended (Option ℕ) → Evaluation → Result (Unit {0}) Halt → Type 0
  Turned end e (Ok done) = end ≡ all_after e
  Turned end e (Err why) = Halts end e.machine why

  -- work that is planned, as a run
  abbrev pub work_run : List Work → ℕ → List ℕ → Run (Option ℕ)
  work_run w depth vs = after program (reverse w) depth Normal vs

  -- a run that gives a value, and the work behind it
  abbrev pub value_then : (Context → Run ℕ) → List Work → ℕ → List ℕ → Run (Option ℕ)
  value_then r w depth vs =
      r (context_at program depth) >>= with_value (after program (reverse w) depth) vs

-- a task does what its definition says, whatever the program is
abbrev pub Does : Task → Evaluation → Evaluation → Result (Unit {0}) Halt → Type 0
Does task old new result =
    (program : Program) → Turned program (task_after program task old) new result

-- the same of a task that never stops
abbrev pub DoesAtOnce : Task → Evaluation → Evaluation → Type 0
DoesAtOnce task old new =
    (program : Program) → task_after program task old ≡ all_after program new

-- an edge lets pass what came to an end before it, as its definition says
abbrev pub Passes : Edge → Evaluation → Evaluation → Result (Unit {0}) Halt → Type 0
Passes edge old new result =
    (program : Program) → Turned program (work_after program (EdgeWork edge) old) new result

-- the same of an edge that never stops
abbrev pub PassesAtOnce : Edge → Evaluation → Evaluation → Type 0
PassesAtOnce edge old new =
    (program : Program) → work_after program (EdgeWork edge) old ≡ all_after program new

-- what was to come to an end comes to it in each text that has these routines
abbrev pub TurnsAmong : List Routine → List ℕ → (Program → Ended (Option ℕ)) → Evaluation
    → Result (Unit {0}) Halt → Type 0
TurnsAmong routines input end new result =
    (text : List Item) → AreRoutinesOf text routines →
    let program : Program = record { text = text; input = input } in
    Turned program (end program) new result

-- work is planned that does what a run does that gives a value
abbrev pub Plans : (Context → Run ℕ) → List Work → List Work → Type 0
Plans r old new = (program : Program) (depth : ℕ) (vs : List ℕ)
    → value_then program r old depth vs ≡ work_run program new depth vs

-- the same of a run that gives no value
abbrev pub PlansNothing : (Context → Run (Unit {0})) → List Work → List Work → Type 0
PlansNothing r old new = (program : Program) (depth : ℕ) (vs : List ℕ)
    → (r (context_at program depth) >>= λ _. after program (reverse old) depth Normal vs)
    ≡ work_run program new depth vs

-- the same of a run that ends somehow
abbrev pub PlansFlow : (Context → Run Flow) → List Work → List Work → Type 0
PlansFlow r old new = (program : Program) (depth : ℕ) (vs : List ℕ)
    → (r (context_at program depth) >>= λ f. after program (reverse old) depth f vs)
    ≡ work_run program new depth vs
