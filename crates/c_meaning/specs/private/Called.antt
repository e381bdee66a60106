-- What comes behind a call of a function.
use Rattle.std.specs.Prelude.{ℕ, suc, ◌+◌, List, Option, reverse}
use Rattle.c_semantics.specs.declared.flow.Flow.{Flow}
use Rattle.c_semantics.specs.declared.flow.Flow.TheVariants.{AtReturn}
use Rattle.c_meaning.specs.declared.evaluation.Evaluation.{Evaluation}
use Rattle.c_resolve.specs.declared.node.Target.{Target}
use Rattle.c_resolve.specs.declared.routine.Parameter.{Parameter}
use Rattle.c_resolve.specs.declared.routine.Routine.{Routine}
use Rattle.c_resolve.specs.Actions.{arguments_run, body_run, routine_run}
use Rattle.c_semantics.specs.Exec.{with_locals}
use Rattle.c_meaning.specs.private.EvaluatorState.{store_of}
use Rattle.c_resolve.specs.Nodes.{target_run}
use Rattle.c_meaning.specs.private.Pending.{Program, context_at, after}
use Rattle.c_semantics.specs.Memory.{store_at}
use Rattle.c_semantics.specs.Run.{Run, Ended, pure, now, ◌>>=◌, ◌>>◌}

-- an argument into its parameter
abbrev pub passing_one : Parameter → ℕ → Run (Unit {0})
passing_one p v = do
  store ← now
  store_at p.held (store.sp + p.offset) v p.place
  pure tt

module _ (program : Program) where
  -- a call and the work behind it, where calls may nest so deep
  abbrev pub call_after : Run (Option ℕ) → ℕ → Evaluation → Ended (Option ℕ)
  call_after run depth e =
      (run >>= λ v. after program (reverse e.pending.work.items) depth (AtReturn v)
      (reverse e.pending.values.items)) (store_of e.machine) e.machine.left

  abbrev pub target_after : Target → List ℕ → Evaluation → Ended (Option ℕ)
  target_after t vs e =
      call_after (target_run (context_at program e.pending.depth) t vs) e.pending.depth e

  -- a function whose calls nest at most so deep again
  abbrev pub routine_after : Routine → List ℕ → ℕ → Evaluation → Ended (Option ℕ)
  routine_after r vs depth e =
      call_after (routine_run (context_at program depth) r vs) (suc depth) e

  -- parameters and body of a function, in its frame
  abbrev pub entered : Routine → List ℕ → ℕ → Run Flow
  entered r vs depth = with_locals r.locals.items
      (arguments_run (context_at program depth) r.parameters.items vs
      >> body_run (context_at program depth) r.body.items)

  abbrev pub entered_after : Routine → List ℕ → Evaluation → Ended (Option ℕ)
  entered_after r vs e =
      (entered r vs e.pending.depth >>= λ f. after program (reverse e.pending.work.items)
      e.pending.depth f (reverse e.pending.values.items)) (store_of e.machine) e.machine.left
