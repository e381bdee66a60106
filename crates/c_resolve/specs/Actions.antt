-- What a statement or a function does whose names, types and offsets are worked out.
use Rattle.std.specs.Prelude.{ℕ, ◌+◌, ◌==◌, Bool, List, [], ◌∷◌, Option, Some, None, Box, map, if◌then◌else◌}
use Rattle.std.proofs.Common.{Global}
use Rattle.c_tree.specs.declared.place.Place.{Place}
use Rattle.c_resolve.specs.declared.action.Action.{Action}
use Rattle.c_resolve.specs.declared.action.Action.TheOpen.{Action-F}
use Rattle.c_resolve.specs.declared.action.Action.TheOpen as one
use Rattle.c_resolve.specs.declared.action.Action.TheFolds.{fold-Action}
use Rattle.c_resolve.specs.declared.action.Beginning.{Beginning}
use Rattle.c_resolve.specs.declared.action.Beginning.TheVariants as beginning
use Rattle.c_resolve.specs.declared.action.Begun.{Begun}
use Rattle.c_resolve.specs.declared.action.Begun.TheVariants as begun
use Rattle.c_resolve.specs.declared.action.Passed.{Passed}
use Rattle.c_semantics.specs.declared.kind.Held.{Held}
use Rattle.c_semantics.specs.declared.local.Local.{Local}
use Rattle.c_resolve.specs.declared.node.Node.{Node}
use Rattle.c_resolve.specs.declared.routine.Parameter.{Parameter}
use Rattle.c_resolve.specs.declared.routine.Routine.{Routine}
use Rattle.c_semantics.specs.Run.{Run, pure, ◌>>=◌, ◌>>◌, count, now, change}
use Rattle.c_semantics.specs.Memory.{store_at, blank}
use Rattle.c_resolve.specs.Context.{Context}
use Rattle.c_semantics.specs.declared.flow.Flow.{Flow}
use Rattle.c_semantics.specs.declared.flow.Flow.TheVariants.{Normal, AtBreak, AtContinue, AtReturn}
use Rattle.c_semantics.specs.Exec.{next, after_turn, loop, count_where, with_locals}
use Rattle.c_resolve.specs.Nodes.{cast_value, runs}
use Rattle.c_semantics.specs.Meaning.{in_frame}

-- statements, one behind the other
abbrev pub in_order : List (Run Flow) → Run Flow
in_order [] = pure Normal
in_order (r ∷ rs) = do
  f ← r
  next f (in_order rs)

abbrev pub expr_run : Run (Unit {0}) → Run Flow
expr_run e = do
  count
  e
  pure Normal

abbrev pub vars_run : Bool → Run (Unit {0}) → Run Flow
vars_run counted passing = do
  count_where counted
  passing
  pure Normal

abbrev pub if_run : Run ℕ → Run Flow → Run Flow → Run Flow
if_run c body other = do
  count
  x ← c
  if x == 0 then other else body

-- the branch of an `if` that may be left out, where `run` says what one does
abbrev pub else_run : {A : Type 0} → (A → Run Flow) → Option A → Run Flow
else_run run None = pure Normal
else_run run (Some a) = run a

abbrev pub while_run : Run ℕ → Run Flow → Run Flow
while_run c body = do
  count
  loop c body (pure tt)

abbrev pub do_run : Run Flow → Run ℕ → Run Flow
do_run body c = do
  count
  count
  f ← body
  after_turn f (loop c body (pure tt))

abbrev pub for_run : List Local → Run (Unit {0}) → Run ℕ → Run (Unit {0}) → Run Flow → Run Flow
for_run ls first c step body = do
  count
  with_locals ls (do
    first
    loop c body step)

abbrev pub return_run : Run Flow → Run Flow
return_run gives = do
  count
  gives

abbrev pub ends_with : Flow → Run Flow
ends_with f = do
  count
  pure f

module _ (context : Context) where
  abbrev pub value_run : Node → Run ℕ
  value_run n = (runs context n).value

  abbrev pub unused_run : Node → Run (Unit {0})
  unused_run n = (runs context n).unused

  abbrev pub init_run : Local → Place → Begun → Run (Unit {0})
  init_run l at begun.Blank = do
    store ← now
    change (record store { bytes = blank (store.sp + l.offset) l.size store.bytes })
  init_run l at (begun.Set h n) = do
    v ← value_run n
    store ← now
    store_at h (store.sp + l.offset) v at
    pure tt
  init_run l at begun.Nothing = pure tt

  abbrev pub passing : List Passed → Run (Unit {0})
  passing [] = pure tt
  passing (p ∷ ps) = do
    init_run p.local p.place p.begun
    passing ps

  abbrev pub first_run : Beginning → Run (Unit {0})
  first_run beginning.Nothing = pure tt
  first_run (beginning.Vars ps) = passing ps.items
  first_run (beginning.Expr n) = unused_run n

  abbrev pub test_run : Option Node → Run ℕ
  test_run None = pure 1
  test_run (Some n) = value_run n

  abbrev pub step_run : Option Node → Run (Unit {0})
  step_run None = pure tt
  step_run (Some n) = unused_run n

  abbrev pub return_flow_run : Held → Option Node → Run Flow
  return_flow_run h None = pure (AtReturn None)
  return_flow_run h (Some n) = do
    v ← value_run n
    pure (AtReturn (Some (cast_value h v)))

  -- one level of a statement, with what each part does in its place
  abbrev pub action_step : Action-F (Run Flow) → Run Flow
  action_step one.Empty = ends_with Normal
  action_step (one.Expr n) = expr_run (unused_run n)
  action_step (one.Vars counted ps) = vars_run counted (passing ps.items)
  action_step (one.Block ls body) = with_locals ls.items (in_order body.items)
  action_step (one.If c body other) =
      if_run (value_run c) body.value (else_run (λ o. o.value) other)
  action_step (one.While c body) = while_run (value_run c) body.value
  action_step (one.Do body c) = do_run body.value (value_run c)
  action_step (one.For ls f c d body) =
      for_run ls.items (first_run f) (test_run c) (step_run d) body.value
  action_step (one.Return h value) = return_run (return_flow_run h value)
  action_step one.Break = ends_with AtBreak
  action_step one.Continue = ends_with AtContinue

  abbrev pub action_run : Action → Run Flow
  action_run = fold-Action (Run Flow) action_step

  abbrev pub boxed_run : Box Action Global → Run Flow
  boxed_run a = action_run a.value

  abbrev pub body_run : List Action → Run Flow
  body_run body = in_order (map action_run body)

  -- arguments into parameters
  abbrev pub arguments_run : List Parameter → List ℕ → Run (Unit {0})
  arguments_run (p ∷ ps) (v ∷ vs) = do
    store ← now
    store_at p.held (store.sp + p.offset) v p.place
    arguments_run ps vs
  arguments_run _ _ = pure tt

  -- a function in a frame of its own
  abbrev pub routine_run : Routine → List ℕ → Run (Option ℕ)
  routine_run r vs = in_frame r.is_main r.frame
      (with_locals r.locals.items (arguments_run r.parameters.items vs >> body_run r.body.items))

  abbrev pub block_run : List Local → List Action → Run Flow
  block_run ls body = with_locals ls (body_run body)
