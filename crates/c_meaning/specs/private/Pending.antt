-- What work that is still to be done comes to.
use Rattle.std.specs.Prelude.{ℕ, suc, ◌+◌, ◌==◌, not, List, [], ◌∷◌, ◌++◌, take, drop, map, reverse, Option, Some, None, if◌then◌else◌}
use Rattle.std.specs.Option.{option_copied}
use Rattle.c_tree.specs.Item.{Item}
use Rattle.c_tree.specs.Groups.{group, decides}
use Rattle.c_tree.specs.Arithmetic.{truth, unary_word}
use Rattle.c_resolve.specs.declared.action.Beginning.{Beginning}
use Rattle.c_semantics.specs.declared.flow.Flow.{Flow}
use Rattle.c_semantics.specs.declared.flow.Flow.TheVariants.{Normal, AtReturn}
use Rattle.c_meaning.specs.declared.pending.Edge.TheVariants as edge
use Rattle.c_meaning.specs.declared.pending.Loop.{Loop}
use Rattle.c_meaning.specs.declared.pending.Stage.{Stage}
use Rattle.c_meaning.specs.declared.pending.Stage.TheVariants as stage
use Rattle.c_meaning.specs.declared.pending.Task.{Task}
use Rattle.c_meaning.specs.declared.pending.Task.TheVariants as task
use Rattle.c_meaning.specs.declared.pending.Wanted.{Wanted}
use Rattle.c_meaning.specs.declared.pending.Wanted.TheVariants as want
use Rattle.c_meaning.specs.declared.pending.Work.{Work}
use Rattle.c_meaning.specs.declared.pending.Work.TheVariants as work
use Rattle.c_semantics.specs.Run.{Run, pure, ◌>>=◌, ◌>>◌, count, now, change, given_or}
use Rattle.c_semantics.specs.Memory.{value_at, store_at}
use Rattle.c_semantics.specs.Eval.{outcome, is_unsigned, binary_act, assigned, first_of}
use Rattle.c_semantics.specs.Exec.{after_turn, loop, turns, with_locals}
use Rattle.c_resolve.specs.Context.{Context}
use Rattle.c_resolve.specs.Routines.{context_of}
use Rattle.c_resolve.specs.Nodes.{Runs, constant, name_address, cast_value, all_values, target_run, runs}
use Rattle.c_meaning.specs.private.Acts.{stepped_at}
use Rattle.c_resolve.specs.Actions.{value_run, init_run, passing, first_run, test_run, step_run, action_run, body_run, else_run}
use Rattle.c_semantics.specs.Meaning.{calls_at, value_of_flow}
use Rattle.c_tree.specs.declared.undefined.Undefined.TheVariants.{NoValue}

-- what comes behind a piece of work: how that ended, and the values at hand, the topmost first
abbrev pub Rest : Type 0
Rest = Flow → List ℕ → Run (Option ℕ)

-- the values below the topmost
abbrev pub below : List ℕ → List ℕ
below [] = []
below (v ∷ vs) = vs

abbrev pub with_value : Rest → List ℕ → ℕ → Run (Option ℕ)
with_value rest vs v = rest Normal (v ∷ vs)

abbrev pub one_operand : List ℕ → (ℕ → Run ℕ) → Rest → Run (Option ℕ)
one_operand vs act rest = act (first_of vs) >>= with_value rest (below vs)

abbrev pub two_operands : List ℕ → (ℕ → ℕ → Run ℕ) → Rest → Run (Option ℕ)
two_operands vs act rest =
    act (first_of (below vs)) (first_of vs) >>= with_value rest (below (below vs))

abbrev pub wanted : Wanted → Runs → List ℕ → Rest → Run (Option ℕ)
wanted want.Value r vs rest = r.value >>= with_value rest vs
wanted want.Address r vs rest = r.address >>= with_value rest vs
wanted want.Nothing r vs rest = r.unused >> rest Normal vs

module _ (context : Context) where
  abbrev pub loop_turns : Loop → ℕ → Run Flow
  loop_turns l most = turns most (test_run context (option_copied l.test))
      (action_run context l.body.now)
      (step_run context (option_copied l.step))

  abbrev pub whole_loop : Loop → Run Flow
  whole_loop l = loop (test_run context (option_copied l.test))
      (action_run context l.body.now)
      (step_run context (option_copied l.step))

  abbrev pub begun_loop : Beginning → Loop → Run Flow
  begun_loop first l = first_run context first >> whole_loop l

  -- a loop that has tested, with the value of the test
  abbrev pub loop_turn : Loop → ℕ → ℕ → Run Flow
  loop_turn l most x =
      if x == 0 then pure Normal else (do
        count
        f ← action_run context l.body.now
        after_turn f (step_run context (option_copied l.step) >> loop_turns l most))

  abbrev pub loop_at : Stage → Loop → List ℕ → Rest → Run (Option ℕ)
  loop_at stage.Begins l vs rest = whole_loop l >>= λ f. rest f vs
  loop_at (stage.Tests most) l vs rest = loop_turns l most >>= λ f. rest f vs
  loop_at (stage.Turns most) l vs rest = loop_turn l most (first_of vs) >>= λ f. rest f (below vs)

  -- how a loop goes on that has turned
  abbrev pub loop_again : Stage → Loop → Run Flow
  loop_again stage.Begins l = whole_loop l
  loop_again (stage.Tests most) l =
      step_run context (option_copied l.step) >> loop_turns l most
  loop_again (stage.Turns most) l =
      step_run context (option_copied l.step) >> loop_turns l most

  abbrev pub done : Task → List ℕ → Rest → Run (Option ℕ)
  done (task.Eval how n) vs rest = wanted how (runs context n.now) vs rest
  done (task.Constant n) vs rest = constant n >>= with_value rest vs
  done task.Zero vs rest = rest Normal (0 ∷ vs)
  done (task.Name home) vs rest = name_address home >>= with_value rest vs
  done (task.Values ns) vs rest =
      all_values (map (runs context) ns.now)
      >>= λ xs. rest Normal (reverse xs ++ vs)
  done (task.Load h at) vs rest = one_operand vs (λ x. value_at h x at) rest
  done task.Count vs rest = count >> rest Normal vs
  done (task.Unary op c at) vs rest =
      one_operand vs (λ x. count >> outcome (unary_word op (is_unsigned c) x) at) rest
  done (task.Step s) vs rest =
      one_operand vs (λ x. count >> stepped_at s.how s.operand s.of.held s.of.place s.at x) rest
  done (task.Cast h) vs rest = one_operand vs (λ x. count >> pure (cast_value h x)) rest
  done (task.Binary a) vs rest =
      two_operands vs (λ x y. count >> binary_act a.op a.left a.right x y a.at) rest
  done (task.Logic op b) vs rest =
      one_operand vs (λ x. if decides (group op) x then pure x
      else value_run context b.now) rest
  done task.Truth vs rest = one_operand vs (λ x. count >> pure (truth (not (x == 0)))) rest
  done (task.Conditional a b) vs rest =
      one_operand vs (λ x. if x == 0 then value_run context b.now
      else value_run context a.now) rest
  done (task.Assign a) vs rest =
      two_operands vs (λ x v. count >> assigned a.how a.left a.right a.to.held a.to.place a.at x v)
      rest
  done (task.Call t n) vs rest =
      count >> (target_run context t (reverse (take n vs))
      >>= λ v. rest (AtReturn v) (drop n vs))
  done task.Ignore vs rest = rest Normal (below vs)
  done (task.Vars ps) vs rest = passing context ps.now >> rest Normal vs
  done (task.Var p) vs rest =
      init_run context p.now.local p.now.place p.now.begun >> rest Normal vs
  done (task.Init l h at) vs rest =
      (now >>= λ store. store_at h (store.sp + l.offset) (first_of vs) at) >> rest Normal (below vs)
  done (task.Execute a) vs rest = action_run context a.now >>= λ f. rest f vs
  done (task.All body) vs rest = body_run context body.now >>= λ f. rest f vs
  done (task.Block ls body) vs rest =
      with_locals ls.now (body_run context body.now) >>= λ f. rest f vs
  done (task.For ls first l) vs rest =
      with_locals ls.now (begun_loop first.now l) >>= λ f. rest f vs
  done (task.End f) vs rest = rest f vs
  done (task.If a b) vs rest =
      (if first_of vs == 0 then else_run (action_run context) (option_copied b)
      else action_run context a.now) >>= λ f. rest f (below vs)
  done (task.Loop how l) vs rest = loop_at how l vs rest
  done (task.Return h) vs rest = rest (AtReturn (Some (cast_value h (first_of vs)))) (below vs)

  -- a task is done where what was before it ended normally, and else left out
  abbrev pub where_normal : Task → Flow → List ℕ → Rest → Run (Option ℕ)
  where_normal t Normal vs rest = done t vs rest
  where_normal t f vs rest = rest f vs

-- what a call gave
abbrev pub given_by : Flow → Option ℕ
given_by (AtReturn v) = v
given_by _ = None

-- a text and its input
pub record Program : Type 0 where
  pub text : List Item
  pub input : List ℕ

-- the context of what it defines, where calls may nest so deep
abbrev pub context_at : Program → ℕ → Context
context_at program depth =
    context_of program.text program.input (calls_at program.text program.input depth)

module _ (program : Program) where
  -- the work from the next piece on, with how deep calls may nest.
  abbrev pub after : List Work → ℕ → Rest
  after [] depth f vs = pure (given_by f)
  after (work.Task t ∷ w) depth f vs =
      where_normal (context_at program depth) t f vs (after w depth)
  after (work.Edge (edge.Use at) ∷ w) depth f vs =
      given_or NoValue at (given_by f) >>= with_value (after w depth) vs
  after (work.Edge edge.Forget ∷ w) depth f vs = after w depth Normal vs
  after (work.Edge (edge.Turned how l) ∷ w) depth f vs =
      after_turn f (loop_again (context_at program depth) how l)
      >>= λ g. after w depth g vs
  after (work.Edge (edge.Close n) ∷ w) depth f vs = do
    store ← now
    change (record store { live = take n store.live })
    after w depth f vs
  after (work.Edge (edge.Leave sp main) ∷ w) depth f vs = do
    store ← now
    change (record store { sp = sp })
    after w (suc depth) (AtReturn (value_of_flow main f)) vs
