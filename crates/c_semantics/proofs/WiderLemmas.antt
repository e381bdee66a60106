-- Wider bounds change nothing: each test and each call takes a step.
use Rattle.std.proofs.Common.{◌≡◌, ℕ, ◌+◌, List, [], Option, ap, arith}
use Rattle.c_tree.specs.Ty.{Ty}
use Rattle.c_tree.specs.Expr.{Expr}
use Rattle.c_tree.specs.Stmt.{Stmt}
use Rattle.c_tree.specs.Item.{Item}
use Rattle.c_semantics.specs.Run.{Run, pure}
use Rattle.c_semantics.specs.Names.{Names, Definition}
use Rattle.c_semantics.specs.Eval.{eval}
use Rattle.c_semantics.specs.Exec.{test, step, exec}
use Rattle.c_semantics.specs.Meaning.{definition, main_name, start, calls_at, ended, meant}
use Rattle.c_semantics.specs.Wider.{NeedsNoMoreTests, meant_deeper}
use Rattle.c_semantics.proofs.Spends.{Spends, spends_pure}
use Rattle.c_semantics.proofs.Steady.{Alone, steady_count}
use Rattle.c_semantics.proofs.SteadyEval.{steady_eval, steady_enter}
use Rattle.c_semantics.proofs.SteadyExec.{steady_exec, steady_test, steady_last}
use Rattle.c_semantics.proofs.SteadyCalls.{calls_alone, steady_calls}
use Rattle.c_semantics.proofs.TurnLemmas.{turns_stay}

alone_spends : {A : Type 0} {below : ℕ} {run : Run A} → Alone 0 below run → Spends run
alone_spends s = record { leaves = λ store. (s store).like.leaves }

pub deeper_calls : (text : List Item) (input : List ℕ) (n k : ℕ)
    → meant_deeper k text input n ≡ meant text input n
unfolding meant meant_deeper
deeper_calls text input n k =
    let calls = steady_calls text input {k = 0} n (n + k) (omega arith) in
    let main = steady_enter (calls_at text input n) (calls_at text input (n + k)) calls (definition text main_name) [] in
    ap ended ((steady_count main (start text)).like.same n (omega arith))

module _ (text : List Item) (input : List ℕ) (depth : ℕ) (result : Ty) (names : Names) (places : List ℕ) where
  own_calls : (d : Definition) (vs : List ℕ) → Alone 0 depth (calls_at text input depth d vs)
  own_calls = calls_alone text input depth

  body_spends : (s : Stmt)
      → Spends (exec input (calls_at text input depth) result names places s)
  body_spends s =
      let calls = calls_at text input depth in
      alone_spends (steady_exec input calls calls own_calls result names places s)

  pub loops_need_no_more : (c : Expr) (s : Stmt) → let calls = calls_at text input depth in
      NeedsNoMoreTests (eval input calls names c) (exec input calls result names places s) (pure tt)
  loops_need_no_more c s =
      let calls = calls_at text input depth in
      turns_stay (eval input calls names c) (exec input calls result names places s) (pure tt)
      (alone_spends (steady_eval input calls calls own_calls names c)) (body_spends s) (spends_pure tt)

  pub for_loops_need_no_more : (c d : Option Expr) (s : Stmt) → let calls =
      calls_at text input depth in
      NeedsNoMoreTests (test input calls names c) (exec input calls result names places s) (step input calls names d)
  for_loops_need_no_more c d s =
      let calls = calls_at text input depth in
      turns_stay (test input calls names c) (exec input calls result names places s) (step input calls names d)
      (alone_spends (steady_test input calls calls own_calls names c)) (body_spends s)
      (alone_spends (steady_last input calls calls own_calls names d))
