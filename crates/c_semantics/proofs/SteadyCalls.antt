-- Calls are steady, and a bound on their depth above the steps that are left is never met.
use Rattle.std.proofs.Common.{◌≡◌, ℕ, zero, suc, ◌+◌, ◌-◌, ◌≤◌, ◌<◌, List, ◌∷◌, ◌++◌, drop, length, sym, arith}
use Rattle.std.specs.Prelude.{bytes_eq, nat_lt}
use Rattle.bop_bits.specs.declared.map.TheConstants.{STACK_FROM}
use Rattle.c_tree.specs.Accepted.{result_shape}
use Rattle.c_tree.specs.Declarators.{parameter_shape}
use Rattle.c_tree.specs.Stmt.{Stmts}
use Rattle.c_tree.specs.Fun.{Param, Fun}
use Rattle.c_tree.specs.Item.{Item}
use Rattle.c_layout.specs.Frames.{Planned, frame_of}
use Rattle.c_semantics.specs.Run.{Store}
use Rattle.c_semantics.specs.Names.{Definition, held}
use Rattle.c_semantics.specs.Eval.{Calls}
use Rattle.c_semantics.specs.Exec.{block_locals}
use Rattle.c_semantics.specs.Meaning.{parameter_locals, with_parameters, pass, main_name, value_of_flow, names, body_run, whole_run, calls_at}
use Rattle.byte_lists.proofs.Prefixes.{IsPrefix-refl}
use Rattle.c_semantics.proofs.Steady.{Steady, Alone, steady_then, steady_more, steady_pure, steady_full, steady_conditional_at}
use Rattle.c_semantics.proofs.SteadyActs.{steady_store}
use Rattle.c_semantics.proofs.SteadyExec.{steady_locals, steady_exec_all}

steady_pass : {k below : ℕ} (places : List ℕ) (ps : List Param) (vs : List ℕ)
    → Alone k below (pass places ps vs)
steady_pass (place ∷ places) (p ∷ ps) (v ∷ vs) = λ store.
    steady_then (steady_store (held (parameter_shape p)) (store.sp + place) v p.place) (λ _. steady_pass places ps vs) store
steady_pass _ _ _ = steady_pure tt

module _ (text : List Item) (input : List ℕ) where
  module _ {k below : ℕ} (calls wide : Calls) (s : (d : Definition) (vs : List ℕ) → Steady k below (calls d vs) (wide d vs)) where
    steady_body : (places : List ℕ) (f : Fun) (body : Stmts) (vs : List ℕ)
        → Steady k (suc below) (body_run text input calls places f body vs)
        (body_run text input wide places f body vs)
    steady_body places f body vs =
        let own = drop (length f.parameters) places in
        steady_locals (parameter_locals places f.parameters ++ block_locals own body)
        (steady_then (steady_pass places f.parameters vs) (λ _.
        steady_exec_all input calls wide s (result_shape f) (with_parameters places f.parameters (names text input)) own body))

    steady_frame : (frame : Planned) (f : Fun) (body : Stmts) (vs : List ℕ)
        → Steady k (suc below) (whole_run text input calls frame f body vs)
        (whole_run text input wide frame f body vs)
    steady_frame frame f body vs before =
        steady_conditional_at (nat_lt before.sp (STACK_FROM + frame.size)) _ _ _ _ before (steady_full before)
        (steady_then (steady_body frame.places f body vs) (λ flow after. steady_pure (value_of_flow (bytes_eq f.name main_name) flow) (record after { sp = before.sp }))
        (record before { sp = before.sp - frame.size }))

  pub calls_alone : {k : ℕ} (depth : ℕ) (d : Definition) (vs : List ℕ)
      → Alone k depth (calls_at text input depth d vs)
  calls_alone zero d vs = steady_more (λ store. record { grows = λ left. IsPrefix-refl store.output })
  calls_alone (suc depth) d vs = steady_frame (calls_at text input depth) (calls_at text input depth) (calls_alone depth) (frame_of d.function.parameters d.body) d.function d.body vs

  pub steady_calls : {k : ℕ} (depth deeper : ℕ) → depth ≤ deeper → (d : Definition) (vs : List ℕ)
      → Steady k depth (calls_at text input depth d vs) (calls_at text input deeper d vs)
  steady_calls {k} zero deeper le d vs = steady_more (λ store. (calls_alone {k = k} deeper d vs store).behind)
  steady_calls (suc depth) zero le d vs = absurd (omega arith)
  steady_calls (suc depth) (suc deeper) le d vs =
      steady_frame (calls_at text input depth) (calls_at text input deeper) (steady_calls depth deeper (omega arith)) (frame_of d.function.parameters d.body) d.function d.body vs

  -- each call takes a step, so calls nest less deep than the steps
  pub calls_steady : (depth k : ℕ) (d : Definition) (vs : List ℕ) (store : Store) (left : ℕ)
      → left < depth → calls_at text input depth d vs store left
      ≡ calls_at text input (depth + k) d vs store left
  calls_steady depth k d vs store left lt = sym ((steady_calls {k = 0} depth (depth + k) (omega arith) d vs store).like.same left lt)
