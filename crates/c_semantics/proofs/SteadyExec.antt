-- Statements are steady where the calls in them are.
use Rattle.std.proofs.Common.{ℕ, suc, ◌+◌, List, [], ◌∷◌, ◌++◌, take, drop, length, map, Bool, true, false, Option, Some, None}
use Rattle.std.specs.Prelude.{◌==◌}
use Rattle.c_tree.specs.Ty.{Ty}
use Rattle.c_tree.specs.Expr.{Expr}
use Rattle.c_tree.specs.Init.{Init}
use Rattle.c_tree.specs.Init as initial
use Rattle.c_tree.specs.Var.{Var}
use Rattle.c_tree.specs.First.{First}
use Rattle.c_tree.specs.First as for_first
use Rattle.c_tree.specs.Stmt.{Stmt, Stmts, ElseBranch}
use Rattle.c_tree.specs.Stmt as stmt
use Rattle.c_tree.specs.Declarators.{declared_shape}
use Rattle.c_tree.specs.Arithmetic.{converted}
use Rattle.c_layout.specs.Frames.{beginning_locals}
use Rattle.c_layout.specs.Sizes.{size}
use Rattle.c_semantics.specs.declared.flow.Flow.TheVariants.{Normal, AtBreak, AtContinue, AtReturn}
use Rattle.c_semantics.specs.declared.local.Local.{Local}
use Rattle.c_semantics.specs.Run.{Run}
use Rattle.c_semantics.specs.Memory.{blank}
use Rattle.c_semantics.specs.Names.{Names, Definition, held}
use Rattle.c_semantics.specs.Eval.{Calls}
use Rattle.c_semantics.specs.Exec.{behind, block_locals, beginning_own, object_at, all_blank, with_locals, with_local, named_behind, named_beginning, has_init, count_where, first_place, initialised, declare, begin, test, step, return_flow, exec, exec_else, exec_all}
use Rattle.c_semantics.proofs.Steady.{Steady, Alone, steady_then, steady_step, steady_pure, steady_where}
use Rattle.c_semantics.proofs.SteadyActs.{steady_store}
use Rattle.c_semantics.proofs.SteadyEval.{steady_eval, steady_unused}
use Rattle.c_semantics.proofs.SteadyTurns.{steady_after, steady_next, steady_loop}

pub steady_locals : {A : Type 0} {k below : ℕ} (ls : List Local) {r q : Run A} → Steady k below r q
    → Steady k below (with_locals ls r) (with_locals ls q)
steady_locals ls s store =
    steady_then s (λ v after. steady_pure v (record after { live = take (length store.live) after.live }))
    (record store { live = store.live ++ map (object_at store.sp) ls; bytes = all_blank store.sp ls store.bytes })

steady_count_where : {k below : ℕ} (b : Bool) → Alone k below (count_where b)
steady_count_where true = steady_step
steady_count_where false = steady_pure tt

module _ {k below : ℕ} (input : List ℕ) (calls wide : Calls) (s : (d : Definition) (vs : List ℕ) → Steady k below (calls d vs) (wide d vs)) where
  steady_initialised : (names : Names) (place : ℕ) (d : Var) (init : Option Init)
      → Steady k (suc below) (initialised input calls names place d init)
      (initialised input wide names place d init)
  steady_initialised names place d None = λ store. steady_pure tt (record store { bytes = blank (store.sp + place) (size (declared_shape d)) store.bytes })
  steady_initialised names place d (Some (initial.One e)) =
      steady_then (steady_eval input calls wide s names e) (λ v store. steady_then (steady_store (held (declared_shape d)) (store.sp + place) v d.place) (λ _. steady_pure tt) store)
  steady_initialised names place d (Some (initial.Many es)) = steady_pure tt

  pub steady_declare : (names : Names) (places : List ℕ) (ds : List Var)
      → Steady k (suc below) (declare input calls names places ds)
      (declare input wide names places ds)
  steady_declare names places [] = steady_pure tt
  steady_declare names places (d ∷ ds) =
      steady_then (steady_initialised (with_local places d names) (first_place places) d d.init) (λ _. steady_declare (with_local places d names) (drop 1 places) ds)

  pub steady_begin : (names : Names) (places : List ℕ) (f : First)
      → Steady k (suc below) (begin input calls names places f) (begin input wide names places f)
  steady_begin names places for_first.Nothing = steady_pure tt
  steady_begin names places (for_first.Vars ds) = steady_declare names places ds
  steady_begin names places (for_first.Expr e) = steady_unused input calls wide s names e

  pub steady_test : (names : Names) (c : Option Expr)
      → Steady k (suc below) (test input calls names c) (test input wide names c)
  steady_test names None = steady_pure 1
  steady_test names (Some c) = steady_eval input calls wide s names c

  pub steady_last : (names : Names) (d : Option Expr)
      → Steady k (suc below) (step input calls names d) (step input wide names d)
  steady_last names None = steady_pure tt
  steady_last names (Some d) = steady_unused input calls wide s names d

  module _ (result : Ty) where
    steady_give : (names : Names) (value : Option Expr)
        → Steady k (suc below) (return_flow input calls result names value)
        (return_flow input wide result names value)
    steady_give names None = steady_pure (AtReturn None)
    steady_give names (Some e) = steady_then (steady_eval input calls wide s names e) (λ v. steady_pure (AtReturn (Some (converted result v))))

    mutual
      pub steady_exec : (names : Names) (places : List ℕ) (t : Stmt)
          → Steady k (suc below) (exec input calls result names places t)
          (exec input wide result names places t)
      steady_exec names places (stmt.Empty at) = steady_then steady_step (λ _. steady_pure Normal)
      steady_exec names places (stmt.Expr e at) = steady_then steady_step (λ _. steady_then (steady_unused input calls wide s names e) (λ _. steady_pure Normal))
      steady_exec names places (stmt.Vars ds at) = steady_then (steady_count_where (has_init ds)) (λ _. steady_then (steady_declare names places ds) (λ _. steady_pure Normal))
      steady_exec names places (stmt.Block body at) = steady_locals (block_locals places body) (steady_exec_all names places body)
      steady_exec names places (stmt.Marker marker at) = steady_then steady_step (λ _. steady_pure Normal)
      steady_exec names places (stmt.If c t other at) =
          steady_then steady_step (λ _. steady_then (steady_eval input calls wide s names c) (λ x.
          steady_where (x == 0) (steady_else names (behind t places) other) (steady_exec names places t)))
      steady_exec names places (stmt.While c t at) =
          steady_then steady_step (λ _. steady_loop (steady_eval input calls wide s names c) (steady_exec names places t) (steady_pure tt))
      steady_exec names places (stmt.Do t c at) =
          steady_then steady_step (λ _. steady_then steady_step (λ _. steady_then (steady_exec names places t) (λ f.
          steady_after f (steady_loop (steady_eval input calls wide s names c) (steady_exec names places t) (steady_pure tt)))))
      steady_exec names places (stmt.For f c d t at) =
          let inner = named_beginning places f names in
          steady_then steady_step (λ _. steady_locals (beginning_own places f) (steady_then (steady_begin names places f) (λ _.
          steady_loop (steady_test inner c) (steady_exec inner (drop (length (beginning_locals f)) places) t) (steady_last inner d))))
      steady_exec names places (stmt.Return value at) = steady_then steady_step (λ _. steady_give names value)
      steady_exec names places (stmt.Break at) = steady_then steady_step (λ _. steady_pure AtBreak)
      steady_exec names places (stmt.Continue at) = steady_then steady_step (λ _. steady_pure AtContinue)

      steady_else : (names : Names) (places : List ℕ) (other : ElseBranch)
          → Steady k (suc below) (exec_else input calls result names places other)
          (exec_else input wide result names places other)
      steady_else names places stmt.NoElse = steady_pure Normal
      steady_else names places (stmt.Else t) = steady_exec names places t

      pub steady_exec_all : (names : Names) (places : List ℕ) (body : Stmts)
          → Steady k (suc below) (exec_all input calls result names places body)
          (exec_all input wide result names places body)
      steady_exec_all names places stmt.NoMore = steady_pure Normal
      steady_exec_all names places (stmt.More t rest) =
          steady_then (steady_exec names places t) (λ f. steady_next f (steady_exec_all (named_behind places t names) (behind t places) rest))
