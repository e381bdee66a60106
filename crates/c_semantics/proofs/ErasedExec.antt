-- A statement without its markers does what the statement does, also where the functions that it calls have lost theirs.
use Rattle.std.proofs.Common.{◌≡◌, ℕ, List, [], ◌∷◌, ◌++◌, drop, length, Option, Some, None, refl, ap, ap₂, ◌∙◌}
use Rattle.std.specs.Prelude.{◌+◌, ◌==◌, if◌then◌else◌}
use Rattle.c_tree.specs.Ty.{Ty}
use Rattle.c_tree.specs.Expr.{Expr}
use Rattle.c_tree.specs.Init.{Init}
use Rattle.c_tree.specs.Init as initial
use Rattle.c_tree.specs.Var.{Var}
use Rattle.c_tree.specs.First.{First}
use Rattle.c_tree.specs.First as for_first
use Rattle.c_tree.specs.Stmt.{Stmt, Stmts, ElseBranch}
use Rattle.c_tree.specs.Stmt as stmt
use Rattle.c_tree.specs.Declarators.{declared_shape}
use Rattle.c_tree.specs.Arithmetic.{converted}
use Rattle.c_tree.specs.Erase.{erased, erased_else, erased_all}
use Rattle.c_layout.specs.Frames.{beginning_locals}
use Rattle.c_layout.proofs.ErasedLayout.{same_locals}
use Rattle.c_semantics.specs.declared.flow.Flow.{Flow}
use Rattle.c_semantics.specs.declared.flow.Flow.TheVariants.{Normal, AtReturn}
use Rattle.c_semantics.specs.Run.{Run, pure, ◌>>=◌, ◌>>◌, count, now}
use Rattle.c_semantics.specs.Memory.{store_at}
use Rattle.c_semantics.specs.Names.{Definition, Names, held}
use Rattle.c_semantics.specs.Eval.{Calls, eval}
use Rattle.c_semantics.specs.Exec.{next, after_turn, loop, behind, statement_locals, block_locals, beginning_own, with_locals, with_local, named_behind, named_beginning, has_init, count_where, first_place, initialised, declare, begin, test, step, return_flow, exec, exec_else, exec_all}
use Rattle.c_semantics.proofs.ErasedNames.{erased_definition, erased_names, erased_local, erased_locals, erased_behind}
use Rattle.c_semantics.proofs.ErasedEval.{same_eval, same_unused}

pub same_behind : (s : Stmt) (places : List ℕ) → behind (erased s) places ≡ behind s places
same_behind s places = ap (λ (ds : List Var). drop (length ds) places) (same_locals s)

same_own : (places : List ℕ) (s : Stmt)
    → statement_locals places (erased s) ≡ statement_locals places s
same_own places (stmt.Vars ds at) = refl
same_own places s = refl

pub same_block : (places : List ℕ) (body : Stmts)
    → block_locals places (erased_all body) ≡ block_locals places body
same_block places stmt.NoMore = refl
same_block places (stmt.More s rest) =
    ap₂ (λ a b. a ++ b) (same_own places s) (ap (λ those. block_locals those (erased_all rest)) (same_behind s places) ∙ same_block (behind s places) rest)

module _ (input : List ℕ) (calls bare : Calls) (h : (d : Definition) → bare (erased_definition d) ≡ calls d) where
  same_value : (names : Names) (e : Expr)
      → eval input bare (erased_names names) e ≡ eval input calls names e
  same_value = same_eval input calls bare h

  same_initialised : (names : Names) (place : ℕ) (d : Var) (init : Option Init)
      → initialised input bare (erased_names names) place d init
      ≡ initialised input calls names place d init
  same_initialised names place d None = refl
  same_initialised names place d (Some (initial.One e)) = λ i. same_value names e i >>= λ v. now >>= λ store. store_at (held (declared_shape d)) (store.sp + place) v d.place >> pure tt
  same_initialised names place d (Some (initial.Many es)) = refl

  same_declare : (names : Names) (places : List ℕ) (ds : List Var)
      → declare input bare (erased_names names) places ds ≡ declare input calls names places ds
  same_declare names places [] = refl
  same_declare names places (d ∷ ds) =
      let inner = with_local places d names in
      ap (λ those. initialised input bare those (first_place places) d d.init >> declare input bare those (drop 1 places) ds) (erased_local places d names)
      ∙ ap₂ (λ one rest. one >> rest) (same_initialised inner (first_place places) d d.init) (same_declare inner (drop 1 places) ds)

  same_begin : (names : Names) (places : List ℕ) (f : First)
      → begin input bare (erased_names names) places f ≡ begin input calls names places f
  same_begin names places for_first.Nothing = refl
  same_begin names places (for_first.Vars ds) = same_declare names places ds
  same_begin names places (for_first.Expr e) = same_unused input calls bare h names e

  same_test : (names : Names) (c : Option Expr)
      → test input bare (erased_names names) c ≡ test input calls names c
  same_test names None = refl
  same_test names (Some c) = same_value names c

  same_step : (names : Names) (d : Option Expr)
      → step input bare (erased_names names) d ≡ step input calls names d
  same_step names None = refl
  same_step names (Some d) = same_unused input calls bare h names d

  module _ (result : Ty) where
    same_give : (names : Names) (value : Option Expr)
        → return_flow input bare result (erased_names names) value
        ≡ return_flow input calls result names value
    same_give names None = refl
    same_give names (Some e) = λ i. same_value names e i >>= λ v. pure (AtReturn (Some (converted result v)))

    mutual
      pub same_exec : (names : Names) (places : List ℕ) (s : Stmt)
          → exec input bare result (erased_names names) places (erased s)
          ≡ exec input calls result names places s
      same_exec names places (stmt.Empty at) = refl
      same_exec names places (stmt.Expr e at) = λ i. count >> (same_unused input calls bare h names e i >> pure Normal)
      same_exec names places (stmt.Vars ds at) = λ i. count_where (has_init ds) >> (same_declare names places ds i >> pure Normal)
      same_exec names places (stmt.Block body at) = ap₂ with_locals (same_block places body) (same_exec_all names places body)
      same_exec names places (stmt.Marker marker at) = refl
      same_exec names places (stmt.If c s other at) =
          let second = ap (λ those. exec_else input bare result (erased_names names) those (erased_else other)) (same_behind s places) ∙ same_exec_else names (behind s places) other in
          λ i. count >> (same_value names c i >>= λ x. if x == 0 then second i else same_exec names places s i)
      same_exec names places (stmt.While c s at) = λ i. count >> loop (same_value names c i) (same_exec names places s i) (pure tt)
      same_exec names places (stmt.Do s c at) = λ i.
          count >> (count >> (same_exec names places s i >>= λ f. after_turn f (loop (same_value names c i) (same_exec names places s i) (pure tt))))
      same_exec names places (stmt.For f c d s at) =
          let inner = named_beginning places f names in
          let own = drop (length (beginning_locals f)) places in
          let turning = λ (first : Run (Unit {0})) (go : Run Flow). count >> with_locals (beginning_own places f) (first >> go) in
          let looped = ap (λ those. loop (test input bare those c) (exec input bare result those own (erased s)) (step input bare those d)) (erased_locals places (beginning_locals f) names) in
          ap₂ turning (same_begin names places f) (looped ∙ λ i. loop (same_test inner c i) (same_exec inner own s i) (same_step inner d i))
      same_exec names places (stmt.Return value at) = λ i. count >> same_give names value i
      same_exec names places (stmt.Break at) = refl
      same_exec names places (stmt.Continue at) = refl

      same_exec_else : (names : Names) (places : List ℕ) (other : ElseBranch)
          → exec_else input bare result (erased_names names) places (erased_else other)
          ≡ exec_else input calls result names places other
      same_exec_else names places stmt.NoElse = refl
      same_exec_else names places (stmt.Else s) = same_exec names places s

      pub same_exec_all : (names : Names) (places : List ℕ) (body : Stmts)
          → exec_all input bare result (erased_names names) places (erased_all body)
          ≡ exec_all input calls result names places body
      same_exec_all names places stmt.NoMore = refl
      same_exec_all names places (stmt.More s rest) =
          ap₂ (λ run go. run >>= λ f. next f go) (same_exec names places s)
          (ap₂ (λ inner those. exec_all input bare result inner those (erased_all rest)) (erased_behind places s names) (same_behind s places)
          ∙ same_exec_all (named_behind places s names) (behind s places) rest)
