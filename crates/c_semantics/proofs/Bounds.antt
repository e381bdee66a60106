-- The parts of a text never leave more steps than they were given.
use Rattle.std.proofs.Common.{ℕ, List, Option}
use Rattle.c_tree.specs.Ty.{Ty}
use Rattle.c_tree.specs.Expr.{Expr, Exprs}
use Rattle.c_tree.specs.Var.{Var}
use Rattle.c_tree.specs.First.{First}
use Rattle.c_tree.specs.Stmt.{Stmt, Stmts}
use Rattle.c_tree.specs.Item.{Item}
use Rattle.c_semantics.specs.Run.{Run}
use Rattle.c_semantics.specs.Names.{Names, Definition}
use Rattle.c_semantics.specs.Eval.{Calls, eval, address, arguments, unused}
use Rattle.c_semantics.specs.Exec.{declare, begin, test, step, exec, exec_all}
use Rattle.c_semantics.specs.Meaning.{calls_at}
use Rattle.c_semantics.proofs.Spends.{Spends}
use Rattle.c_semantics.proofs.Steady.{Alone}
use Rattle.c_semantics.proofs.SteadyEval.{steady_eval, steady_eval_address, steady_arguments, steady_unused}
use Rattle.c_semantics.proofs.SteadyExec.{steady_declare, steady_begin, steady_test, steady_last, steady_exec, steady_exec_all}
use Rattle.c_semantics.proofs.SteadyCalls.{calls_alone}

pub spends_alone : {A : Type 0} {below : ℕ} (r : Run A) → Alone 0 below r → Spends r
spends_alone r h = record { leaves = λ store. (h store).like.leaves }

module _ (text : List Item) (input : List ℕ) (depth : ℕ) where
  abbrev calls : Calls
  calls = calls_at text input depth

  alone : (d : Definition) (vs : List ℕ) → Alone 0 depth (calls d vs)
  alone = calls_alone text input depth

  pub calls_spend : (d : Definition) (vs : List ℕ) → Spends (calls_at text input depth d vs)
  calls_spend d vs = spends_alone (calls d vs) (alone d vs)

  module _ (names : Names) where
    pub eval_spends : (e : Expr) → Spends (eval input (calls_at text input depth) names e)
    eval_spends e = spends_alone (eval input calls names e) (steady_eval input calls calls alone names e)

    pub address_spends : (e : Expr) → Spends (address input (calls_at text input depth) names e)
    address_spends e = spends_alone (address input calls names e) (steady_eval_address input calls calls alone names e)

    pub arguments_spend : (all : Exprs)
        → Spends (arguments input (calls_at text input depth) names all)
    arguments_spend all = spends_alone (arguments input calls names all) (steady_arguments input calls calls alone names all)

    pub unused_spends : (e : Expr) → Spends (unused input (calls_at text input depth) names e)
    unused_spends e = spends_alone (unused input calls names e) (steady_unused input calls calls alone names e)

    pub declare_spends : (places : List ℕ) (ds : List Var)
        → Spends (declare input (calls_at text input depth) names places ds)
    declare_spends places ds = spends_alone (declare input calls names places ds) (steady_declare input calls calls alone names places ds)

    pub begin_spends : (places : List ℕ) (f : First)
        → Spends (begin input (calls_at text input depth) names places f)
    begin_spends places f = spends_alone (begin input calls names places f) (steady_begin input calls calls alone names places f)

    pub test_spends : (c : Option Expr) → Spends (test input (calls_at text input depth) names c)
    test_spends c = spends_alone (test input calls names c) (steady_test input calls calls alone names c)

    pub step_spends : (d : Option Expr) → Spends (step input (calls_at text input depth) names d)
    step_spends d = spends_alone (step input calls names d) (steady_last input calls calls alone names d)

    pub exec_spends : (result : Ty) (places : List ℕ) (s : Stmt)
        → Spends (exec input (calls_at text input depth) result names places s)
    exec_spends result places s = spends_alone (exec input calls result names places s) (steady_exec input calls calls alone result names places s)

    pub exec_all_spends : (result : Ty) (places : List ℕ) (body : Stmts)
        → Spends (exec_all input (calls_at text input depth) result names places body)
    exec_all_spends result places body = spends_alone (exec_all input calls result names places body) (steady_exec_all input calls calls alone result names places body)
