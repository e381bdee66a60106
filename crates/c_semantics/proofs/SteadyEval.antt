-- Expressions are steady where the calls in them are.
use Rattle.std.proofs.Common.{ℕ, suc, List, [], ◌∷◌, Option, Some, None}
use Rattle.std.specs.Prelude.{not, ◌==◌}
use Rattle.c_tree.specs.declared.operator.Binary.{Binary}
use Rattle.c_tree.specs.declared.operator.Binary.TheVariants as binary
use Rattle.c_tree.specs.declared.operator.Step.{Step}
use Rattle.c_tree.specs.declared.operator.Unary.{Unary}
use Rattle.c_tree.specs.declared.operator.Unary.TheVariants as unary
use Rattle.c_tree.specs.declared.place.Place.{Place}
use Rattle.c_tree.specs.declared.tree.Callee.{Callee}
use Rattle.c_tree.specs.declared.tree.Callee.TheVariants as callee
use Rattle.c_tree.specs.declared.undefined.Undefined.TheVariants.{NoValue}
use Rattle.c_tree.specs.Expr.{Expr, Exprs}
use Rattle.c_tree.specs.Expr as expr
use Rattle.c_tree.specs.Groups.{group, is_logic, decides}
use Rattle.c_tree.specs.Arithmetic.{truth, unary_word, converted}
use Rattle.c_semantics.specs.declared.kind.Held.{Held}
use Rattle.c_semantics.specs.declared.kind.Operand.{Operand}
use Rattle.c_semantics.specs.declared.kind.Operand.TheVariants.{Signed}
use Rattle.c_semantics.specs.Run.{Run, pure, ◌>>◌, count}
use Rattle.c_semantics.specs.Names.{Names, Definition, home_of, definition_of}
use Rattle.c_semantics.specs.Eval.{Calls, enter, place_of, is_unsigned, logic, strict, binary_run, pointee, address_taken, unary_value_run, unary_run, step_operator, step_value, stepped, assign_run, conditional_run, call, operand_in, held_in, called, eval, address, arguments, unused}
use Rattle.c_semantics.proofs.Steady.{Steady, Alone, steady_then, steady_count, steady_pure, steady_where, steady_given}
use Rattle.c_semantics.proofs.SteadyActs.{steady_value, steady_outcome, steady_binary, steady_combined, steady_assigned, steady_address, steady_getchar, steady_putchar}

module _ {k below : ℕ} where
  steady_value_of : {A : Type 0} (v : A) → Alone k (suc below) (count >> pure v)
  steady_value_of v = steady_count (steady_pure v)

  module _ (op : Binary) {a a' b b' : Run ℕ} (s : Steady k (suc below) a a') (t : Steady k (suc below) b b') where
    steady_logic : Steady k (suc below) (logic op a b) (logic op a' b')
    steady_logic =
        steady_then s (λ x. steady_then (steady_where (decides (group op) x) (steady_pure x) t) (λ y. steady_value_of (truth (not (y == 0)))))

    steady_strict : (c d : Operand) (at : Place)
        → Steady k (suc below) (strict op c d at a b) (strict op c d at a' b')
    steady_strict c d at = steady_then s (λ x. steady_then t (λ y. steady_count (steady_binary op c d x y at)))

    steady_binary_run : (c d : Operand) (at : Place)
        → Steady k (suc below) (binary_run op c d at a b) (binary_run op c d at a' b')
    steady_binary_run c d at = steady_where (is_logic (group op)) steady_logic (steady_strict c d at)

  module _ {a a' place place' : Run ℕ} (s : Steady k (suc below) a a') (t : Steady k (suc below) place place') where
    steady_pointee : (h : Held) (at : Place)
        → Steady k (suc below) (pointee h at a) (pointee h at a')
    steady_pointee h at = steady_then s (λ x. steady_count (steady_value h x at))

    steady_taken_address : Steady k (suc below) (address_taken place) (address_taken place')
    steady_taken_address = steady_then t (λ x. steady_value_of x)

    steady_unary_value : (op : Unary) (c : Operand) (at : Place)
        → Steady k (suc below) (unary_value_run op c at a) (unary_value_run op c at a')
    steady_unary_value op c at = steady_then s (λ x. steady_count (steady_outcome (unary_word op (is_unsigned c) x) at))

    steady_unary : (op : Unary) (c : Operand) (h : Held) (at : Place)
        → Steady k (suc below) (unary_run op c h at a place) (unary_run op c h at a' place')
    steady_unary unary.At c h at = steady_pointee h at
    steady_unary unary.Address c h at = steady_taken_address
    steady_unary op c h at = steady_unary_value op c at

  steady_stepped : (how : Step) (c : Operand) (h : Held) (own at : Place) {a a' : Run ℕ}
      → Steady k (suc below) a a'
      → Steady k (suc below) (stepped how c h own at a) (stepped how c h own at a')
  steady_stepped how c h own at s =
      steady_then s (λ x. steady_count (steady_then (steady_combined (step_operator how) c Signed h own at x 1) (λ both. steady_pure (step_value how both.0 both.1))))

  steady_assign : (how : Option Binary) (c d : Operand) (h : Held)
      (own at : Place) {a a' b b' : Run ℕ} → Steady k (suc below) a a' → Steady k (suc below) b b'
      → Steady k (suc below) (assign_run how c d h own at a b) (assign_run how c d h own at a' b')
  steady_assign how c d h own at s t = steady_then s (λ x. steady_then t (λ v. steady_count (steady_assigned how c d h own at x v)))

  steady_conditional : {c c' a a' b b' : Run ℕ} → Steady k (suc below) c c'
      → Steady k (suc below) a a' → Steady k (suc below) b b'
      → Steady k (suc below) (conditional_run c a b) (conditional_run c' a' b')
  steady_conditional u s t = steady_then u (λ x. steady_then (steady_where (x == 0) t s) (λ v. steady_value_of v))

pub steady_enter : {k below : ℕ} (calls wide : Calls)
    → ((d : Definition) (vs : List ℕ) → Steady k below (calls d vs) (wide d vs)) →
    (found : Option Definition) (vs : List ℕ) → Steady k below (enter calls found vs) (enter wide found vs)
steady_enter calls wide s None vs = steady_pure None
steady_enter calls wide s (Some d) vs = s d vs

module _ {k below : ℕ} (input : List ℕ) (calls wide : Calls) (s : (d : Definition) (vs : List ℕ) → Steady k below (calls d vs) (wide d vs)) (names : Names) where
  steady_called : (c : Callee) (vs : List ℕ)
      → Steady k below (called input calls names c vs) (called input wide names c vs)
  steady_called (callee.Name name) vs = steady_enter calls wide s (definition_of (names name)) vs
  steady_called callee.Getchar vs = steady_getchar input
  steady_called callee.Putchar vs = steady_putchar vs

  steady_call : (c : Callee) {all all' : Run (List ℕ)} → Steady k (suc below) all all'
      → Steady k (suc below) (call all (called input calls names c))
      (call all' (called input wide names c))
  steady_call c t = steady_then t (λ vs. steady_count (steady_called c vs))

  mutual
    pub steady_eval : (e : Expr)
        → Steady k (suc below) (eval input calls names e) (eval input wide names e)
    steady_eval (expr.Name name at) = steady_count (steady_then (steady_address (home_of (names name))) (λ x. steady_value (held_in input calls names (expr.Name name at)) x at))
    steady_eval (expr.Number shape n at) = steady_value_of n
    steady_eval (expr.Character code at) = steady_value_of code
    steady_eval (expr.Eof at) = steady_value_of 4294967295
    steady_eval (expr.Unary op a at) = steady_unary (steady_eval a) (steady_eval_address a) op (operand_in input calls names a) (held_in input calls names (expr.Unary op a at)) at
    steady_eval (expr.Step how a at) = steady_stepped how (operand_in input calls names a) (held_in input calls names a) (place_of a) at (steady_eval_address a)
    steady_eval (expr.Cast to a at) = steady_then (steady_eval a) (λ x. steady_value_of (converted to x))
    steady_eval (expr.Binary op a b at) = steady_binary_run op (steady_eval a) (steady_eval b) (operand_in input calls names a) (operand_in input calls names b) at
    steady_eval (expr.Conditional c a b at) = steady_conditional (steady_eval c) (steady_eval a) (steady_eval b)
    steady_eval (expr.Assign how a b at) =
        steady_assign how (operand_in input calls names a) (operand_in input calls names b) (held_in input calls names a) (place_of a) at (steady_eval_address a) (steady_eval b)
    steady_eval (expr.Index a b at) =
        steady_then (steady_strict binary.Plus (steady_eval a) (steady_eval b) (operand_in input calls names a) (operand_in input calls names b) at)
        (λ x. steady_value (held_in input calls names (expr.Index a b at)) x at)
    steady_eval (expr.Call c all at) = steady_then (steady_call c (steady_arguments all)) (λ v. steady_given NoValue at v)

    pub steady_eval_address : (e : Expr)
        → Steady k (suc below) (address input calls names e) (address input wide names e)
    steady_eval_address (expr.Name name at) = steady_count (steady_address (home_of (names name)))
    steady_eval_address (expr.Unary op a at) = steady_then (steady_eval a) (λ x. steady_value_of x)
    steady_eval_address (expr.Index a b at) = steady_strict binary.Plus (steady_eval a) (steady_eval b) (operand_in input calls names a) (operand_in input calls names b) at
    steady_eval_address e = steady_pure 0

    pub steady_arguments : (all : Exprs)
        → Steady k (suc below) (arguments input calls names all) (arguments input wide names all)
    steady_arguments expr.NoMore = steady_pure []
    steady_arguments (expr.More e rest) = steady_then (steady_eval e) (λ v. steady_then (steady_arguments rest) (λ vs. steady_pure (v ∷ vs)))

  pub steady_unused : (e : Expr)
      → Steady k (suc below) (unused input calls names e) (unused input wide names e)
  steady_unused (expr.Call c all at) = steady_then (steady_call c (steady_arguments all)) (λ _. steady_pure tt)
  steady_unused e = steady_then (steady_eval e) (λ _. steady_pure tt)
