-- An expression does the same where the functions that it calls have lost their markers.
use Rattle.std.proofs.Common.{◌≡◌, ℕ, List, ◌∷◌, Option, Some, None, refl, ap, ◌∙◌}
use Rattle.std.specs.Prelude.{option_map}
use Rattle.c_tree.specs.declared.operator.Binary.TheVariants as binary
use Rattle.c_tree.specs.declared.tree.Callee.{Callee}
use Rattle.c_tree.specs.declared.tree.Callee.TheVariants as callee
use Rattle.c_tree.specs.declared.undefined.Undefined.TheVariants.{NoValue}
use Rattle.c_tree.specs.Expr.{Expr, Exprs}
use Rattle.c_tree.specs.Expr as expr
use Rattle.c_tree.specs.Typing.{type_at}
use Rattle.c_tree.specs.Arithmetic.{converted}
use Rattle.c_semantics.specs.Run.{pure, ◌>>=◌, ◌>>◌, count, given_or}
use Rattle.c_semantics.specs.Memory.{value_at}
use Rattle.c_semantics.specs.Names.{Definition, Names, address_of, definition_of, held_by, operand_by}
use Rattle.c_semantics.specs.Eval.{Calls, enter, place_of, strict, binary_run, unary_run, stepped, assign_run, conditional_run, call, operand_in, held_in, called, eval, address, arguments, unused}
use Rattle.c_semantics.proofs.ErasedNames.{erased_definition, erased_names, same_types, same_home, erased_definition_of}

module _ (input : List ℕ) (calls bare : Calls) (h : (d : Definition) → bare (erased_definition d) ≡ calls d) where
  pub same_enter : (found : Option Definition)
      → enter bare (option_map erased_definition found) ≡ enter calls found
  same_enter None = refl
  same_enter (Some d) = h d

  module _ (names : Names) where
    same_operand : (e : Expr)
        → operand_in input bare (erased_names names) e ≡ operand_in input calls names e
    same_operand e = λ i. operand_by (type_at (same_types names i) e)

    same_held : (e : Expr) → held_in input bare (erased_names names) e ≡ held_in input calls names e
    same_held e = λ i. held_by (type_at (same_types names i) e)

    same_called : (c : Callee)
        → called input bare (erased_names names) c ≡ called input calls names c
    same_called (callee.Name name) = ap (enter bare) (erased_definition_of (names name)) ∙ same_enter (definition_of (names name))
    same_called callee.Getchar = refl
    same_called callee.Putchar = refl

    mutual
      pub same_eval : (e : Expr) → eval input bare (erased_names names) e ≡ eval input calls names e
      same_eval (expr.Name name at) = λ i. count >> (address_of (same_home (names name) i) >>= λ x. value_at (same_held (expr.Name name at) i) x at)
      same_eval (expr.Number shape n at) = refl
      same_eval (expr.Character code at) = refl
      same_eval (expr.Eof at) = refl
      same_eval (expr.Unary op a at) = λ i. unary_run op (same_operand a i) (same_held (expr.Unary op a at) i) at (same_eval a i) (same_address a i)
      same_eval (expr.Step how a at) = λ i. stepped how (same_operand a i) (same_held a i) (place_of a) at (same_address a i)
      same_eval (expr.Cast to a at) = λ i. same_eval a i >>= λ x. count >> pure (converted to x)
      same_eval (expr.Binary op a b at) = λ i. binary_run op (same_operand a i) (same_operand b i) at (same_eval a i) (same_eval b i)
      same_eval (expr.Conditional c a b at) = λ i. conditional_run (same_eval c i) (same_eval a i) (same_eval b i)
      same_eval (expr.Assign how a b at) = λ i. assign_run how (same_operand a i) (same_operand b i) (same_held a i) (place_of a) at (same_address a i) (same_eval b i)
      same_eval (expr.Index a b at) = λ i.
          strict binary.Plus (same_operand a i) (same_operand b i) at (same_eval a i) (same_eval b i) >>= λ x. value_at (same_held (expr.Index a b at) i) x at
      same_eval (expr.Call c all at) = λ i. call (same_arguments all i) (same_called c i) >>= λ v. given_or NoValue at v

      same_address : (e : Expr)
          → address input bare (erased_names names) e ≡ address input calls names e
      same_address (expr.Name name at) = λ i. count >> address_of (same_home (names name) i)
      same_address (expr.Unary op a at) = λ i. same_eval a i >>= λ x. count >> pure x
      same_address (expr.Index a b at) = λ i. strict binary.Plus (same_operand a i) (same_operand b i) at (same_eval a i) (same_eval b i)
      same_address e = refl

      same_arguments : (all : Exprs)
          → arguments input bare (erased_names names) all ≡ arguments input calls names all
      same_arguments expr.NoMore = refl
      same_arguments (expr.More e rest) = λ i. same_eval e i >>= λ v. same_arguments rest i >>= λ vs. pure (v ∷ vs)

    pub same_unused : (e : Expr)
        → unused input bare (erased_names names) e ≡ unused input calls names e
    same_unused (expr.Call c all at) = λ i. call (same_arguments all i) (same_called c i) >> pure tt
    same_unused e = λ i. same_eval e i >> pure tt
