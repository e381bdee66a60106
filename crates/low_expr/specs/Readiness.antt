-- What the code of an expression takes for granted of it.
use Rattle.std.specs.Prelude.{◌≡◌, ℕ, ◌^◌, ◌<◌, ◌≤◌, List, length, Option, Some}
use Rattle.c_tree.specs.declared.operator.Unary.TheVariants as unary
use Rattle.c_tree.specs.declared.tree.Callee.{Callee}
use Rattle.c_tree.specs.declared.tree.Callee.TheVariants as callee
use Rattle.c_tree.specs.Expr.{Expr, Exprs}
use Rattle.c_tree.specs.Expr as expr
use Rattle.c_semantics.specs.declared.home.Home.{Home}
use Rattle.c_semantics.specs.declared.home.Home.TheVariants.{Fixed, InFrame, Nowhere}
use Rattle.c_semantics.specs.declared.kind.Operand.{Operand}
use Rattle.c_semantics.specs.declared.kind.Operand.TheVariants.{Pointer}
use Rattle.c_semantics.specs.Names.{Names, Definition, home_of, definition_of}
use Rattle.c_semantics.specs.Evaluated.{count_of_arguments, IsOperand}
use Rattle.low_expr.specs.ExprCode.{operand_in}

-- an address is a word, and an offset is within a frame, which has at most 2^16 bytes
abbrev pub HomeFits : Home → Type 0
HomeFits (Fixed address) = address < 2 ^ 32
HomeFits (InFrame offset) = offset ≤ 2 ^ 16
HomeFits Nowhere = Unit {0}

-- what a pointer points to has a byte, and its size is a positive int
abbrev pub OperandFits : Operand → Type 0
OperandFits (Pointer size) = (0 < size) × (size < 2 ^ 31)
OperandFits c = Unit {0}

-- Functions that have code are defined by their names.
module _ (defined : List ℕ → Option Definition) (names : Names) where
  -- the function has code, and as many parameters, at most 8, as there are arguments
  pub record IsCalled (name : List ℕ) (count : ℕ) : Type 0 where
    pub definition : Definition
    pub has_code : defined name ≡ Some definition
    pub is : definition_of (names name) ≡ Some definition
    pub parameters : count ≡ length definition.function.parameters
    pub few : count ≤ 8

  abbrev pub TakesArguments : Callee → (count : ℕ) → Type 0
  TakesArguments (callee.Name name) count = IsCalled name count
  TakesArguments callee.Getchar count = count ≡ 0
  TakesArguments callee.Putchar count = count ≡ 1

  abbrev mutual
    -- an expression that is evaluated
    pub IsReady : Expr → Type 0
    IsReady (expr.Name name at) = HomeFits (home_of (names name))
    IsReady (expr.Number shape n at) = n < 2 ^ 32
    IsReady (expr.Character code at) = code < 2 ^ 32
    IsReady (expr.Eof at) = Unit {0}
    IsReady (expr.Unary o a at) = IsOperand o (IsReady a) (IsReadyPlace a)
    IsReady (expr.Step how a at) = IsReadyPlace a × OperandFits (operand_in names a)
    IsReady (expr.Cast to a at) = IsReady a
    IsReady (expr.Binary o a b at) =
        IsReady a × IsReady b × OperandFits (operand_in names a) × OperandFits (operand_in names b)
    IsReady (expr.Conditional c a b at) = IsReady c × IsReady a × IsReady b
    IsReady (expr.Assign how a b at) =
        IsReadyPlace a × IsReady b × OperandFits (operand_in names a)
        × OperandFits (operand_in names b)
    IsReady (expr.Index a b at) =
        IsReady a × IsReady b × OperandFits (operand_in names a) × OperandFits (operand_in names b)
    IsReady (expr.Call callee all at) =
        AreReady all × TakesArguments callee (count_of_arguments all)

    -- a place whose address is evaluated
    pub IsReadyPlace : Expr → Type 0
    IsReadyPlace (expr.Name name at) = HomeFits (home_of (names name))
    IsReadyPlace (expr.Unary unary.At a at) = IsReady a
    IsReadyPlace (expr.Index a b at) =
        IsReady a × IsReady b × OperandFits (operand_in names a) × OperandFits (operand_in names b)
    IsReadyPlace e = ⊥

    pub AreReady : Exprs → Type 0
    AreReady expr.NoMore = Unit {0}
    AreReady (expr.More e rest) = IsReady e × AreReady rest
