-- Expressions, as definitions speak of them: the code's trees without pointers, with nothing left out.
use Rattle.std.specs.Prelude.{ℕ, List, Option}
use Rattle.c_tree.specs.declared.operator.Binary.{Binary as BinaryOperator}
use Rattle.c_tree.specs.declared.operator.Step.{Step as StepOperator}
use Rattle.c_tree.specs.declared.operator.Unary.{Unary as UnaryOperator}
use Rattle.c_tree.specs.declared.place.Place.{Place}
use Rattle.c_tree.specs.declared.tree.Callee.{Callee}
use Rattle.c_tree.specs.Ty.{Ty}

-- an expression, with its place
mutual
  pub data Expr : Type 0 where
    Name : (name : List ℕ) (at : Place) → Expr
    Number : (ty : Ty) (value : ℕ) (at : Place) → Expr
    Character : (code : ℕ) (at : Place) → Expr
    -- the name `EOF`
    Eof : (at : Place) → Expr
    Unary : (op : UnaryOperator) (of : Expr) (at : Place) → Expr
    Step : (how : StepOperator) (of : Expr) (at : Place) → Expr
    Cast : (to : Ty) (of : Expr) (at : Place) → Expr
    Binary : (op : BinaryOperator) (left : Expr) (right : Expr) (at : Place) → Expr
    Conditional : (test : Expr) (left : Expr) (right : Expr) (at : Place) → Expr
    Assign : (how : Option BinaryOperator) (left : Expr) (right : Expr) (at : Place) → Expr
    Index : (array : Expr) (index : Expr) (at : Place) → Expr
    Call : (callee : Callee) (arguments : Exprs) (at : Place) → Expr

  pub data Exprs : Type 0 where
    NoMore : Exprs
    More : (first : Expr) (rest : Exprs) → Exprs
