-- What holds of the names and the numbers of an accepted text that has a layout, so that its
-- expressions are ready.
use Rattle.std.specs.Prelude.{◌≡◌, ℕ, ◌^◌, ◌<◌, ◌≤◌, true, List, length, Option, Some, IfSome}
use Rattle.c_tree.specs.Ty.{Ty}
use Rattle.c_tree.specs.Ty as ty
use Rattle.c_tree.specs.Expr.{Expr, Exprs}
use Rattle.c_tree.specs.Expr as expr
use Rattle.c_tree.specs.Shapes.{is_integer}
use Rattle.c_layout.specs.Sizes.{size}
use Rattle.c_semantics.specs.Names.{Names, Named, Variable, Routine, Definition}
use Rattle.low_expr.specs.Readiness.{HomeFits}

-- an object of the type has a byte, and its size is an int
abbrev pub SizeFits : Ty → Type 0
SizeFits t = (0 < size t) × (size t < 2 ^ 31)

-- what a pointer points to has a size that fits, and so have the elements of an array
abbrev pub ShapeFits : Ty → Type 0
ShapeFits (ty.Pointer t) = SizeFits t × ShapeFits t
ShapeFits (ty.Array t n) = SizeFits t × ShapeFits t
ShapeFits t = Unit {0}

-- Functions that have code are defined by their names.
module _ (defined : List ℕ → Option Definition) where
  -- the function has code, and at most 8 parameters
  abbrev pub HasCode : List ℕ → Definition → Type 0
  HasCode name d = (defined name ≡ Some d) × (length d.function.parameters ≤ 8)

  abbrev pub NamedFits : List ℕ → Named → Type 0
  NamedFits name (Variable shape home) = HomeFits home × SizeFits shape × ShapeFits shape
  NamedFits name (Routine result parameters definition) =
      ShapeFits result × IfSome definition (HasCode name)

  abbrev pub NamesFit : Names → Type 0
  NamesFit names = (name : List ℕ) (named : Named) → names name ≡ Some named → NamedFits name named

-- the numbers and characters of an expression are words, and the numbers are integers
abbrev mutual
  pub HasWords : Expr → Type 0
  HasWords (expr.Name name at) = Unit {0}
  HasWords (expr.Number shape n at) = (is_integer shape ≡ true) × (n < 2 ^ 32)
  HasWords (expr.Character code at) = code < 2 ^ 32
  HasWords (expr.Eof at) = Unit {0}
  HasWords (expr.Unary op a at) = HasWords a
  HasWords (expr.Step how a at) = HasWords a
  HasWords (expr.Cast to a at) = HasWords a
  HasWords (expr.Binary op a b at) = HasWords a × HasWords b
  HasWords (expr.Conditional c a b at) = HasWords c × HasWords a × HasWords b
  HasWords (expr.Assign how a b at) = HasWords a × HasWords b
  HasWords (expr.Index a b at) = HasWords a × HasWords b
  HasWords (expr.Call callee all at) = HaveWords all

  pub HaveWords : Exprs → Type 0
  HaveWords expr.NoMore = Unit {0}
  HaveWords (expr.More e rest) = HasWords e × HaveWords rest
