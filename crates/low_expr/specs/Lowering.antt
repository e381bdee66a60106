-- What the lowering of an expression adds to code with labels, and what it takes for granted.
use Rattle.std.specs.Prelude.{◌≡◌, ℕ, zero, suc, List, length}
use Rattle.c_tree.specs.Item.{Item}
use Rattle.c_tree.specs.Expr.{Expr}
use Rattle.c_semantics.specs.Meaning.{definition}
use Rattle.c_semantics.specs.Names.{Definition}
use Rattle.c_resolve.specs.Routines.{definitions_of}
use Rattle.low_labels.specs.Emission.{Emission, fresh, emit_all}
use Rattle.low_labels.specs.Operation.{Operation}
use Rattle.low_expr.specs.declared.names.Names.{Names as Labelled}
use Rattle.low_expr.specs.ExprCode.{expr_code, labels_in}
use Rattle.low_expr.specs.LabelledNames.{scope_in, functions_in, AreFunctionsOf}
use Rattle.low_expr.specs.Readiness.{IsReady}

-- so many labels more
abbrev pub fresh_by : ℕ → Emission → Emission
fresh_by zero e = e
fresh_by (suc n) e = fresh_by n (fresh e)

-- so many labels, and then operations
abbrev pub lowered : ℕ → List Operation → Emission → Emission
lowered labels ops e = emit_all ops (fresh_by labels e)

-- the code of an expression, whatever functions the names stand for
abbrev pub IsLowered : Labelled → Expr → (slot : ℕ) → (old new : Emission) → Type 0
IsLowered names e slot old new = (definitions : List Definition)
    → new ≡ lowered (labels_in e)
    (expr_code (functions_in names) (scope_in definitions names) e slot (length old.places)) old

-- an expression of a text that is ready under the names
pub record IsReadyIn (names : Labelled) (e : Expr) : Type 0 where
  pub text : List Item
  pub functions : AreFunctionsOf text names
  pub ready : IsReady (definition text) (scope_in (definitions_of text) names) e
