-- What the lowering of a function takes for granted, and what it adds to code with labels.
use Rattle.std.specs.Prelude.{◌≡◌, List, length, Some, IfSome}
use Rattle.c_tree.specs.Fun.{Fun}
use Rattle.c_tree.specs.Item.{Item}
use Rattle.c_tree.specs.Stmt.{Stmts}
use Rattle.c_layout.specs.Frames.{Planned, frame_of}
use Rattle.c_resolve.specs.Routines.{definitions_of}
use Rattle.c_semantics.specs.Meaning.{definition}
use Rattle.c_semantics.specs.Names.{Definition}
use Rattle.low_labels.specs.Emission.{Emission}
use Rattle.low_expr.specs.declared.names.Names.{Names as Labelled}
use Rattle.low_expr.specs.LabelledNames.{scope_in, functions_in, AreFunctionsOf}
use Rattle.low_expr.specs.Lowering.{lowered}
use Rattle.low_stmt.specs.FunCode.{fun_code, labels_in_body}
use Rattle.low_stmt.specs.FunReadiness.{IsReadyFun}

-- a function that a text defines, and that is ready under the names of the text
pub record IsReadyFunIn (names : Labelled) (f : Fun) : Type 0 where
  pub text : List Item
  pub body : Stmts
  pub functions : AreFunctionsOf text names
  pub has_body : f.body ≡ Some body
  pub defined : definition text f.name ≡ Some (record { function = f; body = body })
  pub ready : IsReadyFun (definition text) (scope_in (definitions_of text) names) f body

-- a frame is the layout's for a function
abbrev pub IsFrameOf : Planned → Fun → Type 0
IsFrameOf frame f = IfSome f.body (λ body. frame ≡ frame_of f.parameters body)

-- the code of a function, whatever functions the names stand for
abbrev pub IsLoweredFun : Labelled → Fun → (old new : Emission) → Type 0
IsLoweredFun names f old new = IfSome f.body (λ body. (definitions : List Definition)
    → new ≡ lowered (labels_in_body body)
    (fun_code (functions_in names) (scope_in definitions names) f body (length old.places)) old)
