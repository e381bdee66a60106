-- The code of a statement; one clause a form. A step that is counted is one instruction, which does
-- nothing. Labels are numbered from a number on: a statement's own first, then those of its parts.
use Rattle.std.specs.Prelude.{ℕ, ◌+◌, Bool, true, false, List, [], ◌∷◌, ◌++◌, drop, length, Option, Some, None, pos}
use Rattle.rv_code.specs.declared.instr.Instr.{Instr}
use Rattle.rv_code.specs.declared.instr.Instr.TheVariants as instr
use Rattle.low_labels.specs.Operation.{Operation}
use Rattle.low_labels.specs.Operation as op
use Rattle.low_labels.specs.declared.test.Test.{Test}
use Rattle.low_labels.specs.declared.test.Test.TheVariants as test
use Rattle.c_tree.specs.Ty.{Ty}
use Rattle.c_tree.specs.Expr.{Expr}
use Rattle.c_tree.specs.Init.{Init}
use Rattle.c_tree.specs.Init as initial
use Rattle.c_tree.specs.Var.{Var}
use Rattle.c_tree.specs.First.{First}
use Rattle.c_tree.specs.First as for_first
use Rattle.c_tree.specs.Stmt.{Stmt, Stmts, ElseBranch}
use Rattle.c_tree.specs.Stmt as stmt
use Rattle.c_tree.specs.Declarators.{declared_shape}
use Rattle.c_layout.specs.Frames.{beginning_locals}
use Rattle.c_semantics.specs.declared.kind.Held.{Held}
use Rattle.c_semantics.specs.Names.{Names, held}
use Rattle.c_semantics.specs.Exec.{behind, with_local, named_behind, named_beginning, has_init, first_place}
use Rattle.low_expr.specs.Registers.{x0, t0, t2, a0}
use Rattle.low_expr.specs.CodePieces.{all_do, take_slot, frame_address, nothing, narrow_by, write_by}
use Rattle.low_expr.specs.Operators.{cast_code}
use Rattle.low_expr.specs.ExprCode.{labels_in, expr_code}
pub use Rattle.low_stmt.specs.declared.targets.Targets.{Targets}
use Rattle.low_stmt.specs.MarkerCode.{labels_in_marker, marker_code}

-- a step that is counted
abbrev pub counted : List Operation
counted = op.Do nothing ∷ []

abbrev pub counted_where : Bool → List Operation
counted_where true = counted
counted_where false = []

-- the value of an expression, by its code, is compared with 0; where the test holds, the code goes
-- on at the label
abbrev pub test_code : Test → (label : ℕ) → List Operation → List Operation
test_code t label c = c ++ (all_do (take_slot t0 0) ++ op.Branch t t0 x0 label ∷ [])

-- by the codes of the test and of the branches
abbrev pub if_code : (label : ℕ) → List Operation → List Operation → List Operation
    → List Operation
if_code label c s other =
    c ++ (s ++ (op.Jump x0 (label + 1) ∷ op.Mark label
    ∷ (other ++ op.Mark (label + 1) ∷ [])))

-- A loop goes on at the first of its labels with the test, at the second with what follows a turn,
-- and at the third with what follows the loop. The test's code goes to the third by itself.
abbrev pub loop_code : (label : ℕ) → List Operation → List Operation → List Operation
    → List Operation
loop_code label c s step =
    op.Mark label ∷ (c ++ (counted ++ (s ++ (op.Mark (label + 1)
    ∷ (step ++ (op.Jump x0 label ∷ op.Mark (label + 2) ∷ []))))))

-- A loop that is tested after its turns: the first label is that of a turn, and the test's code
-- goes to it by itself.
abbrev pub do_code : (label : ℕ) → List Operation → List Operation → List Operation
do_code label s c =
    op.Mark label ∷ (counted ++ (s ++ (op.Mark (label + 1) ∷ (c ++ op.Mark (label + 2) ∷ []))))

-- within a loop
abbrev pub in_loop : (label : ℕ) → Targets → Targets
in_loop label to = record to { at_break = label + 2; at_continue = label + 1 }

-- instructions that leave an address in t2 and a value in t0, which goes into the object
abbrev pub write_code : List Instr → Held → List Operation
write_code xs h = all_do (xs ++ narrow_by h) ++ all_do (write_by h)

-- the value in the first slot into a local
abbrev pub write_local : Ty → (place : ℕ) → List Operation
write_local shape place = write_code (take_slot t0 0 ++ frame_address t2 place) (held shape)

-- the value in the first slot, as one of the function's type, is what is returned
abbrev pub return_slot : Ty → List Instr
return_slot result = take_slot t0 0 ++ (cast_code result ++ instr.Addi a0 t0 (pos 0) ∷ [])

-- how many labels a statement takes, and its parts
abbrev pub labels_in_optional : Option Expr → ℕ
labels_in_optional None = 0
labels_in_optional (Some e) = labels_in e

abbrev pub labels_in_init : Option Init → ℕ
labels_in_init None = 0
labels_in_init (Some (initial.One e)) = labels_in e
labels_in_init (Some (initial.Many es)) = 0

abbrev pub labels_in_declarators : List Var → ℕ
labels_in_declarators [] = 0
labels_in_declarators (d ∷ ds) = labels_in_init d.init + labels_in_declarators ds

abbrev pub labels_in_first : First → ℕ
labels_in_first for_first.Nothing = 0
labels_in_first (for_first.Vars ds) = labels_in_declarators ds
labels_in_first (for_first.Expr e) = labels_in e

abbrev mutual
  pub labels_in_stmt : Stmt → ℕ
  labels_in_stmt (stmt.Empty at) = 0
  labels_in_stmt (stmt.Expr e at) = labels_in e
  labels_in_stmt (stmt.Vars ds at) = labels_in_declarators ds
  labels_in_stmt (stmt.Block body at) = labels_in_stmts body
  labels_in_stmt (stmt.Marker marker at) = labels_in_marker marker
  labels_in_stmt (stmt.If c s other at) =
      2 + labels_in c + labels_in_stmt s + labels_in_else other
  labels_in_stmt (stmt.While c s at) = 3 + labels_in c + labels_in_stmt s
  labels_in_stmt (stmt.Do s c at) = 3 + labels_in_stmt s + labels_in c
  labels_in_stmt (stmt.For f c d s at) =
      3 + labels_in_first f + labels_in_optional c + labels_in_stmt s + labels_in_optional d
  labels_in_stmt (stmt.Return value at) = labels_in_optional value
  labels_in_stmt (stmt.Break at) = 0
  labels_in_stmt (stmt.Continue at) = 0

  pub labels_in_else : ElseBranch → ℕ
  labels_in_else stmt.NoElse = 0
  labels_in_else (stmt.Else s) = labels_in_stmt s

  pub labels_in_stmts : Stmts → ℕ
  labels_in_stmts stmt.NoMore = 0
  labels_in_stmts (stmt.More s rest) = labels_in_stmt s + labels_in_stmts rest

-- Functions have their labels by their names. Places are the offsets of the locals from a point of
-- the function on.
module _ (functions : List ℕ → ℕ) where
  -- an expression whose value goes into the first slot, or isn't used
  abbrev pub value_code : Names → (label : ℕ) → Expr → List Operation
  value_code names label e = expr_code functions names e 0 label

  abbrev pub init_code : Names → (place label : ℕ) → Var → Option Init → List Operation
  init_code names place label d None = []
  init_code names place label d (Some (initial.One e)) =
      value_code names label e ++ write_local (declared_shape d) place
  init_code names place label d (Some (initial.Many es)) = []

  -- a name is in scope in its own initialiser
  abbrev pub declarators_code : Names → List ℕ → (label : ℕ) → List Var → List Operation
  declarators_code names places label [] = []
  declarators_code names places label (d ∷ ds) =
      init_code (with_local places d names) (first_place places) label d d.init
      ++ declarators_code (with_local places d names) (drop 1 places)
      (label + labels_in_init d.init) ds

  abbrev pub first_code : Names → List ℕ → (label : ℕ) → First → List Operation
  first_code names places label for_first.Nothing = []
  first_code names places label (for_first.Vars ds) = declarators_code names places label ds
  first_code names places label (for_first.Expr e) = value_code names label e

  -- a test that is left out holds; else the code goes to the label `out` where the value is 0
  abbrev pub optional_test : Names → (out label : ℕ) → Option Expr → List Operation
  optional_test names out label None = []
  optional_test names out label (Some c) = test_code test.Eq out (value_code names label c)

  abbrev pub optional_code : Names → (label : ℕ) → Option Expr → List Operation
  optional_code names label None = []
  optional_code names label (Some d) = value_code names label d

  module _ (result : Ty) where
    abbrev pub return_code : Names → (label : ℕ) → Option Expr → List Operation
    return_code names label None = []
    return_code names label (Some e) = value_code names label e ++ all_do (return_slot result)

    abbrev mutual
      pub stmt_code : Names → List ℕ → Targets → (label : ℕ) → Stmt → List Operation
      stmt_code names places to label (stmt.Empty at) = counted
      stmt_code names places to label (stmt.Expr e at) = counted ++ value_code names label e
      stmt_code names places to label (stmt.Vars ds at) =
          counted_where (has_init ds) ++ declarators_code names places label ds
      stmt_code names places to label (stmt.Block body at) =
          stmts_code names places to label body
      stmt_code names places to label (stmt.Marker marker at) =
          counted ++ marker_code names label marker
      stmt_code names places to label (stmt.If c s other at) =
          let then_label = label + 2 + labels_in c in
          counted ++ if_code label (test_code test.Eq label (value_code names (label + 2) c))
          (stmt_code names places to then_label s)
          (else_code names (behind s places) to (then_label + labels_in_stmt s) other)
      stmt_code names places to label (stmt.While c s at) =
          counted ++ loop_code label
          (test_code test.Eq (label + 2) (value_code names (label + 3) c))
          (stmt_code names places (in_loop label to) (label + 3 + labels_in c) s) []
      stmt_code names places to label (stmt.Do s c at) =
          counted ++ do_code label
          (stmt_code names places (in_loop label to) (label + 3) s)
          (test_code test.Ne label (value_code names (label + 3 + labels_in_stmt s) c))
      stmt_code names places to label (stmt.For f c d s at) =
          let inner = named_beginning places f names in
          let body_places = drop (length (beginning_locals f)) places in
          let test_label = label + 3 + labels_in_first f in
          let body_label = test_label + labels_in_optional c in
          counted ++ (first_code names places (label + 3) f
          ++ loop_code label (optional_test inner (label + 2) test_label c)
          (stmt_code inner body_places (in_loop label to) body_label s)
          (optional_code inner (body_label + labels_in_stmt s) d))
      stmt_code names places to label (stmt.Return value at) =
          counted ++ (return_code names label value ++ op.Jump x0 to.at_return ∷ [])
      stmt_code names places to label (stmt.Break at) =
          counted ++ op.Jump x0 to.at_break ∷ []
      stmt_code names places to label (stmt.Continue at) =
          counted ++ op.Jump x0 to.at_continue ∷ []

      -- the branch that may be left out
      pub else_code : Names → List ℕ → Targets → (label : ℕ) → ElseBranch → List Operation
      else_code names places to label stmt.NoElse = []
      else_code names places to label (stmt.Else s) = stmt_code names places to label s

      -- the statements of a block, in their order
      pub stmts_code : Names → List ℕ → Targets → (label : ℕ) → Stmts → List Operation
      stmts_code names places to label stmt.NoMore = []
      stmts_code names places to label (stmt.More s rest) =
          stmt_code names places to label s
          ++ stmts_code (named_behind places s names) (behind s places) to
          (label + labels_in_stmt s) rest
