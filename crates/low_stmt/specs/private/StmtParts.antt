-- What statements and their parts add to code, by the names in scope.
use Rattle.std.specs.Prelude.{ℕ, ◌+◌, ◌*◌, ◌<◌, List, [], ◌∷◌, ◌++◌, Option, bytes_eq, drop, length}
use Rattle.c_tree.specs.Expr.{Expr}
use Rattle.c_tree.specs.Accepted.{result_shape}
use Rattle.c_tree.specs.First.{First}
use Rattle.c_tree.specs.Fun.{Fun}
use Rattle.c_tree.specs.Stmt.{Stmt, Stmts, ElseBranch}
use Rattle.c_tree.specs.Ty.{Ty}
use Rattle.c_tree.specs.Var.{Var}
use Rattle.c_tree.specs.declared.tree.Marker.{Marker}
use Rattle.c_layout.specs.Frames.{Planned}
use Rattle.c_semantics.specs.Meaning.{main_name, with_parameters}
use Rattle.c_semantics.specs.Names.{Definition, Names}
use Rattle.low_labels.specs.Operation.{Operation}
use Rattle.low_labels.specs.Operation as op
use Rattle.low_labels.specs.declared.test.Test.{Test}
use Rattle.low_labels.specs.declared.test.Test.TheVariants as test
use Rattle.low_expr.specs.declared.names.Names.{Names as Labelled}
use Rattle.low_expr.specs.ExprCode.{labels_in}
use Rattle.low_expr.specs.CodePieces.{all_do}
use Rattle.low_expr.specs.Registers.{a0, x0}
use Rattle.low_expr.specs.LabelledNames.{functions_in, scope_in}
use Rattle.low_stmt.specs.declared.targets.Targets.{Targets}
use Rattle.low_stmt.specs.CodeBound.{count_init}
use Rattle.low_stmt.specs.FunCode.{end_code, enter_code, labels_in_body, leave_code, pass_code, targets_from}
use Rattle.low_stmt.specs.MarkerCode.{labels_in_marker, marker_code}
use Rattle.low_stmt.specs.RegionEnds.{ends_in_marker, ends_in_stmt, ends_in_else, ends_in_stmts}
use Rattle.low_stmt.specs.StmtCode.{counted, in_loop, loop_code, test_code, value_code, init_code, declarators_code, first_code, optional_test, optional_code, return_code, stmt_code, else_code, stmts_code, labels_in_optional, labels_in_init, labels_in_declarators, labels_in_first, labels_in_stmt, labels_in_else, labels_in_stmts}
use Rattle.low_stmt.specs.StmtReadiness.{AreReadyStmts}
use Rattle.low_stmt.specs.private.Parts.{IsReadyHere, Part}

-- the names in scope, by the definitions of the text
abbrev pub Scopes : Type 0
Scopes = List Definition → Names

-- parts by the labels of functions and the names in scope
module _ (functions : List ℕ → ℕ) (scope : Scopes) where
  abbrev pub value_part : Expr → (label : ℕ) → Part
  value_part e label = record {
    labels = labels_in e;
    code = λ ds. value_code functions (scope ds) label e;
    ends = [];
  }

  abbrev pub test_part : Test → (to : ℕ) → Expr → (label : ℕ) → Part
  test_part t to e label = record {
    labels = labels_in e;
    code = λ ds. test_code t to (value_code functions (scope ds) label e);
    ends = [];
  }

  -- a counted step, and a test that goes to a label
  abbrev pub begin_part : (to : ℕ) → Expr → (label : ℕ) → Part
  begin_part to e label = record {
    labels = labels_in e;
    code = λ ds. counted ++ test_code test.Eq to (value_code functions (scope ds) label e);
    ends = [];
  }

  abbrev pub optional_test_part : (to : ℕ) → Option Expr → (label : ℕ) → Part
  optional_test_part to e label = record {
    labels = labels_in_optional e;
    code = λ ds. optional_test functions (scope ds) to label e;
    ends = [];
  }

  abbrev pub optional_part : Option Expr → (label : ℕ) → Part
  optional_part e label = record {
    labels = labels_in_optional e;
    code = λ ds. optional_code functions (scope ds) label e;
    ends = [];
  }

  abbrev pub init_part : (place : ℕ) → Var → (label : ℕ) → Part
  init_part place d label = record {
    labels = labels_in_init d.init;
    code = λ ds. init_code functions (scope ds) place label d d.init;
    ends = [];
  }

  abbrev pub declarators_part : List ℕ → List Var → (label : ℕ) → Part
  declarators_part places vars label = record {
    labels = labels_in_declarators vars;
    code = λ ds. declarators_code functions (scope ds) places label vars;
    ends = [];
  }

  abbrev pub first_part : List ℕ → First → (label : ℕ) → Part
  first_part places f label = record {
    labels = labels_in_first f;
    code = λ ds. first_code functions (scope ds) places label f;
    ends = [];
  }

  abbrev pub marker_part : Marker → (label : ℕ) → Part
  marker_part m label = record {
    labels = labels_in_marker m;
    code = λ ds. marker_code (scope ds) label m;
    ends = ends_in_marker label m;
  }

  module _ (result : Ty) where
    abbrev pub return_part : Option Expr → (label : ℕ) → Part
    return_part value label = record {
      labels = labels_in_optional value;
      code = λ ds. return_code functions result (scope ds) label value;
      ends = [];
    }

    module _ (places : List ℕ) (to : Targets) where
      abbrev pub stmt_part : Stmt → (label : ℕ) → Part
      stmt_part s label = record {
        labels = labels_in_stmt s;
        code = λ ds. stmt_code functions result (scope ds) places to label s;
        ends = ends_in_stmt label s;
      }

      abbrev pub else_part : ElseBranch → (label : ℕ) → Part
      else_part s label = record {
        labels = labels_in_else s;
        code = λ ds. else_code functions result (scope ds) places to label s;
        ends = ends_in_else label s;
      }

      -- after the first branch of an `if` whose two labels are there: the jump past the other one
      abbrev pub other_part : (own : ℕ) → ElseBranch → (label : ℕ) → Part
      other_part own s label = record {
        labels = labels_in_else s;
        code = λ ds. op.Jump x0 (own + 1) ∷ op.Mark own
            ∷ (else_code functions result (scope ds) places to label s ++ op.Mark (own + 1) ∷ []);
        ends = ends_in_else label s;
      }

      abbrev pub stmts_part : Stmts → (label : ℕ) → Part
      stmts_part ss label = record {
        labels = labels_in_stmts ss;
        code = λ ds. stmts_code functions result (scope ds) places to label ss;
        ends = ends_in_stmts label ss;
      }

      -- a loop whose three labels are there; those of its parts follow from one on
      abbrev pub loop_part : (own : ℕ) → Option Expr → Stmt → Option Expr → (label : ℕ) → Part
      loop_part own c s d label =
          let body = label + labels_in_optional c in
          let step = body + labels_in_stmt s in
          record {
            labels = labels_in_optional c + labels_in_stmt s + labels_in_optional d;
            code = λ ds. loop_code own (optional_test functions (scope ds) (own + 2) label c)
                (stmt_code functions result (scope ds) places (in_loop own to) body s)
                (optional_code functions (scope ds) step d);
            ends = ends_in_stmt body s;
          }

-- what labelled names give
abbrev pub scopes : Labelled → Scopes
scopes names = λ ds. scope_in ds names

-- each target is a label that there is
pub record AreTargets (labels : ℕ) (to : Targets) : Type 0 where
  pub at_break : to.at_break < labels
  pub at_continue : to.at_continue < labels
  pub at_return : to.at_return < labels

-- the words of declarators
abbrev pub declarators_words : List Var → ℕ
declarators_words [] = 0
declarators_words (d ∷ ds) = 32 * count_init d.init + 8 + declarators_words ds

-- a function without its label, in a frame
module _ (functions : List ℕ → ℕ) (scope : Scopes) (f : Fun) (frame : Planned) where
  -- what is in scope in its body
  abbrev pub inner_scope : Scopes
  inner_scope = λ ds. with_parameters frame.places f.parameters (scope ds)

  abbrev pub own_places : List ℕ
  own_places = drop (length f.parameters) frame.places

  -- after its body
  abbrev pub end_fun_code : (own : ℕ) → List Operation
  end_fun_code own = op.Mark (own + 1) ∷ (all_do (end_code (bytes_eq f.name main_name))
      ++ (op.Mark (own + 2) ∷ leave_code frame.size))

  abbrev pub fun_part : Stmts → (label : ℕ) → Part
  fun_part body label = record {
    labels = labels_in_body body;
    code = λ ds. enter_code frame.size label ++ (pass_code a0 frame.places f.parameters
        ++ (stmts_code functions (result_shape f) (inner_scope ds) own_places (targets_from label)
        (label + 3) body ++ end_fun_code label));
    ends = ends_in_stmts (label + 3) body;
  }

-- the body of a function is ready in a frame, with its parameters in scope
abbrev pub IsReadyBody : Labelled → Fun → Planned → Stmts → Type 0
IsReadyBody names f frame body =
    let own = own_places (functions_in names) (scopes names) f frame in
    IsReadyHere names (λ defined room top scope. AreReadyStmts defined room top (result_shape f)
    (with_parameters frame.places f.parameters scope) own body)
