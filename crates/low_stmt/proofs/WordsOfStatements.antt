-- How many words the code of a statement has.
use Rattle.std.proofs.Common.{◌≡◌, ℕ, ◌+◌, ◌*◌, ◌≤◌, List, [], ◌∷◌, ◌++◌, length, drop, arith, Option, Some, None, length-append}
use Rattle.std.specs.Prelude.{Bool, true, false, IfSome}
use Rattle.rv_code.specs.declared.instr.Instr.{Instr}
use Rattle.c_tree.specs.declared.tree.Marker.{Marker}
use Rattle.c_tree.specs.declared.tree.Marker.TheVariants as marker
use Rattle.c_tree.specs.Expr.{Expr}
use Rattle.c_tree.specs.Init.{Init}
use Rattle.c_tree.specs.Init as initial
use Rattle.c_tree.specs.Var.{Var}
use Rattle.c_tree.specs.First.{First}
use Rattle.c_tree.specs.First as for_first
use Rattle.c_tree.specs.Stmt.{Stmt, Stmts, ElseBranch}
use Rattle.c_tree.specs.Stmt as stmt
use Rattle.c_tree.specs.Ty.{Ty}
use Rattle.c_tree.specs.Declarators.{declared_shape}
use Rattle.c_layout.specs.Frames.{beginning_locals}
use Rattle.c_semantics.specs.declared.kind.Held.{Held}
use Rattle.c_semantics.specs.Names.{Names, Definition, held}
use Rattle.c_semantics.specs.Exec.{behind, with_local, named_behind, named_beginning, has_init, first_place}
use Rattle.low_labels.specs.Operation.{Operation, width_of}
use Rattle.low_labels.specs.Operation as op
use Rattle.low_labels.specs.declared.test.Test.{Test}
use Rattle.low_labels.specs.declared.test.Test.TheVariants as compare
use Rattle.low_expr.specs.CodePieces.{is_near, all_do, constant, take_slot, frame_address, narrow_by, write_by}
use Rattle.low_expr.specs.ExprCode.{labels_in, machine_call}
use Rattle.low_expr.specs.Bound.{nodes}
use Rattle.low_expr.proofs.CodePiecesLemmas.{frame_length}
use Rattle.low_expr.proofs.CodeLengths.{number_length, slot_length, narrow_length, write_length}
use Rattle.low_expr.proofs.KeptValues.{all_width, width-append}
use Rattle.low_expr.proofs.WordsBound.{expr_words}
use Rattle.low_stmt.specs.CodeBound.{count_optional, count_init, count_declarators, count_first, count_stmt, count_else, count_stmts}
use Rattle.low_stmt.specs.MarkerCode.{take_variable, take_count, marker_code}
use Rattle.low_stmt.specs.StmtCode.{Targets, counted, counted_where, test_code, loop_code, in_loop, write_code, write_local, return_slot, labels_in_init, labels_in_first, labels_in_optional, labels_in_stmt, value_code, init_code, declarators_code, first_code, optional_test, optional_code, return_code, stmt_code, else_code, stmts_code}
use Rattle.low_stmt.specs.StmtReadiness.{IsReadyIn, IsReadyInit, AreReadyVars, IsReadyFirst, IsReadyReturn, IsReadyStmt, IsReadyElse, AreReadyStmts}
use Rattle.low_stmt.proofs.MarkerCalls.{variable_length, count_length}
use Rattle.low_stmt.proofs.Returns.{return_length}

pub write_words : (xs : List Instr) (h : Held) → width_of (write_code xs h) ≤ length xs + 2
write_words xs h =
    omega (
      arith,
      width-append (all_do (xs ++ narrow_by h)) (all_do (write_by h)),
      all_width (xs ++ narrow_by h),
      all_width (write_by h),
      length-append xs (narrow_by h),
      narrow_length h,
      write_length h,
    )

local_words : (t : Ty) (place : ℕ) → width_of (write_local t place) ≤ 8
local_words t place =
    omega (
      arith,
      write_words (take_slot 5 0 ++ frame_address 7 place) (held t),
      length-append (take_slot 5 0) (frame_address 7 place),
      slot_length 5 0,
      frame_length (is_near place) 7 place,
    )

test_words : (t : Test) (label : ℕ) (c : List Operation)
    → width_of (test_code t label c) ≤ width_of c + 5
test_words t label c =
    let branch : List Operation = op.Branch t 5 0 label ∷ [] in
    omega (
      arith,
      width-append c (all_do (take_slot 5 0) ++ branch),
      width-append (all_do (take_slot 5 0)) branch,
      all_width (take_slot 5 0),
      slot_length 5 0,
    )

marker_words : (names : Names) (label : ℕ) (m : Marker)
    → width_of (marker_code names label m) ≤ 20
marker_words names label (marker.Begin k) =
    omega (arith, width-append (all_do (constant 10 k)) (machine_call 3), all_width (constant 10 k), number_length 10 k)
marker_words names label (marker.End k) =
    omega (arith, width-append (all_do (constant 10 k)) (machine_call 4 ++ op.Mark label ∷ []), all_width (constant 10 k), number_length 10 k)
marker_words names label (marker.Post channel name at count) =
    let a = take_variable names 11 name at in
    let b = take_count names count in
    let c = constant 10 channel in
    omega (
      arith,
      width-append (all_do (a ++ (b ++ c))) (machine_call 5),
      all_width (a ++ (b ++ c)),
      length-append a (b ++ c),
      length-append b c,
      variable_length names 11 name at,
      count_length names count,
      number_length 10 channel,
    )
marker_words names label (marker.Wait channel) =
    omega (arith, width-append (all_do (constant 10 channel)) (machine_call 6), all_width (constant 10 channel), number_length 10 channel)

loop_words : (label : ℕ) (c s step : List Operation)
    → width_of (loop_code label c s step) ≡ width_of c + width_of s + width_of step + 2
loop_words label c s step =
    let last3 : List Operation = op.Jump 0 label ∷ op.Mark (label + 2) ∷ [] in
    let last2 : List Operation = op.Mark (label + 1) ∷ (step ++ last3) in
    omega (
      arith,
      width-append c (counted ++ (s ++ last2)),
      width-append s last2,
      width-append step last3,
    )

module _ (functions : List ℕ → ℕ) (defined : List ℕ → Option Definition) (room top : ℕ) where
  value_words : (names : Names) (e : Expr) (label : ℕ) → IsReadyIn defined room top names e
      → width_of (value_code functions names label e) ≤ 32 * nodes e
  value_words names e label ready = expr_words functions defined names e 0 label ready.0

  init_words : (names : Names) (place label : ℕ) (d : Var) (value : Option Init)
      → IsReadyInit defined room top names value
      → width_of (init_code functions names place label d value) ≤ 32 * count_init value + 8
  init_words names place label d None ready = omega arith
  init_words names place label d (Some (initial.One e)) ready =
      omega (
        arith,
        width-append (value_code functions names label e) (write_local (declared_shape d) place),
        value_words names e label ready,
        local_words (declared_shape d) place,
      )
  init_words names place label d (Some (initial.Many es)) ready = absurd ready

  declarators_words : (names : Names) (places : List ℕ) (label : ℕ) (ds : List Var)
      → AreReadyVars defined room top names places ds
      → width_of (declarators_code functions names places label ds) + 20 * length ds
      ≤ 32 * count_declarators ds
  declarators_words names places label [] ready = omega arith
  declarators_words names places label (d ∷ ds) ready =
      let inner = with_local places d names in
      let c = init_code functions inner (first_place places) label d d.init in
      let rest = declarators_code functions inner (drop 1 places) (label + labels_in_init d.init) ds in
      omega (
        arith,
        width-append c rest,
        init_words inner (first_place places) label d d.init ready.1,
        declarators_words inner (drop 1 places) (label + labels_in_init d.init) ds ready.2,
      )

  vars_words : (names : Names) (places : List ℕ) (label : ℕ) (ds : List Var)
      → AreReadyVars defined room top names places ds
      → width_of (counted_where (has_init ds) ++ declarators_code functions names places label ds)
      ≤ 32 * count_declarators ds
  vars_words names places label [] ready = omega arith
  vars_words names places label (d ∷ ds) ready =
      let c = declarators_code functions names places label (d ∷ ds) in
      omega (
        arith,
        width-append (counted_where (has_init (d ∷ ds))) c,
        declarators_words names places label (d ∷ ds) ready,
        own_words (has_init (d ∷ ds)),
      )
    where
      own_words : (b : Bool) → width_of (counted_where b) ≤ 1
      own_words true = omega arith
      own_words false = omega arith

  first_words : (names : Names) (places : List ℕ) (label : ℕ) (f : First)
      → IsReadyFirst defined room top names places f
      → width_of (first_code functions names places label f) ≤ 32 * count_first f
  first_words names places label for_first.Nothing ready = omega arith
  first_words names places label (for_first.Vars ds) ready =
      omega (arith, declarators_words names places label ds ready)
  first_words names places label (for_first.Expr e) ready = value_words names e label ready

  optional_test_words : (names : Names) (out label : ℕ) (c : Option Expr)
      → IfSome c (IsReadyIn defined room top names)
      → width_of (optional_test functions names out label c) ≤ 32 * count_optional c + 5
  optional_test_words names out label None ready = omega arith
  optional_test_words names out label (Some e) ready =
      omega (arith, test_words compare.Eq out (value_code functions names label e), value_words names e label ready)

  optional_words : (names : Names) (label : ℕ) (d : Option Expr)
      → IfSome d (IsReadyIn defined room top names)
      → width_of (optional_code functions names label d) ≤ 32 * count_optional d
  optional_words names label None ready = omega arith
  optional_words names label (Some e) ready = value_words names e label ready

  module _ (result : Ty) where
    return_words : (names : Names) (label : ℕ) (value : Option Expr)
        → IsReadyReturn defined room top result names value
        → width_of (return_code functions result names label value) ≤ 32 * count_optional value + 5
    return_words names label None ready = omega arith
    return_words names label (Some e) ready =
        omega (
          arith,
          width-append (value_code functions names label e) (all_do (return_slot result)),
          all_width (return_slot result),
          return_length result,
          value_words names e label ready,
        )

    mutual
      stmt_words : (names : Names) (places : List ℕ) (to : Targets) (label : ℕ) (s : Stmt)
          → IsReadyStmt defined room top result names places s
          → width_of (stmt_code functions result names places to label s) ≤ 32 * count_stmt s
      stmt_words names places to label (stmt.Empty at) ready = omega arith
      stmt_words names places to label (stmt.Expr e at) ready = omega (arith, value_words names e label ready)
      stmt_words names places to label (stmt.Vars ds at) ready = vars_words names places label ds ready
      stmt_words names places to label (stmt.Block body at) ready =
          omega (arith, stmts_words names places to label body ready.1)
      stmt_words names places to label (stmt.Marker marker at) ready =
          omega (arith, marker_words names label marker)
      stmt_words names places to label (stmt.If c s other at) ready =
          let then_label = label + 2 + labels_in c in
          let else_label = then_label + labels_in_stmt s in
          let cc = test_code compare.Eq label (value_code functions names (label + 2) c) in
          let cs = stmt_code functions result names places to then_label s in
          let co = else_code functions result names (behind s places) to else_label other in
          let last : List Operation = op.Mark (label + 1) ∷ [] in
          omega (
            arith,
            width-append cc (cs ++ (op.Jump 0 (label + 1) ∷ op.Mark label ∷ (co ++ last))),
            width-append cs (op.Jump 0 (label + 1) ∷ op.Mark label ∷ (co ++ last)),
            width-append co last,
            test_words compare.Eq label (value_code functions names (label + 2) c),
            value_words names c (label + 2) ready.0,
            stmt_words names places to then_label s ready.1,
            else_words names (behind s places) to else_label other ready.2,
          )
      stmt_words names places to label (stmt.While c s at) ready =
          let body_label = label + 3 + labels_in c in
          let cc = test_code compare.Eq (label + 2) (value_code functions names (label + 3) c) in
          let cs = stmt_code functions result names places (in_loop label to) body_label s in
          omega (
            arith,
            loop_words label cc cs [],
            test_words compare.Eq (label + 2) (value_code functions names (label + 3) c),
            value_words names c (label + 3) ready.0,
            stmt_words names places (in_loop label to) body_label s ready.1,
          )
      stmt_words names places to label (stmt.Do s c at) ready =
          let test_label = label + 3 + labels_in_stmt s in
          let cs = stmt_code functions result names places (in_loop label to) (label + 3) s in
          let cc = test_code compare.Ne label (value_code functions names test_label c) in
          let last : List Operation = op.Mark (label + 2) ∷ [] in
          omega (
            arith,
            width-append cs (op.Mark (label + 1) ∷ (cc ++ last)),
            width-append cc last,
            test_words compare.Ne label (value_code functions names test_label c),
            value_words names c test_label ready.1,
            stmt_words names places (in_loop label to) (label + 3) s ready.0,
          )
      stmt_words names places to label (stmt.For f c d s at) ready =
          let inner = named_beginning places f names in
          let body_places = drop (length (beginning_locals f)) places in
          let test_label = label + 3 + labels_in_first f in
          let body_label = test_label + labels_in_optional c in
          let step_label = body_label + labels_in_stmt s in
          let cf = first_code functions names places (label + 3) f in
          let cc = optional_test functions inner (label + 2) test_label c in
          let cs = stmt_code functions result inner body_places (in_loop label to) body_label s in
          let cd = optional_code functions inner step_label d in
          omega (
            arith,
            width-append cf (loop_code label cc cs cd),
            loop_words label cc cs cd,
            first_words names places (label + 3) f ready.1,
            optional_test_words inner (label + 2) test_label c ready.2,
            optional_words inner step_label d ready.3,
            stmt_words inner body_places (in_loop label to) body_label s ready.4,
          )
      stmt_words names places to label (stmt.Return value at) ready =
          omega (
            arith,
            width-append (return_code functions result names label value) (op.Jump 0 to.at_return ∷ []),
            return_words names label value ready,
          )
      stmt_words names places to label (stmt.Break at) ready = omega arith
      stmt_words names places to label (stmt.Continue at) ready = omega arith

      else_words : (names : Names) (places : List ℕ) (to : Targets) (label : ℕ) (other : ElseBranch)
          → IsReadyElse defined room top result names places other
          → width_of (else_code functions result names places to label other) ≤ 32 * count_else other
      else_words names places to label stmt.NoElse ready = omega arith
      else_words names places to label (stmt.Else s) ready = stmt_words names places to label s ready

      pub stmts_words : (names : Names) (places : List ℕ) (to : Targets) (label : ℕ) (body : Stmts)
          → AreReadyStmts defined room top result names places body
          → width_of (stmts_code functions result names places to label body) ≤ 32 * count_stmts body
      stmts_words names places to label stmt.NoMore ready = omega arith
      stmts_words names places to label (stmt.More s rest) ready =
          let inner = named_behind places s names in
          let places1 = behind s places in
          let label1 = label + labels_in_stmt s in
          omega (
            arith,
            width-append (stmt_code functions result names places to label s)
                (stmts_code functions result inner places1 to label1 rest),
            stmt_words names places to label s ready.0,
            stmts_words inner places1 to label1 rest ready.1,
          )
