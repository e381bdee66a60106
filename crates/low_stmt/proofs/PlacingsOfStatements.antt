-- The code of a statement places each label at most once, and only those that the statement takes.
use Rattle.std.proofs.Common.{◌≡◌, ℕ, ◌+◌, List, [], ◌∷◌, ◌++◌, length, refl, arith, Option, Some, None}
use Rattle.std.specs.Prelude.{Bool, true, false, drop}
use Rattle.rv_code.specs.declared.instr.Instr.{Instr}
use Rattle.c_tree.specs.declared.tree.Marker.{Marker}
use Rattle.c_tree.specs.declared.tree.Marker.TheVariants as marker
use Rattle.c_tree.specs.Expr.{Expr}
use Rattle.c_tree.specs.First.{First}
use Rattle.c_tree.specs.First as for_first
use Rattle.c_tree.specs.Init.{Init}
use Rattle.c_tree.specs.Init as initial
use Rattle.c_tree.specs.Stmt.{Stmt, Stmts, ElseBranch}
use Rattle.c_tree.specs.Stmt as stmt
use Rattle.c_tree.specs.Ty.{Ty}
use Rattle.c_tree.specs.Var.{Var}
use Rattle.c_tree.specs.Declarators.{declared_shape}
use Rattle.c_layout.specs.Frames.{beginning_locals}
use Rattle.c_semantics.specs.declared.kind.Held.{Held}
use Rattle.c_semantics.specs.Exec.{behind, with_local, named_behind, named_beginning, has_init, first_place}
use Rattle.c_semantics.specs.Names.{Names, held}
use Rattle.low_labels.specs.Operation.{Operation}
use Rattle.low_labels.specs.Operation as op
use Rattle.low_labels.specs.declared.test.Test.{Test}
use Rattle.low_labels.specs.declared.test.Test.TheVariants as test
use Rattle.low_expr.specs.CodePieces.{all_do, constant, take_slot, frame_address, narrow_by, write_by}
use Rattle.low_expr.specs.ExprCode.{machine_call, labels_in}
use Rattle.low_stmt.specs.MarkerCode.{labels_in_marker, take_variable, take_count, marker_code}
use Rattle.low_stmt.specs.StmtCode.{Targets, counted, counted_where, test_code, if_code, loop_code, do_code, in_loop, write_code, write_local, return_slot, labels_in_optional, labels_in_init, labels_in_declarators, labels_in_first, labels_in_stmt, labels_in_else, labels_in_stmts, value_code, init_code, declarators_code, first_code, optional_test, optional_code, return_code, stmt_code, else_code, stmts_code}
use Rattle.low_stmt.proofs.Placings.{placings, among, placings-append, placings_do, among_next, among_same}
use Rattle.low_stmt.proofs.PlacingsOfExpressions.{Places, places_none, places_then, places_next, expr_places}

module _ (k : ℕ) where
  pub write_placings : (xs : List Instr) (h : Held) → placings k (write_code xs h) ≡ 0
  write_placings xs h =
      omega (
        arith,
        placings-append k (all_do (xs ++ narrow_by h)) (all_do (write_by h)),
        placings_do k (xs ++ narrow_by h),
        placings_do k (write_by h),
      )

  -- the call of a marker that takes no label
  call_placings : (xs : List Instr) (number : ℕ)
      → placings k (all_do xs ++ machine_call number) ≡ 0
  call_placings xs number =
      omega (arith, placings-append k (all_do xs) (machine_call number), placings_do k xs)

  marker_places : (names : Names) (label : ℕ) (m : Marker)
      → Places k label (labels_in_marker m) (marker_code names label m)
  marker_places names label (marker.Begin n) =
      places_none k label (all_do (constant 10 n) ++ machine_call 3) (call_placings (constant 10 n) 3)
  marker_places names label (marker.End n) =
      omega (
        arith,
        placings-append k (all_do (constant 10 n)) (machine_call 4 ++ op.Mark label ∷ []),
        placings_do k (constant 10 n),
        among_next k label,
      )
  marker_places names label (marker.Post channel name at count) =
      let xs = take_variable names 11 name at ++ (take_count names count ++ constant 10 channel) in
      places_none k label (all_do xs ++ machine_call 5) (call_placings xs 5)
  marker_places names label (marker.Wait channel) =
      places_none k label (all_do (constant 10 channel) ++ machine_call 6) (call_placings (constant 10 channel) 6)

  test_places : (t : Test) (out label n : ℕ) (c : List Operation) → Places k label n c
      → Places k label n (test_code t out c)
  test_places t out label n c h =
      let branch : List Operation = op.Branch t 5 0 out ∷ [] in
      omega (
        arith,
        placings-append k c (all_do (take_slot 5 0) ++ branch),
        placings-append k (all_do (take_slot 5 0)) branch,
        placings_do k (take_slot 5 0),
        h,
      )

  if_places : (label nc ns nother : ℕ) (c s other : List Operation) → Places k (label + 2) nc c
      → Places k (label + 2 + nc) ns s → Places k (label + 2 + nc + ns) nother other
      → Places k label (2 + nc + ns + nother) (if_code label c s other)
  if_places label nc ns nother c s other hc hs ho =
      let last : List Operation = op.Mark (label + 1) ∷ [] in
      let rest : List Operation = op.Jump 0 (label + 1) ∷ op.Mark label ∷ (other ++ last) in
      omega (
        arith,
        placings-append k c (s ++ rest),
        placings-append k s rest,
        placings-append k other last,
        hc,
        hs,
        ho,
        among_next k label,
        among_next k (label + 1),
        among_same k (label + 1 + 1) (label + 2) (omega arith),
        among_same k (label + 2 + nc + ns + nother) (label + (2 + nc + ns + nother)) (omega arith),
      )

  loop_placings : (label : ℕ) (c s step : List Operation)
      → placings k (loop_code label c s step) + among label k
      ≡ placings k c + placings k s + placings k step + among (label + 3) k
  loop_placings label c s step =
      let ends : List Operation = op.Jump 0 label ∷ op.Mark (label + 2) ∷ [] in
      let turn : List Operation = op.Mark (label + 1) ∷ (step ++ ends) in
      omega (
        arith,
        placings-append k c (counted ++ (s ++ turn)),
        placings-append k s turn,
        placings-append k step ends,
        among_next k label,
        among_next k (label + 1),
        among_next k (label + 2),
        among_same k (label + 1 + 1) (label + 2) (omega arith),
        among_same k (label + 2 + 1) (label + 3) (omega arith),
      )

  do_places : (label ns nc : ℕ) (s c : List Operation) → Places k (label + 3) ns s
      → Places k (label + 3 + ns) nc c → Places k label (3 + ns + nc) (do_code label s c)
  do_places label ns nc s c hs hc =
      let last : List Operation = op.Mark (label + 2) ∷ [] in
      let turn : List Operation = op.Mark (label + 1) ∷ (c ++ last) in
      omega (
        arith,
        placings-append k s turn,
        placings-append k c last,
        hs,
        hc,
        among_next k label,
        among_next k (label + 1),
        among_next k (label + 2),
        among_same k (label + 1 + 1) (label + 2) (omega arith),
        among_same k (label + 2 + 1) (label + 3) (omega arith),
        among_same k (label + 3 + ns + nc) (label + (3 + ns + nc)) (omega arith),
      )

  counted_placings : (b : Bool) → placings k (counted_where b) ≡ 0
  counted_placings true = refl
  counted_placings false = refl

  module _ (functions : List ℕ → ℕ) where
    value_places : (names : Names) (label : ℕ) (e : Expr)
        → Places k label (labels_in e) (value_code functions names label e)
    value_places names label e = expr_places k functions names e 0 label

    init_places : (names : Names) (place label : ℕ) (d : Var) (init : Option Init)
        → Places k label (labels_in_init init) (init_code functions names place label d init)
    init_places names place label d None = places_none k label [] refl
    init_places names place label d (Some (initial.One e)) =
        let shape = declared_shape d in
        places_then k label (labels_in e) (value_code functions names label e)
        (write_local shape place) (value_places names label e)
        (write_placings (take_slot 5 0 ++ frame_address 7 place) (held shape))
    init_places names place label d (Some (initial.Many es)) = places_none k label [] refl

    declarators_place : (names : Names) (places : List ℕ) (label : ℕ) (ds : List Var)
        → Places k label (labels_in_declarators ds)
        (declarators_code functions names places label ds)
    declarators_place names places label [] = places_none k label [] refl
    declarators_place names places label (d ∷ ds) =
        let inner = with_local places d names in
        let label1 = label + labels_in_init d.init in
        places_next k label (labels_in_init d.init) (labels_in_declarators ds)
        (init_code functions inner (first_place places) label d d.init)
        (declarators_code functions inner (drop 1 places) label1 ds)
        (init_places inner (first_place places) label d d.init)
        (declarators_place inner (drop 1 places) label1 ds)

    first_places : (names : Names) (places : List ℕ) (label : ℕ) (f : First)
        → Places k label (labels_in_first f) (first_code functions names places label f)
    first_places names places label for_first.Nothing = places_none k label [] refl
    first_places names places label (for_first.Vars ds) = declarators_place names places label ds
    first_places names places label (for_first.Expr e) = value_places names label e

    optional_test_places : (names : Names) (out label : ℕ) (c : Option Expr)
        → Places k label (labels_in_optional c) (optional_test functions names out label c)
    optional_test_places names out label None = places_none k label [] refl
    optional_test_places names out label (Some c) =
        test_places test.Eq out label (labels_in c) (value_code functions names label c) (value_places names label c)

    optional_places : (names : Names) (label : ℕ) (d : Option Expr)
        → Places k label (labels_in_optional d) (optional_code functions names label d)
    optional_places names label None = places_none k label [] refl
    optional_places names label (Some d) = value_places names label d

    module _ (result : Ty) where
      return_places : (names : Names) (label : ℕ) (value : Option Expr)
          → Places k label (labels_in_optional value)
          (return_code functions result names label value)
      return_places names label None = places_none k label [] refl
      return_places names label (Some e) =
          places_then k label (labels_in e) (value_code functions names label e)
          (all_do (return_slot result)) (value_places names label e) (placings_do k (return_slot result))

      mutual
        stmt_places : (names : Names) (places : List ℕ) (to : Targets) (label : ℕ) (s : Stmt)
            → Places k label (labels_in_stmt s)
            (stmt_code functions result names places to label s)
        stmt_places names places to label (stmt.Empty at) = places_none k label counted refl
        stmt_places names places to label (stmt.Expr e at) = value_places names label e
        stmt_places names places to label (stmt.Vars ds at) =
            omega (
              arith,
              placings-append k (counted_where (has_init ds)) (declarators_code functions names places label ds),
              counted_placings (has_init ds),
              declarators_place names places label ds,
            )
        stmt_places names places to label (stmt.Block body at) =
            stmts_place names places to label body
        stmt_places names places to label (stmt.Marker marker at) = marker_places names label marker
        stmt_places names places to label (stmt.If c s other at) =
            let then_label = label + 2 + labels_in c in
            let else_label = then_label + labels_in_stmt s in
            let value = value_code functions names (label + 2) c in
            if_places label (labels_in c) (labels_in_stmt s) (labels_in_else other)
            (test_code test.Eq label value) (stmt_code functions result names places to then_label s)
            (else_code functions result names (behind s places) to else_label other)
            (test_places test.Eq label (label + 2) (labels_in c) value (value_places names (label + 2) c))
            (stmt_places names places to then_label s)
            (else_places names (behind s places) to else_label other)
        stmt_places names places to label (stmt.While c s at) =
            let value = value_code functions names (label + 3) c in
            let body_label = label + 3 + labels_in c in
            omega (
              arith,
              loop_placings label (test_code test.Eq (label + 2) value)
                  (stmt_code functions result names places (in_loop label to) body_label s) [],
              test_places test.Eq (label + 2) (label + 3) (labels_in c) value (value_places names (label + 3) c),
              stmt_places names places (in_loop label to) body_label s,
              among_same k (body_label + labels_in_stmt s) (label + labels_in_stmt (stmt.While c s at)) (omega arith),
            )
        stmt_places names places to label (stmt.Do s c at) =
            let test_label = label + 3 + labels_in_stmt s in
            let value = value_code functions names test_label c in
            do_places label (labels_in_stmt s) (labels_in c)
            (stmt_code functions result names places (in_loop label to) (label + 3) s)
            (test_code test.Ne label value) (stmt_places names places (in_loop label to) (label + 3) s)
            (test_places test.Ne label test_label (labels_in c) value (value_places names test_label c))
        stmt_places names places to label (stmt.For f c d s at) =
            let inner = named_beginning places f names in
            let body_places = drop (length (beginning_locals f)) places in
            let test_label = label + 3 + labels_in_first f in
            let body_label = test_label + labels_in_optional c in
            let step_label = body_label + labels_in_stmt s in
            let cf = first_code functions names places (label + 3) f in
            let cc = optional_test functions inner (label + 2) test_label c in
            let cs = stmt_code functions result inner body_places (in_loop label to) body_label s in
            let cd = optional_code functions inner step_label d in
            omega (
              arith,
              placings-append k cf (loop_code label cc cs cd),
              loop_placings label cc cs cd,
              first_places names places (label + 3) f,
              optional_test_places inner (label + 2) test_label c,
              stmt_places inner body_places (in_loop label to) body_label s,
              optional_places inner step_label d,
              among_same k (step_label + labels_in_optional d) (label + labels_in_stmt (stmt.For f c d s at)) (omega arith),
            )
        stmt_places names places to label (stmt.Return value at) =
            places_then k label (labels_in_optional value)
            (return_code functions result names label value) (op.Jump 0 to.at_return ∷ [])
            (return_places names label value) refl
        stmt_places names places to label (stmt.Break at) =
            places_none k label (counted ++ op.Jump 0 to.at_break ∷ []) refl
        stmt_places names places to label (stmt.Continue at) =
            places_none k label (counted ++ op.Jump 0 to.at_continue ∷ []) refl

        else_places : (names : Names) (places : List ℕ) (to : Targets) (label : ℕ)
            (other : ElseBranch)
            → Places k label (labels_in_else other)
            (else_code functions result names places to label other)
        else_places names places to label stmt.NoElse = places_none k label [] refl
        else_places names places to label (stmt.Else s) = stmt_places names places to label s

        pub stmts_place : (names : Names) (places : List ℕ) (to : Targets) (label : ℕ) (body : Stmts)
            → Places k label (labels_in_stmts body)
            (stmts_code functions result names places to label body)
        stmts_place names places to label stmt.NoMore = places_none k label [] refl
        stmts_place names places to label (stmt.More s rest) =
            let inner = named_behind places s names in
            let places1 = behind s places in
            let label1 = label + labels_in_stmt s in
            places_next k label (labels_in_stmt s) (labels_in_stmts rest)
            (stmt_code functions result names places to label s)
            (stmts_code functions result inner places1 to label1 rest)
            (stmt_places names places to label s) (stmts_place inner places1 to label1 rest)
