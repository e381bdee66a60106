-- The code of a statement that is ready has operations whose fields are in range.
use Rattle.std.proofs.Common.{ℕ, ◌+◌, ◌<◌, ◌≤◌, List, [], ◌∷◌, ◌++◌, length, arith, Option, Some, None, pos}
use Rattle.std.specs.Prelude.{Bool, true, false, drop, IfSome}
use Rattle.rv_code.specs.declared.instr.Instr.{Instr}
use Rattle.rv_code.specs.declared.instr.Instr.TheVariants as instr
use Rattle.c_tree.specs.declared.place.Place.{Place}
use Rattle.c_tree.specs.declared.tree.Count.{Count}
use Rattle.c_tree.specs.declared.tree.Count.TheVariants as amount
use Rattle.c_tree.specs.declared.tree.Marker.{Marker}
use Rattle.c_tree.specs.declared.tree.Marker.TheVariants as marker
use Rattle.c_tree.specs.Expr.{Expr}
use Rattle.c_tree.specs.Expr as expr
use Rattle.c_tree.specs.First.{First}
use Rattle.c_tree.specs.First as for_first
use Rattle.c_tree.specs.Init.{Init}
use Rattle.c_tree.specs.Init as initial
use Rattle.c_tree.specs.Stmt.{Stmt, Stmts, ElseBranch}
use Rattle.c_tree.specs.Stmt as stmt
use Rattle.c_tree.specs.Ty.{Ty}
use Rattle.c_tree.specs.Var.{Var}
use Rattle.c_tree.specs.Declarators.{declared_shape}
use Rattle.c_layout.specs.Frames.{beginning_locals}
use Rattle.c_semantics.specs.declared.kind.Held.{Held}
use Rattle.c_semantics.specs.Exec.{behind, with_local, named_behind, named_beginning, has_init, first_place}
use Rattle.c_semantics.specs.Names.{Names, Definition, held, home_of}
use Rattle.low_labels.specs.Operation.{Operation}
use Rattle.low_labels.specs.Operation as op
use Rattle.low_labels.specs.declared.test.Test.{Test}
use Rattle.low_labels.specs.declared.test.Test.TheVariants as test
use Rattle.low_expr.specs.CodePieces.{all_do, constant, take_slot, frame_address, home_address, read_by, narrow_by, write_by}
use Rattle.low_expr.specs.ExprCode.{machine_call, labels_in, held_in}
use Rattle.low_expr.specs.Operators.{cast_code}
use Rattle.low_stmt.specs.MarkerCode.{labels_in_marker, take_variable, take_count, marker_code}
use Rattle.low_stmt.specs.StmtCode.{Targets, counted, counted_where, test_code, if_code, loop_code, do_code, in_loop, write_code, write_local, return_slot, labels_in_optional, labels_in_init, labels_in_declarators, labels_in_first, labels_in_stmt, labels_in_else, labels_in_stmts, value_code, init_code, declarators_code, first_code, optional_test, optional_code, return_code, stmt_code, else_code, stmts_code}
use Rattle.low_stmt.specs.StmtReadiness.{IsReadyIn, IsReadyInit, AreReadyVars, IsReadyFirst, IsReadyReturn, IsReadyStmt, IsReadyElse, AreReadyStmts}
use Rattle.low_stmt.specs.private.StmtParts.{AreTargets}
use Rattle.low_stmt.proofs.InstructionsInRange.{AreInstrs, instrs_append, constant_fits, frame_address_fits, take_fits, nothing_fits, move_fits, home_fits, read_fits, narrow_fits, write_fits, cast_fits}
use Rattle.low_stmt.proofs.ExpressionsInRange.{InRange, fit_append, do_fits, do_then, machine_fits, expr_fits}

variable_fits : (names : Names) (rd : ℕ) (name : List ℕ) (at : Place) → rd < 32
    → AreInstrs (take_variable names rd name at)
variable_fits names rd name at low =
    let home = home_address (home_of (names name)) in
    let h = held_in names (expr.Name name at) in
    let move : List Instr = instr.Addi rd 5 (pos 0) ∷ [] in
    instrs_append home (read_by h 5 ++ move) (home_fits (home_of (names name)))
    (instrs_append (read_by h 5) move (read_fits h 5 (omega arith)) (move_fits rd 5 low (omega arith), tt))

count_fits : (names : Names) (count : Count) → AreInstrs (take_count names count)
count_fits names (amount.Number n) = constant_fits 12 n (omega arith)
count_fits names (amount.Name name at) = variable_fits names 12 name at (omega arith)

return_fits : (result : Ty) → AreInstrs (return_slot result)
return_fits result =
    let move : List Instr = instr.Addi 10 5 (pos 0) ∷ [] in
    instrs_append (take_slot 5 0) (cast_code result ++ move) (take_fits 5 0 (omega arith))
    (instrs_append (cast_code result) move (cast_fits result) (move_fits 10 5 (omega arith) (omega arith), tt))

-- with so many labels
module _ (n : ℕ) where
  pub write_code_fits : (xs : List Instr) (h : Held) → AreInstrs xs
      → InRange n (write_code xs h)
  write_code_fits xs h fit =
      do_then n (xs ++ narrow_by h) (all_do (write_by h))
      (instrs_append xs (narrow_by h) fit (narrow_fits h)) (do_fits n (write_by h) (write_fits h))

  counted_fits : InRange n counted
  counted_fits = (nothing_fits, tt)

  counted_where_fits : (b : Bool) → InRange n (counted_where b)
  counted_where_fits true = counted_fits
  counted_where_fits false = tt

  -- the call of the machine for a marker
  call_fits : (xs : List Instr) (number : ℕ) (last : List Operation) → AreInstrs xs
      → number ≤ 2047 → InRange n last → InRange n (all_do xs ++ (machine_call number ++ last))
  call_fits xs number last fit small g =
      do_then n xs (machine_call number ++ last) fit
      (fit_append n (machine_call number) last (machine_fits n number small) g)

  marker_fits : (names : Names) (label : ℕ) (m : Marker) → label + labels_in_marker m ≤ n
      → InRange n (marker_code names label m)
  marker_fits names label (marker.Begin k) le =
      call_fits (constant 10 k) 3 [] (constant_fits 10 k (omega arith)) (omega arith) tt
  marker_fits names label (marker.End k) le =
      call_fits (constant 10 k) 4 (op.Mark label ∷ []) (constant_fits 10 k (omega arith)) (omega arith) (omega (arith, le), tt)
  marker_fits names label (marker.Post channel name at count) le =
      let a = take_variable names 11 name at in
      let b = take_count names count in
      let c = constant 10 channel in
      call_fits (a ++ (b ++ c)) 5 []
      (instrs_append a (b ++ c) (variable_fits names 11 name at (omega arith))
      (instrs_append b c (count_fits names count) (constant_fits 10 channel (omega arith))))
      (omega arith) tt
  marker_fits names label (marker.Wait channel) le =
      call_fits (constant 10 channel) 6 [] (constant_fits 10 channel (omega arith)) (omega arith) tt

  test_fits : (t : Test) (out : ℕ) (c : List Operation) → out < n → InRange n c
      → InRange n (test_code t out c)
  test_fits t out c low h =
      let branch : List Operation = op.Branch t 5 0 out ∷ [] in
      fit_append n c (all_do (take_slot 5 0) ++ branch) h
      (do_then n (take_slot 5 0) branch (take_fits 5 0 (omega arith)) ((omega arith, omega arith, low), tt))

  if_fits : (label : ℕ) (c s other : List Operation) → label + 2 ≤ n → InRange n c → InRange n s
      → InRange n other → InRange n (if_code label c s other)
  if_fits label c s other le hc hs ho =
      let last : List Operation = op.Mark (label + 1) ∷ [] in
      let rest : List Operation = op.Jump 0 (label + 1) ∷ op.Mark label ∷ (other ++ last) in
      let low : label + 1 < n = omega (arith, le) in
      let here : label < n = omega (arith, le) in
      fit_append n c (s ++ rest) hc
      (fit_append n s rest hs ((omega arith, low), (here, fit_append n other last ho (low, tt))))

  loop_fits : (label : ℕ) (c s step : List Operation) → label + 3 ≤ n → InRange n c → InRange n s
      → InRange n step → InRange n (loop_code label c s step)
  loop_fits label c s step le hc hs hd =
      let ends : List Operation = op.Jump 0 label ∷ op.Mark (label + 2) ∷ [] in
      let turn : List Operation = op.Mark (label + 1) ∷ (step ++ ends) in
      let first : label < n = omega (arith, le) in
      let second : label + 1 < n = omega (arith, le) in
      let third : label + 2 < n = omega (arith, le) in (
        first,
        fit_append n c (counted ++ (s ++ turn)) hc (
          nothing_fits,
          fit_append n s turn hs
              (second, fit_append n step ends hd ((omega arith, first), (third, tt))),
        ),
      )

  do_code_fits : (label : ℕ) (s c : List Operation) → label + 3 ≤ n → InRange n s → InRange n c
      → InRange n (do_code label s c)
  do_code_fits label s c le hs hc =
      let last : List Operation = op.Mark (label + 2) ∷ [] in
      let turn : List Operation = op.Mark (label + 1) ∷ (c ++ last) in
      let first : label < n = omega (arith, le) in
      let second : label + 1 < n = omega (arith, le) in
      let third : label + 2 < n = omega (arith, le) in
      (first, (nothing_fits, fit_append n s turn hs (second, fit_append n c last hc (third, tt))))

  in_loop_targets : (label : ℕ) (to : Targets) → label + 3 ≤ n → AreTargets n to
      → AreTargets n (in_loop label to)
  in_loop_targets label to le h = record {
    at_break = omega (arith, le);
    at_continue = omega (arith, le);
    at_return = h.at_return;
  }

  module _ (functions : List ℕ → ℕ) (known : (name : List ℕ) → functions name < n)
      (defined : List ℕ → Option Definition) (room top : ℕ) where
    value_fits : (names : Names) (label : ℕ) (e : Expr) → label + labels_in e ≤ n
        → IsReadyIn defined room top names e → InRange n (value_code functions names label e)
    value_fits names label e le ready =
        expr_fits n functions known defined names e 0 label le ready.0

    init_fits : (names : Names) (place label : ℕ) (d : Var) (init : Option Init)
        → label + labels_in_init init ≤ n → IsReadyInit defined room top names init
        → InRange n (init_code functions names place label d init)
    init_fits names place label d None le ready = tt
    init_fits names place label d (Some (initial.One e)) le ready =
        let h = held (declared_shape d) in
        fit_append n (value_code functions names label e) (write_local (declared_shape d) place)
        (value_fits names label e le ready)
        (write_code_fits (take_slot 5 0 ++ frame_address 7 place) h
        (instrs_append (take_slot 5 0) (frame_address 7 place) (take_fits 5 0 (omega arith)) (frame_address_fits 7 place (omega arith))))
    init_fits names place label d (Some (initial.Many es)) le ready = tt

    declarators_fit : (names : Names) (places : List ℕ) (label : ℕ) (ds : List Var)
        → label + labels_in_declarators ds ≤ n → AreReadyVars defined room top names places ds
        → InRange n (declarators_code functions names places label ds)
    declarators_fit names places label [] le ready = tt
    declarators_fit names places label (d ∷ ds) le ready =
        let inner = with_local places d names in
        let label1 = label + labels_in_init d.init in
        fit_append n (init_code functions inner (first_place places) label d d.init)
        (declarators_code functions inner (drop 1 places) label1 ds)
        (init_fits inner (first_place places) label d d.init (omega (arith, le)) ready.1)
        (declarators_fit inner (drop 1 places) label1 ds (omega (arith, le)) ready.2)

    first_fits : (names : Names) (places : List ℕ) (label : ℕ) (f : First)
        → label + labels_in_first f ≤ n → IsReadyFirst defined room top names places f
        → InRange n (first_code functions names places label f)
    first_fits names places label for_first.Nothing le ready = tt
    first_fits names places label (for_first.Vars ds) le ready =
        declarators_fit names places label ds le ready
    first_fits names places label (for_first.Expr e) le ready = value_fits names label e le ready

    optional_test_fits : (names : Names) (out label : ℕ) (c : Option Expr) → out < n
        → label + labels_in_optional c ≤ n → IfSome c (IsReadyIn defined room top names)
        → InRange n (optional_test functions names out label c)
    optional_test_fits names out label None low le ready = tt
    optional_test_fits names out label (Some c) low le ready =
        test_fits test.Eq out (value_code functions names label c) low (value_fits names label c le ready)

    optional_fits : (names : Names) (label : ℕ) (d : Option Expr) → label + labels_in_optional d ≤ n
        → IfSome d (IsReadyIn defined room top names)
        → InRange n (optional_code functions names label d)
    optional_fits names label None le ready = tt
    optional_fits names label (Some d) le ready = value_fits names label d le ready

    module _ (result : Ty) where
      return_code_fits : (names : Names) (label : ℕ) (value : Option Expr)
          → label + labels_in_optional value ≤ n
          → IsReadyReturn defined room top result names value
          → InRange n (return_code functions result names label value)
      return_code_fits names label None le ready = tt
      return_code_fits names label (Some e) le ready =
          fit_append n (value_code functions names label e) (all_do (return_slot result))
          (value_fits names label e le ready) (do_fits n (return_slot result) (return_fits result))

      mutual
        stmt_fits : (names : Names) (places : List ℕ) (to : Targets) (label : ℕ) (s : Stmt)
            → AreTargets n to → label + labels_in_stmt s ≤ n
            → IsReadyStmt defined room top result names places s
            → InRange n (stmt_code functions result names places to label s)
        stmt_fits names places to label (stmt.Empty at) t le ready = counted_fits
        stmt_fits names places to label (stmt.Expr e at) t le ready =
            (nothing_fits, value_fits names label e le ready)
        stmt_fits names places to label (stmt.Vars ds at) t le ready =
            fit_append n (counted_where (has_init ds)) (declarators_code functions names places label ds)
            (counted_where_fits (has_init ds)) (declarators_fit names places label ds le ready)
        stmt_fits names places to label (stmt.Block body at) t le ready =
            stmts_fit names places to label body t le ready.1
        stmt_fits names places to label (stmt.Marker marker at) t le ready =
            (nothing_fits, marker_fits names label marker le)
        stmt_fits names places to label (stmt.If c s other at) t le ready =
            let then_label = label + 2 + labels_in c in
            let else_label = then_label + labels_in_stmt s in
            let value = value_code functions names (label + 2) c in (
              nothing_fits,
              if_fits label (test_code test.Eq label value)
                  (stmt_code functions result names places to then_label s)
                  (else_code functions result names (behind s places) to else_label other) (omega (arith, le))
                  (test_fits test.Eq label value (omega (arith, le))
                  (value_fits names (label + 2) c (omega (arith, le)) ready.0))
                  (stmt_fits names places to then_label s t (omega (arith, le)) ready.1)
                  (else_fits names (behind s places) to else_label other t (omega (arith, le)) ready.2),
            )
        stmt_fits names places to label (stmt.While c s at) t le ready =
            let body_label = label + 3 + labels_in c in
            let value = value_code functions names (label + 3) c in (
              nothing_fits,
              loop_fits label (test_code test.Eq (label + 2) value)
                  (stmt_code functions result names places (in_loop label to) body_label s) [] (omega (arith, le))
                  (test_fits test.Eq (label + 2) value (omega (arith, le))
                  (value_fits names (label + 3) c (omega (arith, le)) ready.0))
                  (stmt_fits names places (in_loop label to) body_label s
                  (in_loop_targets label to (omega (arith, le)) t) (omega (arith, le)) ready.1) tt,
            )
        stmt_fits names places to label (stmt.Do s c at) t le ready =
            let test_label = label + 3 + labels_in_stmt s in
            let value = value_code functions names test_label c in (
              nothing_fits,
              do_code_fits label
                  (stmt_code functions result names places (in_loop label to) (label + 3) s)
                  (test_code test.Ne label value) (omega (arith, le))
                  (stmt_fits names places (in_loop label to) (label + 3) s
                  (in_loop_targets label to (omega (arith, le)) t) (omega (arith, le)) ready.0)
                  (test_fits test.Ne label value (omega (arith, le))
                  (value_fits names test_label c (omega (arith, le)) ready.1)),
            )
        stmt_fits names places to label (stmt.For f c d s at) t le ready =
            let inner = named_beginning places f names in
            let body_places = drop (length (beginning_locals f)) places in
            let test_label = label + 3 + labels_in_first f in
            let body_label = test_label + labels_in_optional c in
            let step_label = body_label + labels_in_stmt s in
            let cf = first_code functions names places (label + 3) f in
            let cc = optional_test functions inner (label + 2) test_label c in
            let cs = stmt_code functions result inner body_places (in_loop label to) body_label s in
            let cd = optional_code functions inner step_label d in (
              nothing_fits,
              fit_append n cf (loop_code label cc cs cd)
                  (first_fits names places (label + 3) f (omega (arith, le)) ready.1)
                  (loop_fits label cc cs cd (omega (arith, le))
                  (optional_test_fits inner (label + 2) test_label c (omega (arith, le)) (omega (arith, le)) ready.2)
                  (stmt_fits inner body_places (in_loop label to) body_label s
                  (in_loop_targets label to (omega (arith, le)) t) (omega (arith, le)) ready.4)
                  (optional_fits inner step_label d (omega (arith, le)) ready.3)),
            )
        stmt_fits names places to label (stmt.Return value at) t le ready = (
          nothing_fits,
          fit_append n (return_code functions result names label value)
              (op.Jump 0 to.at_return ∷ []) (return_code_fits names label value le ready)
              ((omega arith, t.at_return), tt),
        )
        stmt_fits names places to label (stmt.Break at) t le ready =
            (nothing_fits, ((omega arith, t.at_break), tt))
        stmt_fits names places to label (stmt.Continue at) t le ready =
            (nothing_fits, ((omega arith, t.at_continue), tt))

        else_fits : (names : Names) (places : List ℕ) (to : Targets) (label : ℕ)
            (other : ElseBranch) → AreTargets n to → label + labels_in_else other ≤ n
            → IsReadyElse defined room top result names places other
            → InRange n (else_code functions result names places to label other)
        else_fits names places to label stmt.NoElse t le ready = tt
        else_fits names places to label (stmt.Else s) t le ready =
            stmt_fits names places to label s t le ready

        pub stmts_fit : (names : Names) (places : List ℕ) (to : Targets) (label : ℕ) (body : Stmts)
            → AreTargets n to → label + labels_in_stmts body ≤ n
            → AreReadyStmts defined room top result names places body
            → InRange n (stmts_code functions result names places to label body)
        stmts_fit names places to label stmt.NoMore t le ready = tt
        stmts_fit names places to label (stmt.More s rest) t le ready =
            let inner = named_behind places s names in
            let places1 = behind s places in
            let label1 = label + labels_in_stmt s in
            fit_append n (stmt_code functions result names places to label s)
            (stmts_code functions result inner places1 to label1 rest)
            (stmt_fits names places to label s t (omega (arith, le)) ready.0)
            (stmts_fit inner places1 to label1 rest t (omega (arith, le)) ready.1)
