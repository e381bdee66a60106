-- The code of a statement follows its execution: by induction over the statement.
use Rattle.std.proofs.Common.{◌≡◌, ℕ, ◌+◌, List, [], ◌∷◌, ◌++◌, length, drop, refl, sym, ap, ◌∙◌, arith, Option, Some, None}
use Rattle.std.specs.Prelude.{Bool, true, false, ◌==◌, if◌then◌else◌, IfSome}
use Rattle.rv_code.specs.State.{State}
use Rattle.rv_code.specs.Step.{address_of}
use Rattle.c_tree.specs.Expr.{Expr}
use Rattle.c_tree.specs.Ty.{Ty}
use Rattle.c_tree.specs.Var.{Var}
use Rattle.c_tree.specs.Stmt.{Stmt, Stmts, ElseBranch}
use Rattle.c_tree.specs.Stmt as stmt
use Rattle.c_layout.specs.Frames.{beginning_locals}
use Rattle.c_semantics.specs.declared.flow.Flow.{Flow}
use Rattle.c_semantics.specs.declared.flow.Flow.TheVariants.{Normal, AtBreak, AtContinue}
use Rattle.c_semantics.specs.Run.{Run, Goes, pure, count, ◌>>=◌, ◌>>◌}
use Rattle.c_semantics.specs.Names.{Names, Definition}
use Rattle.c_semantics.specs.Eval.{Calls, eval, unused}
use Rattle.c_semantics.specs.Exec.{next, loop, after_turn, behind, block_locals, beginning_own, with_locals, named_behind, named_beginning, has_init, count_where, declare, begin, test, step, return_flow, exec, exec_else, exec_all}
use Rattle.low_labels.specs.Operation.{Operation, width_of}
use Rattle.low_labels.specs.Operation as op
use Rattle.low_labels.specs.declared.test.Test.{Test}
use Rattle.low_labels.specs.declared.test.Test.TheVariants as compare
use Rattle.low_labels.specs.Placed.{HasAt}
use Rattle.low_expr.specs.ExprCode.{labels_in}
use Rattle.low_expr.specs.ExprSimulation.{HasFunctions}
use Rattle.low_expr.proofs.KeptValues.{width-append, has_front, has_back}
use Rattle.low_expr.proofs.BranchLemmas.{moved, moved_same, agrees_moved, jump_goes}
use Rattle.low_expr.proofs.Composing.{few_before}
use Rattle.low_expr.proofs.AboveOperands.{slots_positive}
use Rattle.low_expr.proofs.UnusedValues.{simulated}
use Rattle.low_stmt.specs.MarkerCode.{marker_code}
use Rattle.low_stmt.specs.StmtCode.{Targets, counted, counted_where, test_code, if_code, loop_code, do_code, in_loop, value_code, labels_in_first, labels_in_optional, labels_in_stmt, declarators_code, first_code, optional_test, optional_code, return_code, stmt_code, else_code, stmts_code}
use Rattle.low_stmt.specs.StmtReadiness.{IsReadyIn, AreReadyVars, IsReadyStmt, IsReadyElse, AreReadyStmts}
use Rattle.low_stmt.specs.StmtSimulation.{IsDone, IsFrame, FlowLeft, flow_end, for_statement}
use Rattle.low_stmt.proofs.StatementParts.{with_credit, weaker, pure_follows, then_directly, counted_does}
use Rattle.low_stmt.proofs.Conditions.{Anything, test_end, test_does, next_does}
use Rattle.low_stmt.proofs.LocalsOfBlocks.{block_does}
use Rattle.low_stmt.proofs.DeclaredLocals.{unused_done, declarators_done, first_done}
use Rattle.low_stmt.proofs.Returns.{return_done}
use Rattle.low_stmt.proofs.MarkerCalls.{marker_done}
use Rattle.low_stmt.proofs.CodedStatements.{at_end, normal_does, if_code_does, loop_code_does, do_code_does}

module _ (functions : List ℕ → ℕ) (defined : List ℕ → Option Definition) (code input : List ℕ)
    (labels : ℕ → ℕ) (calls : Calls) (frame room top m : ℕ)
    (h : HasFunctions code input labels functions defined calls m) (fr : IsFrame frame room top)
    (result : Ty) where
  -- a test by the code of its expression
  tested_done : (t : Test) (out : ℕ) (names : Names) (e : Expr) (label i : ℕ)
      → IsReadyIn defined room top names e
      → HasAt code labels i (test_code t out (value_code functions names label e))
      → IsDone for_statement code input frame room top m i
      (test_end labels t out (i + width_of (test_code t out (value_code functions names label e))))
      Anything (eval input calls names e)
  tested_done t out names e label i ready has =
      let positive = slots_positive e in
      let s = simulated functions defined names e ready.0 in
      let c = value_code functions names label e in
      test_does code input h.short labels frame room top m t out i c (eval input calls names e) fr.slots
      (omega (arith, ready.1, positive)) has
      (s.value code input labels calls frame room 0 m label i h (omega (arith, ready.1))
      (has_front code labels i c _ has))

  optional_test_done : (out : ℕ) (names : Names) (c : Option Expr) (label i : ℕ)
      → IfSome c (IsReadyIn defined room top names)
      → HasAt code labels i (optional_test functions names out label c)
      → IsDone for_statement code input frame room top m i
      (test_end labels compare.Eq out (i + width_of (optional_test functions names out label c)))
      Anything (test input calls names c)
  optional_test_done out names None label i ready has = λ store n s le pc ag f.
      pure_follows code input h.short labels frame room top m 1 store s (omega arith) (pc ∙ omega arith) ag
      tt
  optional_test_done out names (Some e) label i ready has =
      tested_done compare.Eq out names e label i ready has

  optional_done : (names : Names) (d : Option Expr) (label i : ℕ)
      → IfSome d (IsReadyIn defined room top names)
      → HasAt code labels i (optional_code functions names label d)
      → IsDone for_statement code input frame room top m i
      (λ u. i + width_of (optional_code functions names label d)) Anything
      (step input calls names d)
  optional_done names None label i ready has = λ store n s le pc ag f.
      pure_follows code input h.short labels frame room top m tt store s (omega arith) (pc ∙ omega arith) ag
      tt
  optional_done names (Some e) label i ready has =
      unused_done functions defined code input labels calls frame room top m h fr names e label i ready has

  -- the step of a statement, and then the rest of its code
  counted_done : (to : Targets) (i : ℕ) (rest : List Operation) (r : Run Flow)
      → HasAt code labels i (counted ++ rest)
      → IsDone (with_credit 255) code input frame room top m (i + 1)
      (flow_end labels to (i + 1 + width_of rest)) (FlowLeft result) r
      → IsDone for_statement code input frame room top m i
      (flow_end labels to (i + width_of (counted ++ rest))) (FlowLeft result) (count >> r)
  counted_done to i rest r has a =
      let e : i + 1 + width_of rest ≡ i + width_of (counted ++ rest) = omega arith in
      at_end code input h.short labels frame room top m to result i (i + 1 + width_of rest)
      (i + width_of (counted ++ rest)) (count >> r) e
      (counted_does code input h.short labels frame room top m i r has.0 a)

  -- what needs no more than its own steps
  richer : (to : Targets) (i end : ℕ) (r : Run Flow)
      → IsDone for_statement code input frame room top m i (flow_end labels to end) (FlowLeft result) r
      → IsDone (with_credit 255) code input frame room top m i (flow_end labels to end)
      (FlowLeft result) r
  richer to i end r a = λ store n s le pc ag f.
      weaker (r store n) (omega arith) (omega arith) (omega arith) (omega arith) (λ v. refl)
      (λ v s1 w. w) (a store n s le pc ag f)

  -- a jump to a label, after the step of the statement
  jumps_done : (to : Targets) (i end label : ℕ) (f : Flow) → flow_end labels to end f ≡ labels label
      → ((s : State) → FlowLeft result f s) → HasAt code labels i (op.Jump 0 label ∷ [])
      → IsDone (with_credit 255) code input frame room top m i (flow_end labels to end)
      (FlowLeft result) (pure f)
  jumps_done to i end label f at left has = λ store n s le pc ag fr.
      let to_label = address_of (labels label) in
      let s1 = moved s to_label 1 in
      let same = moved_same s to_label 1 in
      few_before (Goes f store n) 1 (omega arith) (omega arith)
      (jump_goes code input h.short labels i label s pc has.0) same.0
      (pure_follows code input h.short labels frame room top m {t = for_statement} f store s1 (omega arith)
      (same.1 ∙ ap address_of (sym at)) (agrees_moved store s to_label 1 ag) (left s1))

  vars_done : (names : Names) (places : List ℕ) (to : Targets) (label i : ℕ) (ds : List Var) (b : Bool)
      → AreReadyVars defined room top names places ds
      → HasAt code labels i (counted_where b ++ declarators_code functions names places label ds)
      → IsDone for_statement code input frame room top m i
      (flow_end labels to
      (i + width_of (counted_where b ++ declarators_code functions names places label ds)))
      (FlowLeft result) (count_where b >> (declare input calls names places ds >> pure Normal))
  vars_done names places to label i ds true ready has =
      let c = declarators_code functions names places label ds in
      let r = declare input calls names places ds >> pure Normal in
      counted_done to i c r has
      (normal_does code input h.short labels frame room top m to result (i + 1) (i + 1 + width_of c)
      (declare input calls names places ds) (omega arith) (omega arith)
      (declarators_done functions defined code input labels calls frame room top m h fr names places label
      (i + 1) ds ready has.1))
  vars_done names places to label i ds false ready has =
      normal_does code input h.short labels frame room top m to result i
      (i + width_of (declarators_code functions names places label ds))
      (declare input calls names places ds) (omega arith) (omega arith)
      (declarators_done functions defined code input labels calls frame room top m h fr names places label
      i ds ready has)

  mutual
    pub stmt_done : (names : Names) (places : List ℕ) (to : Targets) (label i : ℕ) (s : Stmt)
        → IsReadyStmt defined room top result names places s
        → HasAt code labels i (stmt_code functions result names places to label s)
        → IsDone for_statement code input frame room top m i
        (flow_end labels to (i + width_of (stmt_code functions result names places to label s)))
        (FlowLeft result) (exec input calls result names places s)
    stmt_done names places to label i (stmt.Empty at) ready has =
        counted_done to i [] (pure Normal) has
        (λ store n s le pc ag f.
        pure_follows code input h.short labels frame room top m Normal store s (omega arith)
        (pc ∙ omega arith) ag tt)
    stmt_done names places to label i (stmt.Expr e at) ready has =
        let c = value_code functions names label e in
        counted_done to i c (unused input calls names e >> pure Normal) has
        (normal_does code input h.short labels frame room top m to result (i + 1) (i + 1 + width_of c)
        (unused input calls names e) (omega arith) (omega arith)
        (unused_done functions defined code input labels calls frame room top m h fr names e label (i + 1)
        ready has.1))
    stmt_done names places to label i (stmt.Vars ds at) ready has =
        vars_done names places to label i ds (has_init ds) ready has
    stmt_done names places to label i (stmt.Block body at) ready has =
        let c = stmts_code functions result names places to label body in
        block_does defined frame room top fr for_statement code input m i
        (flow_end labels to (i + width_of c)) (FlowLeft result) (block_locals places body)
        (exec_all input calls result names places body) ready.0
        (stmts_done names places to label i body ready.1 has)
    stmt_done names places to label i (stmt.Marker marker at) ready has =
        counted_done to i (marker_code names label marker) (pure Normal) has
        (marker_done code input labels h.short frame room top m fr defined result names to label (i + 1)
        marker ready has.1)
    stmt_done names places to label i (stmt.If c s other at) ready has =
        let then_label = label + 2 + labels_in c in
        let else_label = then_label + labels_in_stmt s in
        let cc = test_code compare.Eq label (value_code functions names (label + 2) c) in
        let cs = stmt_code functions result names places to then_label s in
        let co = else_code functions result names (behind s places) to else_label other in
        let rs = exec input calls result names places s in
        let ro = exec_else input calls result names (behind s places) other in
        counted_done to i (if_code label cc cs co) (eval input calls names c >>= λ x. if x == 0 then ro else rs) has
        (if_code_does code input h.short labels frame room top m to result label (i + 1) cc cs co
        (eval input calls names c) rs ro has.1
        (λ j q. tested_done compare.Eq label names c (label + 2) j ready.0 q)
        (λ j q. stmt_done names places to then_label j s ready.1 q)
        (λ j q. else_done names (behind s places) to else_label j other ready.2 q))
    stmt_done names places to label i (stmt.While c s at) ready has =
        let body_label = label + 3 + labels_in c in
        let cc = test_code compare.Eq (label + 2) (value_code functions names (label + 3) c) in
        let cs = stmt_code functions result names places (in_loop label to) body_label s in
        let rs = exec input calls result names places s in
        let r = loop (eval input calls names c) rs (pure tt) in
        counted_done to i (loop_code label cc cs []) r has
        (richer to (i + 1) (i + 1 + width_of (loop_code label cc cs [])) r
        (loop_code_does code input h.short labels frame room top m to result label (i + 1) cc cs []
        (eval input calls names c) rs (pure tt) has.1
        (λ j q. tested_done compare.Eq (label + 2) names c (label + 3) j ready.0 q)
        (λ j q. stmt_done names places (in_loop label to) body_label j s ready.1 q)
        (λ j q. optional_done names None label j tt tt)))
    stmt_done names places to label i (stmt.Do s c at) ready has =
        let test_label = label + 3 + labels_in_stmt s in
        let cs = stmt_code functions result names places (in_loop label to) (label + 3) s in
        let cc = test_code compare.Ne label (value_code functions names test_label c) in
        let rs = exec input calls result names places s in
        let rc = eval input calls names c in
        let r = count >> (rs >>= λ f. after_turn f (loop rc rs (pure tt))) in
        counted_done to i (do_code label cs cc) r has
        (richer to (i + 1) (i + 1 + width_of (do_code label cs cc)) r
        (do_code_does code input h.short labels frame room top m to result label (i + 1) cs cc rs rc has.1
        (λ j q. stmt_done names places (in_loop label to) (label + 3) j s ready.0 q)
        (λ j q. tested_done compare.Ne label names c test_label j ready.1 q)))
    stmt_done names places to label i (stmt.For f c d s at) ready has =
        let inner = named_beginning places f names in
        let body_places = drop (length (beginning_locals f)) places in
        let test_label = label + 3 + labels_in_first f in
        let body_label = test_label + labels_in_optional c in
        let step_label = body_label + labels_in_stmt s in
        let cf = first_code functions names places (label + 3) f in
        let cc = optional_test functions inner (label + 2) test_label c in
        let cs = stmt_code functions result inner body_places (in_loop label to) body_label s in
        let cd = optional_code functions inner step_label d in
        let cl = loop_code label cc cs cd in
        let rs = exec input calls result inner body_places s in
        let rl = loop (test input calls inner c) rs (step input calls inner d) in
        let rf = begin input calls names places f in
        let mid = i + 1 + width_of cf in
        let far : mid + width_of cl ≡ i + 1 + width_of (cf ++ cl) = omega (arith, width-append cf cl) in
        let r = with_locals (beginning_own places f) (rf >> rl) in
        counted_done to i (cf ++ cl) r has
        (richer to (i + 1) (i + 1 + width_of (cf ++ cl)) r
        (block_does defined frame room top fr for_statement code input m (i + 1)
        (flow_end labels to (i + 1 + width_of (cf ++ cl))) (FlowLeft result) (beginning_own places f)
        (rf >> rl) ready.0
        (then_directly code input h.short labels frame room top m for_statement (i + 1) rf (λ u. rl)
        (omega arith) (omega arith) (record { slack = omega arith; over = omega arith })
        (first_done functions defined code input labels calls frame room top m h fr names places
        (label + 3) (i + 1) f ready.1 (has_front code labels (i + 1) cf cl has.1))
        (λ u store n s1 le pc ag fr w.
        at_end code input h.short labels frame room top m to result mid (mid + width_of cl)
        (i + 1 + width_of (cf ++ cl)) rl far
        (loop_code_does code input h.short labels frame room top m to result label mid cc cs cd
        (test input calls inner c) rs (step input calls inner d) (has_back code labels (i + 1) cf cl has.1)
        (λ j q. optional_test_done (label + 2) inner c test_label j ready.2 q)
        (λ j q. stmt_done inner body_places (in_loop label to) body_label j s ready.4 q)
        (λ j q. optional_done inner d step_label j ready.3 q))
        store n s1 le pc ag fr))))
    stmt_done names places to label i (stmt.Return value at) ready has =
        let c = return_code functions result names label value ++ op.Jump 0 to.at_return ∷ [] in
        counted_done to i c (return_flow input calls result names value) has
        (return_done functions defined code input labels calls frame room top m h fr result names to label
        (i + 1) (i + 1 + width_of c) value ready has.1)
    stmt_done names places to label i (stmt.Break at) ready has =
        counted_done to i (op.Jump 0 to.at_break ∷ []) (pure AtBreak) has
        (jumps_done to (i + 1) (i + 1 + 1) to.at_break AtBreak refl (λ s. tt) has.1)
    stmt_done names places to label i (stmt.Continue at) ready has =
        counted_done to i (op.Jump 0 to.at_continue ∷ []) (pure AtContinue) has
        (jumps_done to (i + 1) (i + 1 + 1) to.at_continue AtContinue refl (λ s. tt) has.1)

    else_done : (names : Names) (places : List ℕ) (to : Targets) (label i : ℕ) (other : ElseBranch)
        → IsReadyElse defined room top result names places other
        → HasAt code labels i (else_code functions result names places to label other)
        → IsDone for_statement code input frame room top m i
        (flow_end labels to (i + width_of (else_code functions result names places to label other)))
        (FlowLeft result) (exec_else input calls result names places other)
    else_done names places to label i stmt.NoElse ready has = λ store n s le pc ag f.
        pure_follows code input h.short labels frame room top m Normal store s (omega arith)
        (pc ∙ omega arith) ag tt
    else_done names places to label i (stmt.Else s) ready has =
        stmt_done names places to label i s ready has

    pub stmts_done : (names : Names) (places : List ℕ) (to : Targets) (label i : ℕ) (body : Stmts)
        → AreReadyStmts defined room top result names places body
        → HasAt code labels i (stmts_code functions result names places to label body)
        → IsDone for_statement code input frame room top m i
        (flow_end labels to (i + width_of (stmts_code functions result names places to label body)))
        (FlowLeft result) (exec_all input calls result names places body)
    stmts_done names places to label i stmt.NoMore ready has = λ store n s le pc ag f.
        pure_follows code input h.short labels frame room top m Normal store s (omega arith)
        (pc ∙ omega arith) ag tt
    stmts_done names places to label i (stmt.More s rest) ready has =
        let inner = named_behind places s names in
        let places1 = behind s places in
        let label1 = label + labels_in_stmt s in
        let cs = stmt_code functions result names places to label s in
        let cr = stmts_code functions result inner places1 to label1 rest in
        let mid = i + width_of cs in
        let far : mid + width_of cr ≡ i + width_of (cs ++ cr) = omega (arith, width-append cs cr) in
        let rs = exec input calls result names places s in
        let rr = exec_all input calls result inner places1 rest in
        at_end code input h.short labels frame room top m to result i (mid + width_of cr)
        (i + width_of (cs ++ cr)) (rs >>= λ f. next f rr) far
        (next_does code input h.short labels frame room top m to result i mid (mid + width_of cr) rs rr
        (stmt_done names places to label i s ready.0 (has_front code labels i cs cr has))
        (stmts_done inner places1 to label1 mid rest ready.1 (has_back code labels i cs cr has)))
