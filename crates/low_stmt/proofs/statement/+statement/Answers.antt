use Rattle.std.proofs.Common.{rules, ◌≡◌, ℕ, ◌+◌, ◌*◌, ◌≤◌, List, [], ◌∷◌, ◌++◌, Option, Some, None, Vec, Global, length, map, drop, refl, ap, sym, subst, ◌∙◌, arith, length-append}
use Rattle.std.specs.Option.{option_copied, option_map}
use Rattle.std.specs.Prelude.{Box, IfSome, OnOk}
use Rattle.std.proofs.lemmas.List.{drop_all, drop-drop, length-map}
use Rattle.std.proofs.lemmas.Result.{on_ok_weaker, IfOk-weaker}
use Rattle.c_tree.proofs.TreeLists.{cut_at}
use Rattle.c_tree.proofs.ViewLemmas as tree
use Rattle.c_tree.specs.declared.place.Place.{Place}
use Rattle.c_tree.specs.declared.tree.Stmt.{Stmt as StmtTree}
use Rattle.c_tree.specs.declared.tree.StmtKind.{StmtKind}
use Rattle.c_tree.specs.declared.tree.StmtKind.TheVariants as kind
use Rattle.c_tree.specs.declared.tree.Var.{Var as VarTree}
use Rattle.c_tree.specs.Stmt.{Stmt, Stmts}
use Rattle.c_tree.specs.Stmt as stmt
use Rattle.c_tree.specs.View.{boxed_stmt_of, else_of, expr_of, first_of, stmt_kind_of, stmt_of, stmts_of, ty_of, var_of}
use Rattle.c_layout.specs.Frames.{beginning_locals, body_locals, else_locals, locals}
use Rattle.c_semantics.specs.Exec.{behind, named_behind, named_beginning}
use Rattle.c_semantics.specs.Names.{Definition, Names}
use Rattle.low_labels.specs.Emission.{Emission, emit}
use Rattle.low_labels.specs.Operation.{Do, Jump, Mark}
use Rattle.low_labels.specs.declared.test.Test.TheVariants as test
use Rattle.low_expr.specs.CodePieces.{nothing}
use Rattle.low_expr.specs.LabelledNames.{functions_in, scope_in}
use Rattle.low_expr.proofs.Emitting.{labels_same, lines_more}
use Rattle.low_expr.proofs.MarkLemmas.{fresh_length}
use Rattle.low_stmt.specs.CodeBound.{count_stmt, count_stmts}
use Rattle.low_stmt.specs.StmtCode.{counted, in_loop}
use Rattle.low_stmt.specs.StmtReadiness.{AreReadyStmts, IsReadyFirst, IsReadyIn, IsReadyStmt}
use Rattle.low_stmt.specs.private.Parts.{Adds, IsAdded, IsWritten, Writes}
use Rattle.low_stmt.specs.private.StmtParts.{scopes, test_part, optional_test_part, optional_part, first_part, stmt_part, stmts_part, else_part, loop_part, other_part, AreTargets}
use Rattle.low_stmt.proofs.LoweredStatements.{if_step, other_step, loop_step, while_step, do_step, for_step, stmts_step}
use Rattle.low_stmt.proofs.PartLemmas.{added_plain}
use Rattle.low_stmt.proofs.ReadyParts.{functions_same, functions_then, labels_as, ready_made, ready_part, scope_entered, scope_same, targets_more}
use Rattle.low_stmt.proofs.ValueParts.{labels_more}
use Rattle.low_stmt.proofs.statement.+statement.Goals as goal

-- what may be ready
abbrev Claim : Type 1
Claim = (List ℕ → Option Definition) → ℕ → ℕ → Names → Type 0

-- a statement, by its kind
of : (s : StmtTree) (kind : StmtKind) (x : Stmt) → s.kind ≡ kind → stmt_kind_of kind s.place ≡ x
    → stmt_of s ≡ x
of s kind x is same = tree.statement_is s ∙ (ap (λ k. stmt_kind_of k s.place) is ∙ same)

-- a declaration, of what the tree has
vars_here : (s : StmtTree) (vars : Vec VarTree Global) (declared : List VarTree)
    → s.kind ≡ kind.Vars vars → declared ≡ vars.items
    → stmt.Vars (map var_of declared) s.place ≡ stmt_of s
vars_here s vars declared is same =
    ap (λ vs. stmt.Vars (map var_of vs) s.place) same
    ∙ sym (of s (kind.Vars vars) (stmt.Vars (map var_of vars.items) s.place) is (tree.vars_is vars s.place))

-- readiness doesn't depend on the place of a statement
anywhere : Place
anywhere = record { line = 0; column = 0 }

pub lower_inner-lower_stmt-requires : goal.lower_inner-lower_stmt-requires
lower_inner-lower_stmt-requires t c =
    let old = c.args.names.now in
    let new = c.enter.new.self in
    let A : Claim = λ defined room top scope. IsReadyStmt defined room top (ty_of c.args.gives.now) scope c.args.places.now (stmt_of c.args.s.now) in (
      search rules,
      (
        ready_made A A old new c.enter.ensures.functions
            (λ defined room top ds h. subst (A defined room top) (sym (scope_entered old new c.in_ok-enter.ensures.entered ds)) h) c.requires.ready,
        (labels_as old new (length c.args.asm.now.places) c.enter.ensures.functions c.requires.labels, c.requires.to),
      ),
    )

pub lower_inner-returns-clause-lowered : goal.lower_inner-returns-clause-lowered
lower_inner-returns-clause-lowered t c =
    let first = length c.args.asm.now.places in
    let same = functions_same c.args.names.now c.enter.new.self c.enter.ensures.functions in
    let inside = scope_entered c.args.names.now c.enter.new.self c.in_ok-enter.ensures.entered in
    subst (λ part. IsWritten first first part c.args.asm.now c.lower_stmt.new.asm c.args.ends.now c.lower_stmt.new.ends)
    (λ i. stmt_part (same i) (λ ds. inside ds i) (ty_of c.args.gives.now) c.args.places.now c.args.to.now (stmt_of c.args.s.now) first)
    c.in_ok-rest.ensures.lowered

pub lower_block-lower_body-requires : goal.lower_block-lower_body-requires
lower_block-lower_body-requires t c =
    let old = c.args.names.now in
    let new = c.enter.new.self in
    let A : Claim = λ defined room top scope. AreReadyStmts defined room top (ty_of c.args.gives.now) scope c.args.places.now (stmts_of c.args.body.now) in (
      search rules,
      (
        ready_made A A old new c.enter.ensures.functions
            (λ defined room top ds h. subst (A defined room top) (sym (scope_entered old new c.in_ok-enter.ensures.entered ds)) h) c.requires.ready,
        (labels_as old new (length c.args.asm.now.places) c.enter.ensures.functions c.requires.labels, c.requires.to),
      ),
    )

pub lower_block-returns-clause-lowered : goal.lower_block-returns-clause-lowered
lower_block-returns-clause-lowered t c =
    let first = length c.args.asm.now.places in
    let same = functions_same c.args.names.now c.enter.new.self c.enter.ensures.functions in
    let inside = scope_entered c.args.names.now c.enter.new.self c.in_ok-enter.ensures.entered in
    subst (λ part. IsWritten first first part c.args.asm.now c.lower_body.new.asm c.args.ends.now c.lower_body.new.ends)
    (λ i. stmts_part (same i) (λ ds. inside ds i) (ty_of c.args.gives.now) c.args.places.now c.args.to.now (stmts_of c.args.body.now) first)
    c.in_ok-rest.ensures.lowered

pub branches::lower_else-returns-in-Some-clause-lowered : goal.branches::lower_else-returns-in-Some-clause-lowered
branches::lower_else-returns-in-Some-clause-lowered t c =
    let functions = functions_in c.args.names.now in
    let scope = scopes c.args.names.now in
    let result = ty_of c.args.gives.now in
    let places = c.args.places.now in
    let to = c.args.to.now in
    subst (λ (o : Option (Box StmtTree Global)). OnOk c.lower_inner.result (Writes (else_part functions scope result places to (else_of boxed_stmt_of o)) c.args.asm.now c.lower_inner.new.asm c.args.ends.now c.lower_inner.new.ends))
    (sym c.in-Some.is)
    (subst (λ s. OnOk c.lower_inner.result (Writes (else_part functions scope result places to (stmt.Else (stmt_of s))) c.args.asm.now c.lower_inner.new.asm c.args.ends.now c.lower_inner.new.ends))
    c.deref.ensures c.lower_inner.ensures.lowered)

pub branches::end_if-returns-clause-lowered : goal.branches::end_if-returns-clause-lowered
branches::end_if-returns-clause-lowered t c =
    let own = c.args.labels.now.other in
    let end = c.requires.end in
    let there = c.requires.there in
    other_step (functions_in c.args.names.now) (scopes c.args.names.now) (ty_of c.args.gives.now) c.args.places.now c.args.to.now own (else_of boxed_stmt_of c.args.other.now)
    c.args.asm.now c.place.new.self c.lower_else.new.asm c.place-2.new.self c.args.ends.now c.lower_else.new.ends (omega arith)
    (c.place.ensures ∙ (ap (emit (Mark own)) c.in_ok-jump.ensures.added ∙ (λ i. emit (Mark own) (emit (Jump 0 (end i)) c.args.asm.now))))
    c.in_ok-rest.ensures.lowered
    (c.place-2.ensures ∙ (λ i. emit (Mark (end i)) c.lower_else.new.asm))

pub loops::lower_do-lower_inner-requires : goal.loops::lower_do-lower_inner-requires
loops::lower_do-lower_inner-requires t c =
    let old = c.args.asm.now in
    let last = length c.add_nothing-2.new.asm.places in
    let made = ap (λ (e : Emission). length e.places) c.in_ok-labels.ensures.made ∙ fresh_length 3 old in
    let first = ap (λ (e : Emission). length e.places) c.in_ok-add_nothing.ensures.added ∙ labels_same counted c.make_loop.new.asm in
    let placed = ap (λ (e : Emission). length e.places) c.place.ensures ∙ labels_same (Mark c.in_ok-labels.labels.turn ∷ []) c.add_nothing.new.asm in
    let second = ap (λ (e : Emission). length e.places) c.in_ok-add_nothing-2.ensures.added ∙ labels_same counted c.place.new.self in
    let turn = c.in_ok-labels.ensures.turn in
    let home = c.requires.to.at_return in
    (search rules, (ready_part _ (λ defined room top scope. IsReadyStmt defined room top (ty_of c.args.gives.now) scope c.args.places.now (stmt_of c.args.body.now)) c.args.names.now (λ defined room top ds h. (h anywhere).0) c.requires.ready, (labels_more c.args.names.now (length old.places) last (omega arith) c.requires.labels, subst (AreTargets last) (sym c.within-inner.ensures) (record { at_break = omega arith; at_continue = omega arith; at_return = omega arith }))))

pub loops::lower_do-lower_test-requires-clause-ready : goal.loops::lower_do-lower_test-requires-clause-ready
loops::lower_do-lower_test-requires-clause-ready t c =
    let before = c.args.names.now in
    let after = c.lower_inner.new.names in
    let B : Claim = λ defined room top scope. IsReadyIn defined room top scope (expr_of c.args.test.now) in
    ready_made _ B before after c.in_ok-rest.ensures.functions
    (λ defined room top ds h. subst (B defined room top) (sym (scope_same before after c.in_ok-rest.ensures.same ds)) (h anywhere).1) c.requires.ready

pub loops::lower_do-returns-clause-lowered : goal.loops::lower_do-returns-clause-lowered
loops::lower_do-returns-clause-lowered t c = λ at.
    let old = c.args.asm.now in
    let n = length old.places in
    let before = c.args.names.now in
    let after = c.lower_inner.new.names in
    let functions = functions_in before in
    let scope = scopes before in
    let result = ty_of c.args.gives.now in
    let places = c.args.places.now in
    let to = c.args.to.now in
    let e = expr_of c.args.test.now in
    let s = stmt_of c.args.body.now in
    let turn = c.in_ok-labels.ensures.turn in
    let next = c.in_ok-labels.ensures.next in
    let end = c.in_ok-labels.ensures.end in
    let same = functions_same before after c.in_ok-rest.ensures.functions in
    let named = scope_same before after c.in_ok-rest.ensures.same in
    let m0 = c.make_loop.new.asm in
    let m1 = c.add_nothing-2.new.asm in
    let m2 = c.lower_inner.new.asm in
    let m3 = c.place-2.new.self in
    let m4 = c.lower_test.new.asm in
    let e0 = c.args.ends.now in
    let e1 = c.lower_inner.new.ends in
    let first = length m3.places in
    do_step functions scope result places to s e at old m0 m1 m2 m3 m4 c.place-3.new.self e0 e1
    c.in_ok-labels.ensures.made
    (c.in_ok-add_nothing-2.ensures.added
    ∙ ap (emit (Do nothing)) (c.place.ensures
    ∙ (ap (emit (Mark c.in_ok-labels.labels.turn)) c.in_ok-add_nothing.ensures.added
    ∙ (λ i. emit (Mark (turn i)) (emit (Do nothing) m0)))))
    (subst (λ inner. Writes (stmt_part functions scope result places inner s) m1 m2 e0 e1)
    (c.within-inner.ensures ∙ ap (λ l. in_loop l to) turn) c.in_ok-rest.ensures.lowered)
    (c.place-2.ensures ∙ (λ i. emit (Mark (next i)) m2))
    (subst (λ part. IsAdded first first part m3 m4)
    (λ i. test_part (same i) (λ ds. named ds i) test.Ne (turn i) e first) c.in_ok-lower_test.ensures.lowered)
    (c.place-3.ensures ∙ (λ i. emit (Mark (end i)) m4))

pub loops::lower_loop-returns-clause-lowered : goal.loops::lower_loop-returns-clause-lowered
loops::lower_loop-returns-clause-lowered t c =
    let old = c.args.asm.now in
    let own = c.args.labels.now.turn in
    let before = c.args.names.now in
    let after = c.lower_inner.new.names in
    let functions = functions_in before in
    let scope = scopes before in
    let result = ty_of c.args.gives.now in
    let places = c.args.places.now in
    let to = c.args.to.now in
    let e = option_map expr_of (option_copied c.args.test) in
    let d = option_map expr_of (option_copied c.args.step) in
    let s = stmt_of c.args.body.now in
    let there = c.requires.there in
    let end = c.requires.end in
    let same = functions_same before after c.in_ok-rest.ensures.functions in
    let named = scope_same before after c.in_ok-rest.ensures.same in
    let m1 = c.place.new.self in
    let m2 = c.lower_optional_test.new.asm in
    let m3 = c.add_nothing.new.asm in
    let m4 = c.lower_inner.new.asm in
    let m5 = c.place-2.new.self in
    let m6 = c.lower_optional.new.asm in
    let e0 = c.args.ends.now in
    let e1 = c.lower_inner.new.ends in
    let first = length m5.places in
    loop_step functions scope result places to own e s d old m1 m2 m3 m4 m5 m6 c.place-3.new.self e0 e1 (omega arith)
    c.place.ensures
    (subst (λ l. Adds (optional_test_part functions scope l e) m1 m2) end c.in_ok-lower_optional_test.ensures.lowered)
    c.in_ok-add_nothing.ensures.added
    (subst (λ inner. Writes (stmt_part functions scope result places inner s) m3 m4 e0 e1) c.within-inner.ensures c.in_ok-rest.ensures.lowered)
    (c.place-2.ensures ∙ (λ i. emit (Mark (c.requires.next i)) m4))
    (subst (λ part. IsAdded first first part m5 m6)
    (λ i. optional_part (same i) (λ ds. named ds i) d first) c.in_ok-lower_optional.ensures.lowered)
    (c.place-3.ensures
    ∙ (ap (emit (Mark c.args.labels.now.end)) c.in_ok-jump.ensures.added ∙ (λ i. emit (Mark (end i)) (emit (Jump 0 own) m6))))

pub loops::lower_while-lower_loop-requires : goal.loops::lower_while-lower_loop-requires
loops::lower_while-lower_loop-requires t c =
    let old = c.args.asm.now in
    let last = length c.add_nothing.new.asm.places in
    let made = ap (λ (e : Emission). length e.places) c.in_ok-labels.ensures.made ∙ fresh_length 3 old in
    let first = ap (λ (e : Emission). length e.places) c.in_ok-add_nothing.ensures.added ∙ labels_same counted c.make_loop.new.asm in
    let turn = c.in_ok-labels.ensures.turn in
    let next = c.in_ok-labels.ensures.next in
    let end = c.in_ok-labels.ensures.end in
    (search rules, (ready_part _ (λ defined room top scope. IsReadyIn defined room top scope (expr_of c.args.test.now) × Unit {0} × IsReadyStmt defined room top (ty_of c.args.gives.now) scope c.args.places.now (stmt_of c.args.body.now)) c.args.names.now (λ defined room top ds h. ((h anywhere).0, tt, (h anywhere).1)) c.requires.ready, (labels_more c.args.names.now (length old.places) last (omega arith) c.requires.labels, (targets_more c.args.to.now (length old.places) last (omega arith) c.requires.to, (omega arith, (omega arith, omega arith))))))

pub loops::lower_while-returns-clause-lowered : goal.loops::lower_while-returns-clause-lowered
loops::lower_while-returns-clause-lowered t c =
    let old = c.args.asm.now in
    let functions = functions_in c.args.names.now in
    let scope = scopes c.args.names.now in
    let result = ty_of c.args.gives.now in
    let places = c.args.places.now in
    let to = c.args.to.now in
    let e = expr_of c.args.test.now in
    let s = stmt_of c.args.body.now in
    let m1 = c.add_nothing.new.asm in
    let new = c.lower_loop.new.asm in
    let e0 = c.args.ends.now in
    let e1 = c.lower_loop.new.ends in
    on_ok_weaker c.lower_loop.result
    (λ h at. while_step functions scope result places to e s at old c.make_loop.new.asm m1 new e0 e1 c.in_ok-labels.ensures.made c.in_ok-add_nothing.ensures.added
    (subst (λ l. IsWritten l (l + 3) (loop_part functions scope result places to l (Some e) s None (length m1.places)) m1 new e0 e1) c.in_ok-labels.ensures.turn h))
    c.lower_loop.ensures.lowered

pub loops::lower_for-lower_first-requires-clause-ready : goal.loops::lower_for-lower_first-requires-clause-ready
loops::lower_for-lower_first-requires-clause-ready t c =
    let old = c.args.names.now in
    let new = c.enter.new.self in
    let B : Claim = λ defined room top scope. IsReadyFirst defined room top scope c.args.places.now (first_of c.args.first.now) in
    ready_made _ B old new c.enter.ensures.functions
    (λ defined room top ds h. subst (B defined room top) (sym (scope_entered old new c.in_ok-enter.ensures.entered ds)) (h anywhere).1) c.requires.ready

pub loops::lower_for-lower_loop-requires : goal.loops::lower_for-lower_loop-requires
loops::lower_for-lower_loop-requires t c =
    let old = c.args.asm.now in
    let before = c.args.names.now in
    let within = c.enter.new.self in
    let inner = c.lower_first.new.names in
    let result = ty_of c.args.gives.now in
    let places = c.args.places.now in
    let f = first_of c.args.first.now in
    let s = stmt_of c.args.body.now in
    let last = length c.lower_first.new.asm.places in
    let made = ap (λ (e : Emission). length e.places) c.in_ok-labels.ensures.made ∙ fresh_length 3 old in
    let first = ap (λ (e : Emission). length e.places) c.in_ok-add_nothing.ensures.added ∙ labels_same counted c.make_loop.new.asm in
    let begun = c.in_ok-lower_first.ensures.more in
    let turn = c.in_ok-labels.ensures.turn in
    let next = c.in_ok-labels.ensures.next in
    let end = c.in_ok-labels.ensures.end in
    let named : (ds : List Definition) → scope_in ds inner ≡ named_beginning places f (scope_in ds before) = λ ds.
    c.in_ok-lower_first.ensures.names ds ∙ ap (named_beginning places f) (scope_entered before within c.in_ok-enter.ensures.entered ds) in
    let left = c.past-inner.ensures ∙ ap (λ n. drop n places) c.first_count.ensures in
    let B : Claim = λ defined room top scope. IfSome (option_map expr_of (option_copied c.as_ref.result)) (IsReadyIn defined room top scope) × IfSome (option_map expr_of (option_copied c.as_ref-2.result)) (IsReadyIn defined room top scope) × IsReadyStmt defined room top result scope c.past-inner.result.now s in (
      search rules,
      (
        ready_made _ B before inner (functions_then before within inner c.enter.ensures.functions c.in_ok-lower_first.ensures.functions)
            (λ defined room top ds h.
            let parts = h anywhere in
            subst (B defined room top) (sym (named ds)) (
              subst (λ o. IfSome (option_map expr_of o) (IsReadyIn defined room top (named_beginning places f (scope_in ds before)))) (sym c.as_ref.ensures.value) parts.2,
              subst (λ o. IfSome (option_map expr_of o) (IsReadyIn defined room top (named_beginning places f (scope_in ds before)))) (sym c.as_ref-2.ensures.value) parts.3,
              subst (λ ps. IsReadyStmt defined room top result (named_beginning places f (scope_in ds before)) ps s) (sym left) parts.4,
            ))
            c.requires.ready,
        (c.in_ok-lower_first.ensures.labels, (targets_more c.args.to.now (length old.places) last (omega arith) c.requires.to, (omega arith, (omega arith, omega arith)))),
      ),
    )

pub loops::lower_for-returns-clause-lowered : goal.loops::lower_for-returns-clause-lowered
loops::lower_for-returns-clause-lowered t c = λ at.
    let old = c.args.asm.now in
    let n = length old.places in
    let before = c.args.names.now in
    let within = c.enter.new.self in
    let inner = c.lower_first.new.names in
    let functions = functions_in before in
    let scope = scopes before in
    let result = ty_of c.args.gives.now in
    let places = c.args.places.now in
    let to = c.args.to.now in
    let f = first_of c.args.first.now in
    let e = option_map expr_of c.args.test.now in
    let d = option_map expr_of c.args.step.now in
    let s = stmt_of c.args.body.now in
    let m1 = c.add_nothing.new.asm in
    let m2 = c.lower_first.new.asm in
    let new = c.lower_loop.new.asm in
    let e0 = c.args.ends.now in
    let e1 = c.lower_loop.new.ends in
    let first = length m1.places in
    let entered = scope_entered before within c.in_ok-enter.ensures.entered in
    let same1 = functions_same before within c.enter.ensures.functions in
    let same2 = functions_same before inner (functions_then before within inner c.enter.ensures.functions c.in_ok-lower_first.ensures.functions) in
    let named : (ds : List Definition) → scope_in ds inner ≡ named_beginning places f (scope_in ds before) = λ ds.
    c.in_ok-lower_first.ensures.names ds ∙ ap (named_beginning places f) (entered ds) in
    let left = c.past-inner.ensures ∙ ap (λ k. drop k places) c.first_count.ensures in
    let turn = c.in_ok-labels.ensures.turn in
    for_step functions scope result places to f e d s at old c.make_loop.new.asm m1 m2 new e0 e1 c.in_ok-labels.ensures.made c.in_ok-add_nothing.ensures.added
    (subst (λ part. IsAdded first first part m1 m2) (λ i. first_part (same1 i) (λ ds. entered ds i) places f first) c.in_ok-lower_first.ensures.lowered)
    (subst (λ l. IsWritten l (l + 3) (loop_part functions (λ ds. named_beginning places f (scope ds)) result (drop (length (beginning_locals f)) places) to l e s d (length m2.places)) m2 new e0 e1) turn
    (subst (λ part. IsWritten c.in_ok-labels.labels.turn (c.in_ok-labels.labels.turn + 3) part m2 new e0 e1)
    (λ i. loop_part (same2 i) (λ ds. named ds i) result (left i) to c.in_ok-labels.labels.turn (option_map expr_of (c.as_ref.ensures.value i)) s (option_map expr_of (c.as_ref-2.ensures.value i)) (length m2.places))
    c.in_ok-rest.ensures.lowered))

pub lower_body-loop-s-preserved : goal.lower_body-loop-s-preserved
lower_body-loop-s-preserved t c =
    let body = c.args.body.now in
    let i = c.loop-s.s-index in
    let item = c.s-item.result in
    let s = stmt_of item in
    let ss = stmts_of (drop (i + 1) body) in
    let result = ty_of c.args.gives.now in
    let to = c.args.to.now in
    let rest = c.loop-s.rest.now in
    let later = c.in_ok-rest.rest.now in
    let start = c.args.asm.now in
    let old = c.loop-s.asm in
    let mid = c.lower_stmt.new.asm in
    let before = c.loop-s.names in
    let after = c.lower_stmt.new.names in
    let functions = functions_in c.args.names.now in
    let h = c.in_ok-rest.ensures in
    let here : stmts_of (drop i body) ≡ stmt.More s ss = ap stmts_of (cut_at body i item c.loop-s-test.true c.s-item.is) in
    let same = functions_same c.args.names.now before c.loop-s.invariant.functions in
    let all_same = functions_then c.args.names.now before after c.loop-s.invariant.functions h.functions in
    let first = length old.places in
    let next = length mid.places in
    record {
      ready = ready_made
          (λ defined room top scope. AreReadyStmts defined room top result scope rest (stmts_of (drop i body)))
          (λ defined room top scope. AreReadyStmts defined room top result scope later ss)
          before after h.functions
          (λ defined room top ds ready.
          let whole = subst (λ (all : Stmts). AreReadyStmts defined room top result (scope_in ds before) rest all) here ready in
          subst (λ (scope : Names). AreReadyStmts defined room top result scope later ss) (sym (h.names ds))
          (subst (λ places. AreReadyStmts defined room top result (named_behind rest s (scope_in ds before)) places ss) (sym h.rest) whole.1))
          c.loop-s.invariant.ready;
      labels = h.labels;
      lowered = λ new ends others.
          let p = subst (λ f. Writes (stmt_part f (scopes before) result rest to s) old mid c.loop-s.ends c.lower_stmt.new.ends) same h.lowered in
          let q = subst (λ part. IsWritten next next part mid new c.lower_stmt.new.ends ends) (λ j. stmts_part functions (λ ds. h.names ds j) result (h.rest j) to ss next) others in
          let whole = stmts_step functions (scopes before) result rest to s ss old mid new c.loop-s.ends c.lower_stmt.new.ends ends p q in
          c.loop-s.invariant.lowered new ends
          (subst (λ (all : Stmts). Writes (stmts_part functions (scopes before) result rest to all) old new c.loop-s.ends ends) (sym here) whole);
      few =
          let few = subst (λ (all : Stmts). length old.lines + 32 * count_stmts all ≤ length start.lines + 32 * count_stmts (stmts_of body)) here c.loop-s.invariant.few in
          let more = h.few in
          omega arith;
      more = let this = c.loop-s.invariant.more in let after = h.more in omega arith;
      kept = h.kept ∙ c.loop-s.invariant.kept;
      functions = all_same;
      rest =
          ap (drop (length (body_locals ss))) h.rest
          ∙ (drop-drop (length (body_locals ss)) (length (locals s)) rest
          ∙ (ap (λ n. drop n rest) (sym (length-append (locals s) (body_locals ss)))
          ∙ (ap (λ (all : Stmts). drop (length (body_locals all)) rest) (sym here) ∙ c.loop-s.invariant.rest)));
    }

pub lower_body-returns-clause-lowered : goal.lower_body-returns-clause-lowered
lower_body-returns-clause-lowered t c =
    let left = drop_all c.loop-s.s-index c.args.body.now c.loop-s-test.false in
    let end = c.loop-s.asm in
    let n = length end.places in
    let ends = c.loop-s.ends in
    c.loop-s.invariant.lowered end ends
    (subst (λ ss. Writes (stmts_part (functions_in c.args.names.now) (scopes c.loop-s.names) (ty_of c.args.gives.now) c.loop-s.rest.now c.args.to.now (stmts_of ss)) end end ends ends) (sym left)
    (record { added = added_plain n n [] end end (omega arith) refl tt; ends = refl }))

pub lower_stmt-returns-in_ok-add_nothing-in-Empty-clause-few : goal.lower_stmt-returns-in_ok-add_nothing-in-Empty-clause-few
lower_stmt-returns-in_ok-add_nothing-in-Empty-clause-few t c =
    let s = c.args.s.now in
    let here = of s kind.Empty (stmt.Empty s.place) c.in-Empty.is (tree.empty_is s.place) in
    let count = ap count_stmt here in
    let lines = ap (λ (e : Emission). length e.lines) c.in_ok-add_nothing-in-Empty.ensures.added ∙ lines_more (counted) c.args.asm.now in
    omega arith

pub lower_stmt-returns-in_ok-lower_expr_stmt-in-Expr-clause-lowered : goal.lower_stmt-returns-in_ok-lower_expr_stmt-in-Expr-clause-lowered
lower_stmt-returns-in_ok-lower_expr_stmt-in-Expr-clause-lowered t c =
    let s = c.args.s.now in
    let here = of s _ (stmt.Expr (expr_of c.in-Expr.e) s.place) c.in-Expr.is (tree.expr_is c.in-Expr.e s.place) in
    subst (λ x. Writes (stmt_part (functions_in c.args.names.now) (scopes c.args.names.now) (ty_of c.args.gives.now) c.args.places.now c.args.to.now x) c.args.asm.now c.lower_expr_stmt.new.asm c.args.ends.now c.args.ends.now) (sym here)
    (record { added = c.in_ok-lower_expr_stmt-in-Expr.ensures.lowered (ty_of c.args.gives.now) c.args.places.now c.args.to.now s.place; ends = refl })

pub lower_stmt-returns-in_ok-lower_vars_stmt-in-Vars-clause-lowered : goal.lower_stmt-returns-in_ok-lower_vars_stmt-in-Vars-clause-lowered
lower_stmt-returns-in_ok-lower_vars_stmt-in-Vars-clause-lowered t c =
    let s = c.args.s.now in
    let here = vars_here s c.in-Vars.vars c.deref.result.now c.in-Vars.is c.deref.ensures.value in
    subst (λ x. Writes (stmt_part (functions_in c.args.names.now) (scopes c.args.names.now) (ty_of c.args.gives.now) c.args.places.now c.args.to.now x) c.args.asm.now c.lower_vars_stmt.new.asm c.args.ends.now c.args.ends.now) here
    (record { added = c.in_ok-lower_vars_stmt-in-Vars.ensures.lowered (ty_of c.args.gives.now) c.args.to.now s.place; ends = refl })

pub lower_stmt-returns-in_ok-lower_vars_stmt-in-Vars-clause-rest : goal.lower_stmt-returns-in_ok-lower_vars_stmt-in-Vars-clause-rest
lower_stmt-returns-in_ok-lower_vars_stmt-in-Vars-clause-rest t c =
    let s = c.args.s.now in
    let places = c.args.places.now in
    let vars = c.in-Vars.vars in
    let here = of s _ (stmt.Vars (map var_of vars.items) s.place) c.in-Vars.is (tree.vars_is vars s.place) in
    let counted : c.len.result ≡ length (map var_of vars.items) = omega (arith, c.len.ensures, vars.ok.0, length-map vars.items var_of) in
    c.past.ensures ∙ (ap (λ n. drop n places) counted ∙ ap (λ x. behind x places) (sym here))

pub lower_stmt-returns-in-Block-clause-lowered : goal.lower_stmt-returns-in-Block-clause-lowered
lower_stmt-returns-in-Block-clause-lowered t c =
    let s = c.args.s.now in
    let here = ap (λ ss. stmt.Block (stmts_of ss) s.place) c.deref-in-Block.ensures.value ∙ sym (of s _ (stmt.Block (stmts_of c.in-Block.body.items) s.place) c.in-Block.is (tree.block_is c.in-Block.body s.place)) in
    subst (λ x. OnOk c.lower_block.result (Writes (stmt_part (functions_in c.args.names.now) (scopes c.args.names.now) (ty_of c.args.gives.now) c.args.places.now c.args.to.now x) c.args.asm.now c.lower_block.new.asm c.args.ends.now c.lower_block.new.ends)) here
    c.lower_block.ensures.lowered

pub lower_stmt-returns-in_ok-lower_marker_stmt-in-Marker-clause-lowered : goal.lower_stmt-returns-in_ok-lower_marker_stmt-in-Marker-clause-lowered
lower_stmt-returns-in_ok-lower_marker_stmt-in-Marker-clause-lowered t c =
    let s = c.args.s.now in
    let result = ty_of c.args.gives.now in
    let here = of s _ (stmt.Marker c.in-Marker.marker s.place) c.in-Marker.is (tree.marker_is c.in-Marker.marker s.place) in
    subst (λ x. Writes (stmt_part (functions_in c.args.names.now) (scopes c.args.names.now) (ty_of c.args.gives.now) c.args.places.now c.args.to.now x) c.args.asm.now c.lower_marker_stmt.new.asm c.args.ends.now c.lower_marker_stmt.new.ends) (sym here)
    (record {
      added = c.in_ok-lower_marker_stmt-in-Marker.ensures.lowered result c.args.places.now c.args.to.now s.place;
      ends = c.in_ok-lower_marker_stmt-in-Marker.ensures.ends result c.args.places.now c.args.to.now s.place;
    })

pub lower_stmt-returns-in-While-clause-lowered : goal.lower_stmt-returns-in-While-clause-lowered
lower_stmt-returns-in-While-clause-lowered t c =
    let s = c.args.s.now in
    let While : StmtTree → Stmt = λ b. stmt.While (expr_of c.in-While.test) (stmt_of b) s.place in
    let here : stmt_of s ≡ While c.deref-in-While.result.now = of s _ (While c.in-While.body.value) c.in-While.is (tree.while_is c.in-While.test c.in-While.body s.place) ∙ ap While (sym c.deref-in-While.ensures) in
    subst (λ x. OnOk c.lower_while.result (Writes (stmt_part (functions_in c.args.names.now) (scopes c.args.names.now) (ty_of c.args.gives.now) c.args.places.now c.args.to.now x) c.args.asm.now c.lower_while.new.asm c.args.ends.now c.lower_while.new.ends)) (sym here)
    (on_ok_weaker c.lower_while.result (λ h. h s.place) c.lower_while.ensures.lowered)

pub lower_stmt-returns-in-While-clause-rest : goal.lower_stmt-returns-in-While-clause-rest
lower_stmt-returns-in-While-clause-rest t c =
    let s = c.args.s.now in
    let While : StmtTree → Stmt = λ b. stmt.While (expr_of c.in-While.test) (stmt_of b) s.place in
    let here : stmt_of s ≡ While c.deref-in-While.result.now = of s _ (While c.in-While.body.value) c.in-While.is (tree.while_is c.in-While.test c.in-While.body s.place) ∙ ap While (sym c.deref-in-While.ensures) in
    IfOk-weaker c.lower_while.result _ (λ rest. rest.now ≡ behind (stmt_of s) c.args.places.now)
    (λ rest h. h s.place ∙ ap (λ x. behind x c.args.places.now) (sym here)) c.lower_while.ensures.rest

pub lower_stmt-returns-in-Do-clause-lowered : goal.lower_stmt-returns-in-Do-clause-lowered
lower_stmt-returns-in-Do-clause-lowered t c =
    let s = c.args.s.now in
    let Turns : StmtTree → Stmt = λ b. stmt.Do (stmt_of b) (expr_of c.in-Do.test) s.place in
    let here : stmt_of s ≡ Turns c.deref-in-Do.result.now = of s _ (Turns c.in-Do.body.value) c.in-Do.is (tree.do_is c.in-Do.body c.in-Do.test s.place) ∙ ap Turns (sym c.deref-in-Do.ensures) in
    subst (λ x. OnOk c.lower_do.result (Writes (stmt_part (functions_in c.args.names.now) (scopes c.args.names.now) (ty_of c.args.gives.now) c.args.places.now c.args.to.now x) c.args.asm.now c.lower_do.new.asm c.args.ends.now c.lower_do.new.ends)) (sym here)
    (on_ok_weaker c.lower_do.result (λ h. h s.place) c.lower_do.ensures.lowered)

pub lower_stmt-returns-in-Do-clause-rest : goal.lower_stmt-returns-in-Do-clause-rest
lower_stmt-returns-in-Do-clause-rest t c =
    let s = c.args.s.now in
    let Turns : StmtTree → Stmt = λ b. stmt.Do (stmt_of b) (expr_of c.in-Do.test) s.place in
    let here : stmt_of s ≡ Turns c.deref-in-Do.result.now = of s _ (Turns c.in-Do.body.value) c.in-Do.is (tree.do_is c.in-Do.body c.in-Do.test s.place) ∙ ap Turns (sym c.deref-in-Do.ensures) in
    IfOk-weaker c.lower_do.result _ (λ rest. rest.now ≡ behind (stmt_of s) c.args.places.now)
    (λ rest h. h s.place ∙ ap (λ x. behind x c.args.places.now) (sym here)) c.lower_do.ensures.rest

pub lower_stmt-returns-in-For-clause-lowered : goal.lower_stmt-returns-in-For-clause-lowered
lower_stmt-returns-in-For-clause-lowered t c =
    let s = c.args.s.now in
    let For : StmtTree → Stmt = λ b. stmt.For (first_of c.in-For.first) (option_map expr_of c.in-For.test) (option_map expr_of c.in-For.step) (stmt_of b) s.place in
    let here : stmt_of s ≡ For c.deref-in-For.result.now = of s _ (For c.in-For.body.value) c.in-For.is (tree.for_is c.in-For.first c.in-For.test c.in-For.step c.in-For.body s.place) ∙ ap For (sym c.deref-in-For.ensures) in
    subst (λ x. OnOk c.lower_for.result (Writes (stmt_part (functions_in c.args.names.now) (scopes c.args.names.now) (ty_of c.args.gives.now) c.args.places.now c.args.to.now x) c.args.asm.now c.lower_for.new.asm c.args.ends.now c.lower_for.new.ends)) (sym here)
    (on_ok_weaker c.lower_for.result (λ h. h s.place) c.lower_for.ensures.lowered)

pub lower_stmt-returns-in-For-clause-rest : goal.lower_stmt-returns-in-For-clause-rest
lower_stmt-returns-in-For-clause-rest t c =
    let s = c.args.s.now in
    let For : StmtTree → Stmt = λ b. stmt.For (first_of c.in-For.first) (option_map expr_of c.in-For.test) (option_map expr_of c.in-For.step) (stmt_of b) s.place in
    let here : stmt_of s ≡ For c.deref-in-For.result.now = of s _ (For c.in-For.body.value) c.in-For.is (tree.for_is c.in-For.first c.in-For.test c.in-For.step c.in-For.body s.place) ∙ ap For (sym c.deref-in-For.ensures) in
    IfOk-weaker c.lower_for.result _ (λ rest. rest.now ≡ behind (stmt_of s) c.args.places.now)
    (λ rest h. h s.place ∙ ap (λ x. behind x c.args.places.now) (sym here)) c.lower_for.ensures.rest

pub lower_stmt-returns-in_ok-lower_return-in-Return-clause-lowered : goal.lower_stmt-returns-in_ok-lower_return-in-Return-clause-lowered
lower_stmt-returns-in_ok-lower_return-in-Return-clause-lowered t c =
    let s = c.args.s.now in
    let here = of s _ (stmt.Return (option_map expr_of c.in-Return.value) s.place) c.in-Return.is (tree.return_is c.in-Return.value s.place) in
    subst (λ x. Writes (stmt_part (functions_in c.args.names.now) (scopes c.args.names.now) (ty_of c.args.gives.now) c.args.places.now c.args.to.now x) c.args.asm.now c.lower_return.new.asm c.args.ends.now c.args.ends.now) (sym here)
    (record { added = c.in_ok-lower_return-in-Return.ensures.lowered c.args.places.now c.args.to.now s.place refl; ends = refl })

pub lower_stmt-returns-in_ok-lower_jump-in-Break-clause-few : goal.lower_stmt-returns-in_ok-lower_jump-in-Break-clause-few
lower_stmt-returns-in_ok-lower_jump-in-Break-clause-few t c =
    let s = c.args.s.now in
    let here = of s kind.Break (stmt.Break s.place) c.in-Break.is (tree.break_out_is s.place) in
    let count = ap count_stmt here in
    let lines = ap (λ (e : Emission). length e.lines) c.in_ok-lower_jump-in-Break.ensures.added ∙ lines_more (counted ++ Jump 0 c.args.to.now.at_break ∷ []) c.args.asm.now in
    omega arith

pub lower_stmt-returns-in_ok-lower_jump-in-Continue-clause-few : goal.lower_stmt-returns-in_ok-lower_jump-in-Continue-clause-few
lower_stmt-returns-in_ok-lower_jump-in-Continue-clause-few t c =
    let s = c.args.s.now in
    let here = of s kind.Continue (stmt.Continue s.place) c.in-Continue.is (tree.go_on_is s.place) in
    let count = ap count_stmt here in
    let lines = ap (λ (e : Emission). length e.lines) c.in_ok-lower_jump-in-Continue.ensures.added ∙ lines_more (counted ++ Jump 0 c.args.to.now.at_continue ∷ []) c.args.asm.now in
    omega arith

pub lower_stmt-returns-in_ok-rest-in-If-clause-rest : goal.lower_stmt-returns-in_ok-rest-in-If-clause-rest
lower_stmt-returns-in_ok-rest-in-If-clause-rest t c =
    let s = c.args.s.now in
    let places = c.args.places.now in
    let test = c.in-If.test in
    let then = c.in-If.then in
    let branch = else_of boxed_stmt_of c.in-If.other in
    let here = of s _ (stmt.If (expr_of test) (boxed_stmt_of then) branch s.place) c.in-If.is (tree.if_is test then c.in-If.other s.place) in
    IfOk-weaker c.end_if.result _ (λ rest. rest.now ≡ behind (stmt_of s) places)
    (λ rest h. h
    ∙ (ap (drop (length (else_locals branch))) c.in_ok-rest-in-If.ensures.rest
    ∙ ((λ i. drop (length (else_locals branch)) (behind (stmt_of (c.deref-in-If.ensures i)) places))
    ∙ (drop-drop (length (else_locals branch)) (length (locals (boxed_stmt_of then))) places
    ∙ (ap (λ n. drop n places) (sym (length-append (locals (boxed_stmt_of then)) (else_locals branch)))
    ∙ ap (λ x. behind x places) (sym here))))))
    c.end_if.ensures.rest

pub lower_stmt-returns-in_ok-rest-in-If-clause-lowered : goal.lower_stmt-returns-in_ok-rest-in-If-clause-lowered
lower_stmt-returns-in_ok-rest-in-If-clause-lowered t c =
    let s = c.args.s.now in
    let If : StmtTree → Stmt = λ b. stmt.If (expr_of c.in-If.test) (stmt_of b) (else_of boxed_stmt_of c.in-If.other) s.place in
    let here : stmt_of s ≡ If c.deref-in-If.result.now = of s _ (If c.in-If.then.value) c.in-If.is (tree.if_is c.in-If.test c.in-If.then c.in-If.other s.place) ∙ ap If (sym c.deref-in-If.ensures) in
    let old = c.args.asm.now in
    let before = c.args.names.now in
    let after = c.lower_inner.new.names in
    let functions = functions_in before in
    let scope = scopes before in
    let result = ty_of c.args.gives.now in
    let places = c.args.places.now in
    let to = c.args.to.now in
    let e = expr_of c.in-If.test in
    let b = stmt_of c.deref-in-If.result.now in
    let other = else_of boxed_stmt_of c.in-If.other in
    let m1 = c.begin_if.new.asm in
    let m2 = c.lower_inner.new.asm in
    let new = c.end_if.new.asm in
    let e1 = c.lower_inner.new.ends in
    let e2 = c.end_if.new.ends in
    let same = functions_same before after c.in_ok-rest-in-If.ensures.functions in
    let named = scope_same before after c.in_ok-rest-in-If.ensures.same in
    let own = c.in_ok-labels-in-If.labels.other in
    subst (λ x. OnOk c.end_if.result (Writes (stmt_part functions scope result places to x) old new c.args.ends.now e2)) (sym here)
    (on_ok_weaker c.end_if.result
    (λ h. if_step functions scope result places to e b other s.place old m1 m2 new c.args.ends.now e1 e2
    c.in_ok-labels-in-If.ensures.lowered c.in_ok-rest-in-If.ensures.lowered
    (subst (λ l. IsWritten l (l + 2) (other_part functions scope result (behind b places) to l other (length m2.places)) m2 new e1 e2) c.in_ok-labels-in-If.ensures.other
    (subst (λ part. IsWritten own (own + 2) part m2 new e1 e2)
    (λ i. other_part (same i) (λ ds. named ds i) result (c.in_ok-rest-in-If.ensures.rest i) to own other (length m2.places)) h)))
    c.end_if.ensures.lowered)
