use Rattle.std.proofs.Common.{◌≡◌, ℕ, ◌+◌, List, [], ◌∷◌, ◌++◌, Option, Vec, Global, Result, length, map, drop, ap, sym, subst, ◌∙◌, append-nil, append_assoc, length-append}
use Rattle.std.specs.Option.{option_map}
use Rattle.std.specs.Prelude.{Box, IfOk, OnOk}
use Rattle.std.proofs.lemmas.Result.{IfOk-weaker}
use Rattle.std.proofs.lemmas.List.{drop_all, drop-drop, map-append}
use Rattle.c_tree.proofs.TreeLists.{cut_at}
use Rattle.c_tree.proofs.ViewLemmas as tree
use Rattle.bop_ends.specs.declared.fault.OutOfMemory.{OutOfMemory}
use Rattle.c_tree.specs.declared.tree.Stmt.{Stmt as StmtTree}
use Rattle.c_tree.specs.declared.tree.StmtKind.{StmtKind}
use Rattle.c_tree.specs.declared.tree.StmtKind.TheVariants as kind
use Rattle.c_tree.specs.declared.tree.Var.{Var as VarTree}
use Rattle.c_tree.specs.Ty.{Ty}
use Rattle.c_tree.specs.Stmt.{Stmt, Stmts}
use Rattle.c_tree.specs.Stmt as stmt
use Rattle.c_tree.specs.View.{expr_of, var_of, first_of, boxed_stmt_of, else_of, ty_of, stmt_kind_of, stmt_of, stmts_of}
use Rattle.c_layout.specs.Frames.{locals, else_locals, body_locals}
use Rattle.c_resolve.specs.declared.names.Names.{Names as Listed}
use Rattle.c_resolve.specs.declared.statement.Acted.{Acted}
use Rattle.c_semantics.specs.Run.{◌>>=◌}
use Rattle.c_semantics.specs.Exec.{with_locals, named_behind, next, begin, beginning_own, step as step_of, test as test_of, behind, statement_locals, block_locals, exec, exec_else, exec_all}
use Rattle.c_semantics.specs.Names.{Names}
use Rattle.c_resolve.specs.private.Acted.{AreNames, IsActionOf}
use Rattle.c_resolve.specs.Actions.{if_run, while_run, do_run, for_run, action_run}
use Rattle.c_resolve.specs.private.Resolved.{scope}
use Rattle.c_resolve.specs.DeclaredNames.{blocks_in, names_at}
use Rattle.c_resolve.proofs.Acting.{in_order_then, in_order_push, in_order_is}
use Rattle.c_resolve.proofs.BlockNamesLemmas.{names_entered}
use Rattle.c_tree.proofs.BlocksLemmas.{left_is, entered_long, from_entered}
use Rattle.c_resolve.proofs.ActionViews.{block_is, while_is, do_is, for_is}
use Rattle.c_resolve.proofs.statement.+statement.Goals as goal

-- a statement, by its kind
of : (s : StmtTree) (kind : StmtKind) (x : Stmt) → s.kind ≡ kind → stmt_kind_of kind s.place ≡ x
    → stmt_of s ≡ x
of s kind x is same = tree.statement_is s ∙ (ap (λ k. stmt_kind_of k s.place) is ∙ same)

abbrev Means : Listed → List ℕ → Ty → Result Acted OutOfMemory → Stmt → Type 0
Means names places gives result s = IfOk result (λ acted. IsActionOf names places gives acted.action s)

abbrev Leaves : List ℕ → Result Acted OutOfMemory → Stmt → Type 0
Leaves places result s = IfOk result (λ acted. acted.rest.now ≡ behind s places)

pub resolve_else-returns-in-None-clause-rest : goal.resolve_else-returns-in-None-clause-rest
resolve_else-returns-in-None-clause-rest t c =
    ap (λ (o : Option (Box StmtTree Global)). drop (length (else_locals (else_of boxed_stmt_of o))) c.args.places.now) (sym c.in-None.is)

pub resolve_else-returns-in-None-clause-means : goal.resolve_else-returns-in-None-clause-means
resolve_else-returns-in-None-clause-means t c = λ context.
    ap (λ (o : Option (Box StmtTree Global)). exec_else context.input context.calls (ty_of c.args.gives.now) (scope context c.args.names.now) c.args.places.now (else_of boxed_stmt_of o)) (sym c.in-None.is)

pub resolve_else-returns-in_ok-action-in-Some-clause-rest : goal.resolve_else-returns-in_ok-action-in-Some-clause-rest
resolve_else-returns-in_ok-action-in-Some-clause-rest t c =
    let places = c.args.places.now in
    c.in_ok-acted-in-Some.ensures.rest
    ∙ ((λ i. behind (stmt_of (c.deref.ensures i)) places)
    ∙ ap (λ (o : Option (Box StmtTree Global)). drop (length (else_locals (else_of boxed_stmt_of o))) places) (sym c.in-Some.is))

pub resolve_else-returns-in_ok-action-in-Some-clause-means : goal.resolve_else-returns-in_ok-action-in-Some-clause-means
resolve_else-returns-in_ok-action-in-Some-clause-means t c = λ context.
    let places = c.args.places.now in
    let gives = ty_of c.args.gives.now in
    let names = scope context c.args.names.now in
    ap (action_run context) c.in_ok-action-in-Some.ensures.ok
    ∙ (c.in_ok-acted-in-Some.ensures.means context
    ∙ ((λ i. exec context.input context.calls gives names places (stmt_of (c.deref.ensures i)))
    ∙ ap (λ (o : Option (Box StmtTree Global)). exec_else context.input context.calls gives names places (else_of boxed_stmt_of o)) (sym c.in-Some.is)))

pub resolve_turn-returns-clause-body : goal.resolve_turn-returns-clause-body
resolve_turn-returns-clause-body t c = λ context.
    ap (action_run context) c.in_ok-body.ensures.ok ∙ c.in_ok-acted.ensures.means context

pub resolve_inner-leave-requires : goal.resolve_inner-leave-requires
resolve_inner-leave-requires t c =
    let old = blocks_in c.args.names.now in
    let end = blocks_in c.resolve_stmt.new.names in
    entered_long old end (from_entered old (blocks_in c.enter.new.self) end c.in_ok-enter.ensures.entered c.in_ok-acted.ensures.kept)

pub resolve_inner-returns-clause-same : goal.resolve_inner-returns-clause-same
resolve_inner-returns-clause-same t c =
    let old = blocks_in c.args.names.now in
    let end = blocks_in c.resolve_stmt.new.names in
    left_is old end (blocks_in c.leave.new.self) (from_entered old (blocks_in c.enter.new.self) end c.in_ok-enter.ensures.entered c.in_ok-acted.ensures.kept) c.leave.ensures

pub resolve_inner-returns-clause-means : goal.resolve_inner-returns-clause-means
resolve_inner-returns-clause-means t c = λ context.
    c.in_ok-acted.ensures.means context
    ∙ ap (λ (known : Names). exec context.input context.calls (ty_of c.args.gives.now) known c.args.places.now (stmt_of c.args.s.now))
    (names_entered context.definitions (blocks_in c.args.names.now) (blocks_in c.enter.new.self) c.in_ok-enter.ensures.entered)

pub resolve_block-leave-requires : goal.resolve_block-leave-requires
resolve_block-leave-requires t c =
    let old = blocks_in c.args.names.now in
    let end = blocks_in c.resolve_body.new.names in
    entered_long old end (from_entered old (blocks_in c.enter.new.self) end c.in_ok-enter.ensures.entered c.in_ok-body.ensures.kept)

pub resolve_block-returns-clause-same : goal.resolve_block-returns-clause-same
resolve_block-returns-clause-same t c =
    let old = blocks_in c.args.names.now in
    let end = blocks_in c.resolve_body.new.names in
    left_is old end (blocks_in c.leave.new.self) (from_entered old (blocks_in c.enter.new.self) end c.in_ok-enter.ensures.entered c.in_ok-body.ensures.kept) c.leave.ensures

pub resolve_block-returns-clause-means : goal.resolve_block-returns-clause-means
resolve_block-returns-clause-means t c = λ at context.
    let body = stmts_of c.args.body.now in
    let places = c.args.places.now in
    block_is context c.in_ok-body.body.locals c.in_ok-body.body.actions
    ∙ ((λ i. with_locals (c.in_ok-body.ensures.locals i) (c.in_ok-body.ensures.means context i))
    ∙ ap (λ (known : Names). with_locals (block_locals places body) (exec_all context.input context.calls (ty_of c.args.gives.now) known places body))
    (names_entered context.definitions (blocks_in c.args.names.now) (blocks_in c.enter.new.self) c.in_ok-enter.ensures.entered))

pub resolve_for-leave-requires : goal.resolve_for-leave-requires
resolve_for-leave-requires t c =
    let old = blocks_in c.args.names.now in
    let end = blocks_in c.resolve_stmt.new.names in
    entered_long old end (from_entered old (blocks_in c.enter.new.self) end c.in_ok-enter.ensures.entered (c.in_ok-acted.ensures.kept ∙ c.in_ok-head.ensures.kept))

pub resolve_for-returns-clause-same : goal.resolve_for-returns-clause-same
resolve_for-returns-clause-same t c =
    let old = blocks_in c.args.names.now in
    let end = blocks_in c.resolve_stmt.new.names in
    left_is old end (blocks_in c.leave.new.self) (from_entered old (blocks_in c.enter.new.self) end c.in_ok-enter.ensures.entered (c.in_ok-acted.ensures.kept ∙ c.in_ok-head.ensures.kept)) c.leave.ensures

pub resolve_for-returns-clause-means : goal.resolve_for-returns-clause-means
resolve_for-returns-clause-means t c = λ at context.
    let f = first_of c.args.first.now in
    let places = c.args.places.now in
    let gives = ty_of c.args.gives.now in
    let inside = names_entered context.definitions (blocks_in c.args.names.now) (blocks_in c.enter.new.self) c.in_ok-enter.ensures.entered in
    let own = c.in_ok-head.ensures.own in
    let begins = c.in_ok-head.ensures.begins context in
    let test = c.in_ok-head.ensures.test context in
    let step = c.in_ok-head.ensures.step context in
    let named = c.in_ok-head.ensures.names context.definitions in
    let inner = c.past-inner.ensures ∙ ap (λ n. drop n places) c.first_count.ensures in
    let acts = ap (action_run context) c.in_ok-body.ensures.ok ∙ c.in_ok-acted.ensures.means context in
    for_is context c.in_ok-head.head.own c.in_ok-head.head.begins c.in_ok-head.head.test c.in_ok-head.head.step c.in_ok-body.body
    ∙ ((λ i. for_run (own i) (begins i) (test i) (step i) (acts i))
    ∙ ((λ i. for_run (beginning_own places f) (begin context.input context.calls (scope context c.enter.new.self) places f) (test_of context.input context.calls (named i) (option_map expr_of c.args.test.now)) (step_of context.input context.calls (named i) (option_map expr_of c.args.step.now))
    (exec context.input context.calls gives (named i) (inner i) (stmt_of c.args.body.now)))
    ∙ ap (λ (known : Names). exec context.input context.calls gives known places (stmt.For f (option_map expr_of c.args.test.now) (option_map expr_of c.args.step.now) (stmt_of c.args.body.now) at)) inside))

pub resolve_stmt-returns-in_ok-action-in-Expr-clause-means : goal.resolve_stmt-returns-in_ok-action-in-Expr-clause-means
resolve_stmt-returns-in_ok-action-in-Expr-clause-means t c =
    let s = c.args.s.now in
    let here = of s _ (stmt.Expr (expr_of c.in-Expr.e) s.place) c.in-Expr.is (tree.expr_is c.in-Expr.e s.place) in
    subst (IsActionOf c.args.names.now c.args.places.now (ty_of c.args.gives.now) c.in_ok-action-in-Expr.action) (sym here) (c.in_ok-action-in-Expr.ensures c.args.places.now c.args.gives.now s.place)

-- a declaration, of what the tree has
vars_here : (s : StmtTree) (vars : Vec VarTree Global) (declared : List VarTree)
    → s.kind ≡ kind.Vars vars → declared ≡ vars.items
    → stmt.Vars (map var_of declared) s.place ≡ stmt_of s
vars_here s vars declared is same =
    ap (λ vs. stmt.Vars (map var_of vs) s.place) same
    ∙ sym (of s (kind.Vars vars) (stmt.Vars (map var_of vars.items) s.place) is (tree.vars_is vars s.place))

pub resolve_stmt-returns-in-Vars-clause-names : goal.resolve_stmt-returns-in-Vars-clause-names
resolve_stmt-returns-in-Vars-clause-names t c =
    let here = vars_here c.args.s.now c.in-Vars.vars c.deref.result.now c.in-Vars.is c.deref.ensures.value in
    subst (λ x. OnOk c.resolve_vars_stmt.result (AreNames c.args.names.now c.resolve_vars_stmt.new.names (named_behind c.args.places.now x))) here c.resolve_vars_stmt.ensures.names

pub resolve_stmt-returns-in-Vars-clause-own : goal.resolve_stmt-returns-in-Vars-clause-own
resolve_stmt-returns-in-Vars-clause-own t c =
    let here = vars_here c.args.s.now c.in-Vars.vars c.deref.result.now c.in-Vars.is c.deref.ensures.value in
    subst (λ x. IfOk c.resolve_vars_stmt.result (λ acted. acted.own.items ≡ statement_locals c.args.places.now x)) here c.resolve_vars_stmt.ensures.own

pub resolve_stmt-returns-in-Vars-clause-rest : goal.resolve_stmt-returns-in-Vars-clause-rest
resolve_stmt-returns-in-Vars-clause-rest t c =
    let here = vars_here c.args.s.now c.in-Vars.vars c.deref.result.now c.in-Vars.is c.deref.ensures.value in
    subst (Leaves c.args.places.now c.resolve_vars_stmt.result) here c.resolve_vars_stmt.ensures.rest

pub resolve_stmt-returns-in-Vars-clause-means : goal.resolve_stmt-returns-in-Vars-clause-means
resolve_stmt-returns-in-Vars-clause-means t c =
    let here = vars_here c.args.s.now c.in-Vars.vars c.deref.result.now c.in-Vars.is c.deref.ensures.value in
    subst (Means c.args.names.now c.args.places.now (ty_of c.args.gives.now) c.resolve_vars_stmt.result) here
    (IfOk-weaker c.resolve_vars_stmt.result _ (λ acted. IsActionOf c.args.names.now c.args.places.now (ty_of c.args.gives.now) acted.action (stmt.Vars (map var_of c.deref.result.now) c.args.s.now.place)) (λ acted acts. acts c.args.gives.now c.args.s.now.place) c.resolve_vars_stmt.ensures.means)

pub resolve_stmt-returns-in_ok-action-in-If-clause-rest : goal.resolve_stmt-returns-in_ok-action-in-If-clause-rest
resolve_stmt-returns-in_ok-action-in-If-clause-rest t c =
    let s = c.args.s.now in
    let places = c.args.places.now in
    let test = c.in-If.test in
    let then = c.in-If.then in
    let branch = else_of boxed_stmt_of c.in-If.other in
    let here = of s _ (stmt.If (expr_of test) (boxed_stmt_of then) branch s.place) c.in-If.is (tree.if_is test then c.in-If.other s.place) in
    c.in_ok-no-in-If.ensures.rest
    ∙ (ap (drop (length (else_locals branch))) c.in_ok-yes-in-If.ensures.rest
    ∙ ((λ i. drop (length (else_locals branch)) (behind (stmt_of (c.deref-in-If.ensures i)) places))
    ∙ (drop-drop (length (else_locals branch)) (length (locals (boxed_stmt_of then))) places
    ∙ (ap (λ n. drop n places) (sym (length-append (locals (boxed_stmt_of then)) (else_locals branch)))
    ∙ ap (λ x. behind x places) (sym here)))))

pub resolve_stmt-returns-in_ok-action-in-If-clause-means : goal.resolve_stmt-returns-in_ok-action-in-If-clause-means
resolve_stmt-returns-in_ok-action-in-If-clause-means t c = λ context.
    let s = c.args.s.now in
    let places = c.args.places.now in
    let gives = ty_of c.args.gives.now in
    let names = scope context c.args.names.now in
    let test = c.in-If.test in
    let then = c.in-If.then in
    let branch = else_of boxed_stmt_of c.in-If.other in
    let here = of s _ (stmt.If (expr_of test) (boxed_stmt_of then) branch s.place) c.in-If.is (tree.if_is test then c.in-If.other s.place) in
    let does = c.in_ok-test-in-If.ensures.means context in
    let first = c.deref-in-If.ensures in
    let acts = c.in_ok-yes-in-If.ensures.means context ∙ (λ i. exec context.input context.calls gives names places (stmt_of (first i))) in
    let others = c.in_ok-no-in-If.ensures.means context
    ∙ ((λ i. exec_else context.input context.calls gives (names_at context.definitions (c.in_ok-yes-in-If.ensures.same i)) (c.in_ok-yes-in-If.ensures.rest i) branch)
    ∙ (λ i. exec_else context.input context.calls gives names (behind (stmt_of (first i)) places) branch)) in
    c.in_ok-action-in-If.ensures context
    ∙ ((λ i. if_run (does i).value (acts i) (others i))
    ∙ ap (exec context.input context.calls gives names places) (sym here))

pub resolve_stmt-returns-in-Block-clause-means : goal.resolve_stmt-returns-in-Block-clause-means
resolve_stmt-returns-in-Block-clause-means t c =
    let s = c.args.s.now in
    let here = of s _ (stmt.Block (stmts_of c.in-Block.body.items) s.place) c.in-Block.is (tree.block_is c.in-Block.body s.place) in
    let same : stmt.Block (stmts_of c.deref-in-Block.result.now) s.place ≡ stmt_of s = ap (λ ss. stmt.Block (stmts_of ss) s.place) c.deref-in-Block.ensures.value ∙ sym here in
    subst (Means c.args.names.now c.args.places.now (ty_of c.args.gives.now) c.resolve_block.result) same (c.resolve_block.ensures.means s.place)

pub resolve_stmt-returns-in_ok-turn-in-While-clause-means : goal.resolve_stmt-returns-in_ok-turn-in-While-clause-means
resolve_stmt-returns-in_ok-turn-in-While-clause-means t c = λ context.
    let s = c.args.s.now in
    let runs = exec context.input context.calls (ty_of c.args.gives.now) (scope context c.args.names.now) c.args.places.now in
    let test = c.in-While.test in
    let here = of s _ (stmt.While (expr_of test) (boxed_stmt_of c.in-While.body) s.place) c.in-While.is (tree.while_is test c.in-While.body s.place) in
    let does = c.in_ok-turn-in-While.ensures.test context in
    let acts = c.in_ok-turn-in-While.ensures.body context in
    while_is context c.in_ok-turn-in-While.turn.test c.in_ok-turn-in-While.turn.body
    ∙ ((λ i. while_run (does i).value (acts i))
    ∙ (λ i. runs (stmt.While (expr_of test) (stmt_of (c.deref-in-While.ensures i)) s.place))
    ∙ ap runs (sym here))

pub resolve_stmt-returns-in_ok-turn-in-Do-clause-means : goal.resolve_stmt-returns-in_ok-turn-in-Do-clause-means
resolve_stmt-returns-in_ok-turn-in-Do-clause-means t c = λ context.
    let s = c.args.s.now in
    let runs = exec context.input context.calls (ty_of c.args.gives.now) (scope context c.args.names.now) c.args.places.now in
    let test = c.in-Do.test in
    let here = of s _ (stmt.Do (boxed_stmt_of c.in-Do.body) (expr_of test) s.place) c.in-Do.is (tree.do_is c.in-Do.body test s.place) in
    let does = c.in_ok-turn-in-Do.ensures.test context in
    let acts = c.in_ok-turn-in-Do.ensures.body context in
    do_is context c.in_ok-turn-in-Do.turn.body c.in_ok-turn-in-Do.turn.test
    ∙ ((λ i. do_run (acts i) (does i).value)
    ∙ (λ i. runs (stmt.Do (stmt_of (c.deref-in-Do.ensures i)) (expr_of test) s.place))
    ∙ ap runs (sym here))

pub resolve_stmt-returns-in-For-clause-rest : goal.resolve_stmt-returns-in-For-clause-rest
resolve_stmt-returns-in-For-clause-rest t c =
    let s = c.args.s.now in
    let For : StmtTree → Stmt = λ b. stmt.For (first_of c.in-For.first) (option_map expr_of c.in-For.test) (option_map expr_of c.in-For.step) (stmt_of b) s.place in
    let here = of s _ (For c.in-For.body.value) c.in-For.is (tree.for_is c.in-For.first c.in-For.test c.in-For.step c.in-For.body s.place) in
    subst (Leaves c.args.places.now c.resolve_for.result) (ap For c.deref-in-For.ensures ∙ sym here) (c.resolve_for.ensures.rest s.place)

pub resolve_stmt-returns-in-For-clause-means : goal.resolve_stmt-returns-in-For-clause-means
resolve_stmt-returns-in-For-clause-means t c =
    let s = c.args.s.now in
    let For : StmtTree → Stmt = λ b. stmt.For (first_of c.in-For.first) (option_map expr_of c.in-For.test) (option_map expr_of c.in-For.step) (stmt_of b) s.place in
    let here = of s _ (For c.in-For.body.value) c.in-For.is (tree.for_is c.in-For.first c.in-For.test c.in-For.step c.in-For.body s.place) in
    subst (Means c.args.names.now c.args.places.now (ty_of c.args.gives.now) c.resolve_for.result) (ap For c.deref-in-For.ensures ∙ sym here) (c.resolve_for.ensures.means s.place)

pub resolve_stmt-returns-in_ok-action-in-Return-clause-means : goal.resolve_stmt-returns-in_ok-action-in-Return-clause-means
resolve_stmt-returns-in_ok-action-in-Return-clause-means t c =
    let s = c.args.s.now in
    let here = of s _ (stmt.Return (option_map expr_of c.in-Return.value) s.place) c.in-Return.is (tree.return_is c.in-Return.value s.place) in
    subst (IsActionOf c.args.names.now c.args.places.now (ty_of c.args.gives.now) c.in_ok-action-in-Return.action) (sym here) (c.in_ok-action-in-Return.ensures c.args.places.now s.place)

pub resolve_body-loop-s-preserved : goal.resolve_body-loop-s-preserved
resolve_body-loop-s-preserved t c =
    let body = c.args.body.now in
    let i = c.loop-s.s-index in
    let item = c.s-item.result in
    let s = stmt_of item in
    let ss = stmts_of (drop (i + 1) body) in
    let gives = ty_of c.args.gives.now in
    let rest = c.loop-s.rest.now in
    let later = c.in_ok-acted.acted.rest.now in
    let before = c.loop-s.names in
    let after = c.resolve_stmt.new.names in
    let own = c.loop-s.locals.items in
    let here : stmts_of (drop i body) ≡ stmt.More s ss = ap stmts_of (cut_at body i item c.loop-s-test.true c.s-item.is) in
    record {
      kept = c.in_ok-acted.ensures.kept ∙ c.loop-s.invariant.kept;
      rest =
          ap (drop (length (body_locals ss))) c.in_ok-acted.ensures.rest
          ∙ (drop-drop (length (body_locals ss)) (length (locals s)) rest
          ∙ (ap (λ n. drop n rest) (sym (length-append (locals s) (body_locals ss)))
          ∙ (ap (λ (all : Stmts). drop (length (body_locals all)) rest) (sym here) ∙ c.loop-s.invariant.rest)));
      locals =
          ap (λ ls. ls ++ block_locals later ss) c.in_ok-extend_from_slice.ensures.items
          ∙ (λ j. (own ++ (c.deref.ensures.value ∙ c.in_ok-acted.ensures.own) j) ++ block_locals (c.in_ok-acted.ensures.rest j) ss)
          ∙ append_assoc own (statement_locals rest s) (block_locals (behind s rest) ss)
          ∙ ap (λ (all : Stmts). own ++ block_locals rest all) (sym here) ∙ c.loop-s.invariant.locals;
      means = λ context.
          let act = action_run context in
          let runs = map act c.loop-s.actions.items in
          let does = c.in_ok-acted.ensures.means context in
          let named = c.in_ok-acted.ensures.names context.definitions in
          let go = exec_all context.input context.calls gives (scope context after) later ss in
          ap (λ rs. in_order_then rs go) (ap (map act) c.in_ok-push.ensures.items ∙ map-append act c.loop-s.actions.items (c.in_ok-acted.acted.action ∷ []))
          ∙ (in_order_push runs (act c.in_ok-acted.acted.action) go
          ∙ (ap (in_order_then runs) (λ j. does j >>= λ f. next f (exec_all context.input context.calls gives (named j) (c.in_ok-acted.ensures.rest j) ss))
          ∙ (ap (λ (all : Stmts). in_order_then runs (exec_all context.input context.calls gives (scope context before) rest all)) (sym here)
          ∙ c.loop-s.invariant.means context)));
    }

pub resolve_body-returns-clause-rest : goal.resolve_body-returns-clause-rest
resolve_body-returns-clause-rest t c =
    let left = drop_all c.loop-s.s-index c.args.body.now c.loop-s-test.false in
    ap (λ ss. drop (length (body_locals (stmts_of ss))) c.loop-s.rest.now) (sym left) ∙ c.loop-s.invariant.rest

pub resolve_body-returns-clause-locals : goal.resolve_body-returns-clause-locals
resolve_body-returns-clause-locals t c =
    let own = c.loop-s.locals.items in
    let left = drop_all c.loop-s.s-index c.args.body.now c.loop-s-test.false in
    sym (append-nil own) ∙ (ap (λ ss. own ++ block_locals c.loop-s.rest.now (stmts_of ss)) (sym left) ∙ c.loop-s.invariant.locals)

pub resolve_body-returns-clause-means : goal.resolve_body-returns-clause-means
resolve_body-returns-clause-means t c = λ context.
    let runs = map (action_run context) c.loop-s.actions.items in
    let left = drop_all c.loop-s.s-index c.args.body.now c.loop-s-test.false in
    in_order_is runs
    ∙ (ap (λ ss. in_order_then runs (exec_all context.input context.calls (ty_of c.args.gives.now) (scope context c.loop-s.names) c.loop-s.rest.now (stmts_of ss))) (sym left)
    ∙ c.loop-s.invariant.means context)
