use Rattle.std.proofs.Common.{◌≡◌, ℕ, List, ◌<◌, ◌≤◌, ◌∷◌, ◌++◌, ◌+◌, [], length, get_or, take, drop, map, ap, sym, subst, ◌∙◌, arith}
use Rattle.std.proofs.Math.Bool.{and_assoc}
use Rattle.std.proofs.lemmas.Grind.{common_steps}
use Rattle.std.proofs.lemmas.List.{map-append, map_more, take_all}
use Rattle.c_tree.specs.declared.tree.Expr.{Expr as ExprTree, size-Expr}
use Rattle.c_tree.specs.declared.tree.ExprKind.{ExprKind}
use Rattle.c_tree.specs.Rules.{is_nought, is_place}
use Rattle.c_tree.specs.Expr.{Expr}
use Rattle.c_tree.specs.Expr as expr
use Rattle.c_tree.specs.View.{expr_of, exprs_of, expr_kind_of, ty_of}
use Rattle.c_tree.proofs.TreeLists.{cut_at}
use Rattle.c_tree.proofs.ViewLemmas as tree
use Rattle.c_rules.proofs.Descent.{risen, at_top}
use Rattle.c_rules.specs.declared.spine.Along.TheVariants.{Operands}
use Rattle.c_semantics.specs.Eval.{call}
use Rattle.c_resolve.specs.Nodes.{Runs, runs, called, all_values}
use Rattle.c_resolve.specs.declared.node.NodeKind.TheVariants as k
use Rattle.c_resolve.specs.private.Resolved.{scope, runs_of, IsNodeOf}
use Rattle.c_resolve.specs.DeclaredNames.{IsTypeOf}
use Rattle.c_resolve.proofs.ResolvedLemmas.{all_made}
use Rattle.c_resolve.proofs.Over.{AreNodesOf, unary_over, step_over, cast_over, cast_typed, binary_over, binary_typed, assign_over, assign_typed, index_over, index_typed, conditional_over, conditional_typed}
use Rattle.c_resolve.proofs.ActionViews as node
use Rattle.c_resolve.proofs.expression.+resolving.Goals as goal

-- an expression, by its kind
of : (e : ExprTree) (kind : ExprKind) (x : Expr) → e.kind ≡ kind → expr_kind_of kind e.place ≡ x
    → expr_of e ≡ x
of e kind x is same = tree.expression_is e ∙ (ap (λ k. expr_kind_of k e.place) is ∙ same)

pub resolve_above-returns-in-Unary-clause-means : goal.resolve_above-returns-in-Unary-clause-means
resolve_above-returns-in-Unary-clause-means t c =
    let e = c.args.e.now in
    let a = c.in-Unary.a in
    let here = of e _ (expr.Unary c.in-Unary.op (expr_of a.value) e.place) c.in-Unary.is (tree.unary_is c.in-Unary.op a e.place) in
    let place : c.is_place.result ≡ is_place (expr_of a.value) = grind (arith, common_steps) in
    unary_over c.args.names.now c.args.first (expr_of e) c.requires.ty c.requires.means c.in-Unary.op c.is_place.result (expr_of a.value) e.place here place c.build_unary.result c.build_unary.ensures.ty c.build_unary.ensures.means

pub resolve_above-returns-in-Step-clause-means : goal.resolve_above-returns-in-Step-clause-means
resolve_above-returns-in-Step-clause-means t c =
    let e = c.args.e.now in
    let a = c.in-Step.a in
    let here = of e _ (expr.Step c.in-Step.how (expr_of a.value) e.place) c.in-Step.is (tree.step_is c.in-Step.how a e.place) in
    step_over c.args.names.now c.args.first (expr_of e) c.requires.ty c.requires.means c.in-Step.how (expr_of a.value) e.place here c.build_step.result _ c.build_step.ensures.ty c.build_step.ensures.means

pub resolve_above-returns-in-Cast-clause-means : goal.resolve_above-returns-in-Cast-clause-means
resolve_above-returns-in-Cast-clause-means t c =
    let e = c.args.e.now in
    let a = c.in-Cast.field-1 in
    let here = of e _ (expr.Cast (ty_of c.in-Cast.to) (expr_of a.value) e.place) c.in-Cast.is (tree.cast_is c.in-Cast.to a e.place) in
    cast_over c.args.names.now c.args.first (expr_of e) c.requires.ty c.requires.means (ty_of c.in-Cast.to) (expr_of a.value) e.place here c.build_cast.result _ c.build_cast.ensures.ty c.build_cast.ensures.means

pub resolve_above-returns-in_ok-second-in-Binary-clause-means : goal.resolve_above-returns-in_ok-second-in-Binary-clause-means
resolve_above-returns-in_ok-second-in-Binary-clause-means t c =
    let e = c.args.e.now in
    let names = c.args.names.now in
    let a = c.in-Binary.a in
    let b = c.in-Binary.b in
    let second = c.in_ok-second-in-Binary.second in
    let here = of e _ (expr.Binary c.in-Binary.op (expr_of a.value) (expr_of b.value) e.place) c.in-Binary.is (tree.binary_is c.in-Binary.op a b e.place) in
    let ty = subst (λ x. IsTypeOf names second.ty (expr_of x)) c.deref-in-Binary.ensures c.in_ok-second-in-Binary.ensures.ty in
    let means = subst (λ x. IsNodeOf names second.node (expr_of x)) c.deref-in-Binary.ensures c.in_ok-second-in-Binary.ensures.means in
    binary_over names c.args.first (expr_of e) c.requires.ty c.requires.means second (expr_of b.value) ty means c.in-Binary.op (expr_of a.value) e.place here c.build_binary.result _ c.build_binary.ensures.ty c.build_binary.ensures.means

pub resolve_above-returns-in_ok-right-in-Conditional-clause-means : goal.resolve_above-returns-in_ok-right-in-Conditional-clause-means
resolve_above-returns-in_ok-right-in-Conditional-clause-means t c =
    let e = c.args.e.now in
    let names = c.args.names.now in
    let test = c.in-Conditional.field-0 in
    let a = c.in-Conditional.a in
    let b = c.in-Conditional.b in
    let left = c.in_ok-left-in-Conditional.left in
    let right = c.in_ok-right-in-Conditional.right in
    let here = of e _ (expr.Conditional (expr_of test.value) (expr_of a.value) (expr_of b.value) e.place) c.in-Conditional.is (tree.conditional_is test a b e.place) in
    let ty = subst (λ x. IsTypeOf names left.ty (expr_of x)) c.deref-in-Conditional.ensures c.in_ok-left-in-Conditional.ensures.ty in
    let means = subst (λ x. IsNodeOf names left.node (expr_of x)) c.deref-in-Conditional.ensures c.in_ok-left-in-Conditional.ensures.means in
    let last_ty = subst (λ x. IsTypeOf names right.ty (expr_of x)) c.deref-in-Conditional-2.ensures c.in_ok-right-in-Conditional.ensures.ty in
    let last = subst (λ x. IsNodeOf names right.node (expr_of x)) c.deref-in-Conditional-2.ensures c.in_ok-right-in-Conditional.ensures.means in
    conditional_over names c.args.first (expr_of e) c.requires.ty c.requires.means left (expr_of a.value) ty means right (expr_of b.value) last_ty last (expr_of test.value) e.place here c.build_conditional.result _ c.build_conditional.ensures.ty c.build_conditional.ensures.means

pub resolve_above-returns-in_ok-second-in-Assign-clause-means : goal.resolve_above-returns-in_ok-second-in-Assign-clause-means
resolve_above-returns-in_ok-second-in-Assign-clause-means t c =
    let e = c.args.e.now in
    let names = c.args.names.now in
    let a = c.in-Assign.a in
    let b = c.in-Assign.b in
    let second = c.in_ok-second-in-Assign.second in
    let here = of e _ (expr.Assign c.in-Assign.how (expr_of a.value) (expr_of b.value) e.place) c.in-Assign.is (tree.assign_is c.in-Assign.how a b e.place) in
    let ty = subst (λ x. IsTypeOf names second.ty (expr_of x)) c.deref-in-Assign.ensures c.in_ok-second-in-Assign.ensures.ty in
    let means = subst (λ x. IsNodeOf names second.node (expr_of x)) c.deref-in-Assign.ensures c.in_ok-second-in-Assign.ensures.means in
    assign_over names c.args.first (expr_of e) c.requires.ty c.requires.means second (expr_of b.value) ty means c.in-Assign.how (expr_of a.value) e.place here c.build_assign.result _ c.build_assign.ensures.ty c.build_assign.ensures.means

pub resolve_above-returns-in_ok-second-in-Index-clause-means : goal.resolve_above-returns-in_ok-second-in-Index-clause-means
resolve_above-returns-in_ok-second-in-Index-clause-means t c =
    let e = c.args.e.now in
    let names = c.args.names.now in
    let a = c.in-Index.field-0 in
    let b = c.in-Index.b in
    let second = c.in_ok-second-in-Index.second in
    let here = of e _ (expr.Index (expr_of a.value) (expr_of b.value) e.place) c.in-Index.is (tree.index_is a b e.place) in
    let ty = subst (λ x. IsTypeOf names second.ty (expr_of x)) c.deref-in-Index.ensures c.in_ok-second-in-Index.ensures.ty in
    let means = subst (λ x. IsNodeOf names second.node (expr_of x)) c.deref-in-Index.ensures c.in_ok-second-in-Index.ensures.means in
    index_over names c.args.first (expr_of e) c.requires.ty c.requires.means second (expr_of b.value) ty means (expr_of a.value) e.place here c.build_index.result c.build_index.ensures.ty c.build_index.ensures.means

pub resolve_above-returns-in-Cast-clause-ty : goal.resolve_above-returns-in-Cast-clause-ty
resolve_above-returns-in-Cast-clause-ty t c =
    let e = c.args.e.now in
    let a = c.in-Cast.field-1 in
    let here = of e _ (expr.Cast (ty_of c.in-Cast.to) (expr_of a.value) e.place) c.in-Cast.is (tree.cast_is c.in-Cast.to a e.place) in
    cast_typed c.args.names.now c.args.first (expr_of e) c.requires.ty c.requires.means (ty_of c.in-Cast.to) (expr_of a.value) e.place here c.build_cast.result c.build_cast.ensures.ty

pub resolve_above-returns-in_ok-second-in-Binary-clause-ty : goal.resolve_above-returns-in_ok-second-in-Binary-clause-ty
resolve_above-returns-in_ok-second-in-Binary-clause-ty t c =
    let e = c.args.e.now in
    let names = c.args.names.now in
    let a = c.in-Binary.a in
    let b = c.in-Binary.b in
    let second = c.in_ok-second-in-Binary.second in
    let here = of e _ (expr.Binary c.in-Binary.op (expr_of a.value) (expr_of b.value) e.place) c.in-Binary.is (tree.binary_is c.in-Binary.op a b e.place) in
    let ty = subst (λ x. IsTypeOf names second.ty (expr_of x)) c.deref-in-Binary.ensures c.in_ok-second-in-Binary.ensures.ty in
    let means = subst (λ x. IsNodeOf names second.node (expr_of x)) c.deref-in-Binary.ensures c.in_ok-second-in-Binary.ensures.means in
    let left : c.is_nought.result ≡ is_nought (expr_of a.value) = grind (arith, common_steps) in
    let right : c.is_nought-in-Binary.result ≡ is_nought (expr_of b.value) = grind (arith, common_steps) in
    binary_typed names c.args.first (expr_of e) c.requires.ty c.requires.means second (expr_of b.value) ty means c.in-Binary.op _ _ (expr_of a.value) e.place here left right c.build_binary.result c.build_binary.ensures.ty

pub resolve_above-returns-in_ok-right-in-Conditional-clause-ty : goal.resolve_above-returns-in_ok-right-in-Conditional-clause-ty
resolve_above-returns-in_ok-right-in-Conditional-clause-ty t c =
    let e = c.args.e.now in
    let names = c.args.names.now in
    let test = c.in-Conditional.field-0 in
    let a = c.in-Conditional.a in
    let b = c.in-Conditional.b in
    let left = c.in_ok-left-in-Conditional.left in
    let right = c.in_ok-right-in-Conditional.right in
    let here = of e _ (expr.Conditional (expr_of test.value) (expr_of a.value) (expr_of b.value) e.place) c.in-Conditional.is (tree.conditional_is test a b e.place) in
    let ty = subst (λ x. IsTypeOf names left.ty (expr_of x)) c.deref-in-Conditional.ensures c.in_ok-left-in-Conditional.ensures.ty in
    let means = subst (λ x. IsNodeOf names left.node (expr_of x)) c.deref-in-Conditional.ensures c.in_ok-left-in-Conditional.ensures.means in
    let last_ty = subst (λ x. IsTypeOf names right.ty (expr_of x)) c.deref-in-Conditional-2.ensures c.in_ok-right-in-Conditional.ensures.ty in
    let last = subst (λ x. IsNodeOf names right.node (expr_of x)) c.deref-in-Conditional-2.ensures c.in_ok-right-in-Conditional.ensures.means in
    let nought : c.is_nought-in-Conditional.result ≡ is_nought (expr_of a.value) = grind (arith, common_steps) in
    let last_nought : c.is_nought-in-Conditional-2.result ≡ is_nought (expr_of b.value) = grind (arith, common_steps) in
    conditional_typed names c.args.first (expr_of e) c.requires.ty c.requires.means left (expr_of a.value) ty means right (expr_of b.value) last_ty last _ _ (expr_of test.value) e.place here nought last_nought c.build_conditional.result c.build_conditional.ensures.ty

pub resolve_above-returns-in_ok-second-in-Assign-clause-ty : goal.resolve_above-returns-in_ok-second-in-Assign-clause-ty
resolve_above-returns-in_ok-second-in-Assign-clause-ty t c =
    let e = c.args.e.now in
    let names = c.args.names.now in
    let a = c.in-Assign.a in
    let b = c.in-Assign.b in
    let second = c.in_ok-second-in-Assign.second in
    let here = of e _ (expr.Assign c.in-Assign.how (expr_of a.value) (expr_of b.value) e.place) c.in-Assign.is (tree.assign_is c.in-Assign.how a b e.place) in
    let ty = subst (λ x. IsTypeOf names second.ty (expr_of x)) c.deref-in-Assign.ensures c.in_ok-second-in-Assign.ensures.ty in
    let means = subst (λ x. IsNodeOf names second.node (expr_of x)) c.deref-in-Assign.ensures c.in_ok-second-in-Assign.ensures.means in
    let place : c.is_place-in-Assign.result ≡ is_place (expr_of a.value) = grind (arith, common_steps) in
    let nought : c.is_nought-in-Assign.result ≡ is_nought (expr_of b.value) = grind (arith, common_steps) in
    assign_typed names c.args.first (expr_of e) c.requires.ty c.requires.means second (expr_of b.value) ty means c.in-Assign.how _ _ (expr_of a.value) e.place here place nought c.build_assign.result c.build_assign.ensures.ty

pub resolve_above-returns-in_ok-second-in-Index-clause-ty : goal.resolve_above-returns-in_ok-second-in-Index-clause-ty
resolve_above-returns-in_ok-second-in-Index-clause-ty t c =
    let e = c.args.e.now in
    let names = c.args.names.now in
    let a = c.in-Index.field-0 in
    let b = c.in-Index.b in
    let second = c.in_ok-second-in-Index.second in
    let here = of e _ (expr.Index (expr_of a.value) (expr_of b.value) e.place) c.in-Index.is (tree.index_is a b e.place) in
    let ty = subst (λ x. IsTypeOf names second.ty (expr_of x)) c.deref-in-Index.ensures c.in_ok-second-in-Index.ensures.ty in
    let means = subst (λ x. IsNodeOf names second.node (expr_of x)) c.deref-in-Index.ensures c.in_ok-second-in-Index.ensures.means in
    index_typed names c.args.first (expr_of e) c.requires.ty c.requires.means second (expr_of b.value) ty means (expr_of a.value) e.place here c.build_index.result c.build_index.ensures.ty

cut : (args : List ExprTree) (i : ℕ) (item : ExprTree) → i < length args
    → item ≡ get_or args i item
    → exprs_of (drop i args) ≡ expr.More (expr_of item) (exprs_of (drop (i + 1) args))
cut args i item h e = ap exprs_of (cut_at args i item h e)

pub resolve_arguments-loop-arg-preserved : goal.resolve_arguments-loop-arg-preserved
resolve_arguments-loop-arg-preserved t c =
    let args = c.args.args.now in
    let i = c.loop-arg.arg-index in
    let item = c.arg-item.result in
    let names = c.args.names.now in
    let here = cut args i item c.loop-arg-test.true c.arg-item.is in
    record {
      taken = λ definitions.
          let before = c.loop-arg.invariant.taken definitions in
          let ty = c.in_ok-value.ensures.ty definitions in
          grind (arith, common_steps, here, before, ty, and_assoc);
      means = λ context.
          let run : ExprTree → Runs = λ e. runs_of context (scope context names) (expr_of e) in
          ap (map (runs context)) c.in_ok-push.ensures.items
          ∙ (map-append (runs context) c.loop-arg.nodes.items (c.in_ok-value.value.node ∷ [])
          ∙ (ap (λ rs. rs ++ runs context c.in_ok-value.value.node ∷ []) (c.loop-arg.invariant.means context)
          ∙ (ap (λ r. map run (take i args) ++ r ∷ []) (c.in_ok-value.ensures.means context ∙ ap run c.arg-item.is)
          ∙ sym (map_more run args i item c.loop-arg-test.true))));
    }

pub resolve_arguments-returns-clause-means : goal.resolve_arguments-returns-clause-means
resolve_arguments-returns-clause-means t c = λ context.
    let args = c.args.args.now in
    let run : ExprTree → Runs = λ e. runs_of context (scope context c.args.names.now) (expr_of e) in
    ap all_values (c.loop-arg.invariant.means context ∙ ap (map run) (take_all c.loop-arg.arg-index args c.loop-arg-test.false))
    ∙ all_made context (scope context c.args.names.now) args

pub resolve_call-returns-clause-means : goal.resolve_call-returns-clause-means
resolve_call-returns-clause-means t c = λ context.
    let at = c.args.at in
    let all = c.in_ok-all.all.nodes in
    let vs = c.in_ok-all.ensures.means context in
    let function = c.target.ensures context in
    node.node_is context (record { kind = k.Call c.target.result all; place = at })
    ∙ (ap {A = Runs} (λ r. record r { place = at }) (node.call_is context c.target.result all at) ∙ (λ i. called (call (vs i) (function i)) at))

pub resolve_leaf-returns-in-Name-clause-ty : goal.resolve_leaf-returns-in-Name-clause-ty
resolve_leaf-returns-in-Name-clause-ty t c =
    let e = c.args.e.now in
    let here = of e _ (expr.Name c.in-Name.name e.place) c.in-Name.is (tree.name_is c.in-Name.name e.place) in
    subst (IsTypeOf c.args.names.now c.resolve_name.result.ty) (sym here) c.resolve_name.ensures.ty

pub resolve_leaf-returns-in-Name-clause-means : goal.resolve_leaf-returns-in-Name-clause-means
resolve_leaf-returns-in-Name-clause-means t c =
    let e = c.args.e.now in
    let here = of e _ (expr.Name c.in-Name.name e.place) c.in-Name.is (tree.name_is c.in-Name.name e.place) in
    subst (IsNodeOf c.args.names.now c.resolve_name.result.node) (sym here) c.resolve_name.ensures.means

pub resolve_leaf-returns-in-Number-clause-means : goal.resolve_leaf-returns-in-Number-clause-means
resolve_leaf-returns-in-Number-clause-means t c =
    let e = c.args.e.now in
    let here = of e _ (expr.Number (ty_of c.in-Number.ty) c.in-Number.value e.place) c.in-Number.is (tree.number_is c.in-Number.ty c.in-Number.value e.place) in
    subst (IsNodeOf c.args.names.now c.build_constant.result.node) (sym here) c.build_constant.ensures.means

pub resolve_leaf-returns-in-Character-clause-means : goal.resolve_leaf-returns-in-Character-clause-means
resolve_leaf-returns-in-Character-clause-means t c =
    let e = c.args.e.now in
    let here = of e _ (expr.Character c.in-Character.code e.place) c.in-Character.is (tree.character_is c.in-Character.code e.place) in
    subst (IsNodeOf c.args.names.now c.build_constant-in-Character.result.node) (sym here) c.build_constant-in-Character.ensures.means

pub resolve_leaf-returns-in-Eof-clause-means : goal.resolve_leaf-returns-in-Eof-clause-means
resolve_leaf-returns-in-Eof-clause-means t c =
    let e = c.args.e.now in
    let here = of e _ (expr.Eof e.place) c.in-Eof.is (tree.eof_is e.place) in
    subst (IsNodeOf c.args.names.now c.build_constant-in-Eof.result.node) (sym here) c.build_constant-in-Eof.ensures.means

pub resolve_leaf-returns-in-Call-clause-means : goal.resolve_leaf-returns-in-Call-clause-means
resolve_leaf-returns-in-Call-clause-means t c =
    let e = c.args.e.now in
    let callee = c.in-Call.callee in
    let args = c.in-Call.args in
    let here = of e _ (expr.Call callee (exprs_of args.items) e.place) c.in-Call.is (tree.call_is callee args e.place) in
    let same : expr.Call callee (exprs_of c.as_slice.result.now) e.place ≡ expr_of e = ap (λ es. expr.Call callee (exprs_of es) e.place) c.as_slice.ensures.value ∙ sym here in
    subst (AreNodesOf c.args.names.now c.resolve_call.result) same c.resolve_call.ensures.means

pub rise-resolve_above-requires : goal.rise-resolve_above-requires
rise-resolve_above-requires t c =
    let small : size-Expr c.descend-node.result.now ≤ size-Expr c.args.e.now = c.descend-node.ensures.small in
    let here = risen Operands c.loop-left.left (expr_of c.args.e.now) (expr_of c.descend-node.result.now) c.loop-left-test.true c.descend-node.ensures.reaches in
    let ty = subst (IsTypeOf c.args.names.now c.loop-left.typed.ty) (sym here) c.loop-left.invariant.ty in
    let means = subst (IsNodeOf c.args.names.now c.loop-left.typed.node) (sym here) c.loop-left.invariant.means in
    (grind (arith, common_steps, small), (ty, (λ h. c.loop-left.invariant.flat (ap is_place (sym here) ∙ h), means)))

pub rise-loop-left-preserved : goal.rise-loop-left-preserved
rise-loop-left-preserved t c =
    let reaches = c.descend-node.ensures.reaches in
    record {
      ty = subst (IsTypeOf c.args.names.now c.in_ok-typed.typed.ty) reaches c.in_ok-typed.ensures.ty;
      flat = λ h. c.in_ok-typed.ensures.flat (ap is_place reaches ∙ h);
      means = subst (IsNodeOf c.args.names.now c.in_ok-typed.typed.node) reaches c.in_ok-typed.ensures.means;
    }

pub rise-returns-clause-ty : goal.rise-returns-clause-ty
rise-returns-clause-ty t c =
    let top = at_top Operands c.loop-left.left (expr_of c.args.e.now) c.loop-left-test.false in
    subst (IsTypeOf c.args.names.now c.loop-left.typed.ty) top c.loop-left.invariant.ty

pub rise-returns-clause-flat : goal.rise-returns-clause-flat
rise-returns-clause-flat t c =
    let top = at_top Operands c.loop-left.left (expr_of c.args.e.now) c.loop-left-test.false in
    λ h. c.loop-left.invariant.flat (ap is_place top ∙ h)

pub rise-returns-clause-means : goal.rise-returns-clause-means
rise-returns-clause-means t c =
    let top = at_top Operands c.loop-left.left (expr_of c.args.e.now) c.loop-left-test.false in
    subst (IsNodeOf c.args.names.now c.loop-left.typed.node) top c.loop-left.invariant.means
