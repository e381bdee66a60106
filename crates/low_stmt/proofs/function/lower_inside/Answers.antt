use Rattle.std.proofs.Common.{◌≡◌, List, length, map, drop, sym, subst, ◌∙◌, arith}
use Rattle.std.proofs.lemmas.List.{length-map}
use Rattle.c_tree.specs.Accepted.{result_shape}
use Rattle.c_tree.specs.Ty.{Ty}
use Rattle.c_tree.specs.View.{fun_of, param_of, stmts_of}
use Rattle.c_semantics.specs.Meaning.{with_parameters}
use Rattle.c_semantics.specs.Names.{Definition, Names}
use Rattle.low_expr.specs.LabelledNames.{scope_in}
use Rattle.low_stmt.specs.StmtReadiness.{AreReadyStmts}
use Rattle.low_stmt.specs.private.Parts.{IsWritten}
use Rattle.low_stmt.specs.private.StmtParts.{stmts_part}
use Rattle.low_stmt.proofs.ReadyParts.{functions_same, functions_then, ready_made, scope_entered}
use Rattle.low_stmt.proofs.function.lower_inside.Goals as goal

pub lower_body-requires-clause-ready : goal.lower_body-requires-clause-ready
lower_body-requires-clause-ready c =
    let f = c.args.fun.now in
    let ps = map param_of f.params.items in
    let body = stmts_of c.args.body.now in
    let before = c.args.names.now in
    let within = c.enter.new.self in
    let inner = c.declare_params.new.names in
    let places = c.args.frame.now.places.items in
    let gives = c.in_ok-gives.ensures in
    let named : (ds : List Definition) → scope_in ds inner ≡ with_parameters places ps (scope_in ds before) = λ ds.
    c.in_ok-declare_params.ensures.names ds
    ∙ (λ i. with_parameters (c.deref-2.ensures.value i) (map param_of (c.deref.ensures.value i)) (scope_entered before within c.in_ok-enter.ensures.entered ds i)) in
    let counted : c.len.result ≡ length ps = omega (arith, c.len.ensures, f.params.ok.0, length-map f.params.items param_of) in
    let own = c.past-own.ensures ∙ (λ i. drop (counted i) (c.deref-3.ensures.value i)) in
    ready_made _ _ before inner (functions_then before within inner c.enter.ensures.functions c.in_ok-declare_params.ensures.functions)
    (λ defined room top ds h.
    subst (λ (t : Ty). AreReadyStmts defined room top t (scope_in ds inner) c.past-own.result.now body) (sym gives)
    (subst (λ (scope : Names). AreReadyStmts defined room top (result_shape (fun_of f)) scope c.past-own.result.now body) (sym (named ds))
    (subst (λ ns. AreReadyStmts defined room top (result_shape (fun_of f)) (with_parameters places ps (scope_in ds before)) ns body) (sym own) h)))
    c.requires.ready

pub returns-clause-lowered : goal.returns-clause-lowered
returns-clause-lowered c =
    let f = c.args.fun.now in
    let ps = map param_of f.params.items in
    let before = c.args.names.now in
    let within = c.enter.new.self in
    let inner = c.declare_params.new.names in
    let places = c.args.frame.now.places.items in
    let first = length c.args.asm.now.places in
    let gives = c.in_ok-gives.ensures in
    let same = functions_same before inner (functions_then before within inner c.enter.ensures.functions c.in_ok-declare_params.ensures.functions) in
    let named : (ds : List Definition) → scope_in ds inner ≡ with_parameters places ps (scope_in ds before) = λ ds.
    c.in_ok-declare_params.ensures.names ds
    ∙ (λ i. with_parameters (c.deref-2.ensures.value i) (map param_of (c.deref.ensures.value i)) (scope_entered before within c.in_ok-enter.ensures.entered ds i)) in
    let counted : c.len.result ≡ length ps = omega (arith, c.len.ensures, f.params.ok.0, length-map f.params.items param_of) in
    let own = c.past-own.ensures ∙ (λ i. drop (counted i) (c.deref-3.ensures.value i)) in
    subst (λ part. IsWritten first first part c.args.asm.now c.lower_body.new.asm c.args.ends.now c.lower_body.new.ends)
    (λ i. stmts_part (same i) (λ ds. named ds i) (gives i) (own i) c.args.to.now (stmts_of c.args.body.now) first)
    c.in_ok-lower_body.ensures.lowered
