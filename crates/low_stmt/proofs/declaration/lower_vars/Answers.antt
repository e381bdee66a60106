use Rattle.std.proofs.Common.{◌≡◌, ◌+◌, ◌≤◌, List, [], ◌∷◌, length, map, drop, refl, ap, sym, subst, ◌∙◌, arith}
use Rattle.std.proofs.lemmas.List.{drop_all}
use Rattle.c_tree.proofs.TreeLists.{cut_at}
use Rattle.c_tree.specs.Var.{Var}
use Rattle.c_tree.specs.View.{var_of}
use Rattle.c_semantics.specs.Exec.{first_place, with_local, with_locals_named}
use Rattle.c_semantics.specs.Names.{Definition, Names}
use Rattle.low_expr.specs.LabelledNames.{functions_in, scope_in}
use Rattle.low_stmt.specs.StmtReadiness.{AreReadyVars}
use Rattle.low_stmt.specs.private.Parts.{Adds, IsAdded}
use Rattle.low_stmt.specs.private.StmtParts.{declarators_part, declarators_words, init_part, scopes}
use Rattle.low_stmt.proofs.PartLemmas.{added_length, added_plain, added_then, added_wide}
use Rattle.low_stmt.proofs.ReadyParts.{functions_same, functions_then, ready_made}
use Rattle.low_stmt.proofs.declaration.lower_vars.Goals as goal

pub loop-v-preserved : goal.loop-v-preserved
loop-v-preserved c =
    let vars = c.args.vars.now in
    let rest = c.loop-v.rest.now in
    let next = c.past-rest.result.now in
    let item = c.v-item.result in
    let d = var_of item in
    let ds = map var_of (drop (c.loop-v.v-index + 1) vars) in
    let start = c.args.asm.now in
    let old = c.loop-v.asm in
    let mid = c.lower_var.new.asm in
    let first = length old.places in
    let before = c.loop-v.names in
    let after = c.lower_var.new.names in
    let h = c.in_ok-lower_var.ensures in
    let functions = functions_in c.args.names.now in
    let here : map var_of (drop c.loop-v.v-index vars) ≡ d ∷ ds = ap (map var_of) (cut_at vars c.loop-v.v-index item c.loop-v-test.true c.v-item.is) in
    let same = functions_same c.args.names.now before c.loop-v.invariant.functions in
    let inner : List Definition → Names = λ definitions. with_local rest d (scope_in definitions before) in
    let own = init_part functions inner (first_place rest) d first in
    let len = added_length first first own old mid (subst (λ f. IsAdded first first (init_part f inner (first_place rest) d first) old mid) same h.lowered) in
    record {
      ready = ready_made
          (λ defined room top scope. AreReadyVars defined room top scope rest (map var_of (drop c.loop-v.v-index vars)))
          (λ defined room top scope. AreReadyVars defined room top scope next ds)
          before after h.functions
          (λ defined room top definitions ready.
          let whole = subst (λ (all : List Var). AreReadyVars defined room top (scope_in definitions before) rest all) here ready in
          subst (λ (scope : Names). AreReadyVars defined room top scope next ds) (sym (h.names definitions))
          (subst (λ places. AreReadyVars defined room top (inner definitions) places ds) (sym c.past-rest.ensures) whole.2))
          c.loop-v.invariant.ready;
      labels = h.labels;
      lowered = λ new later.
          let p = subst (λ f. IsAdded first first (init_part f inner (first_place rest) d first) old mid) same h.lowered in
          let wide = added_wide first first (declarators_part functions (scopes after) next ds (length mid.places)) mid new (omega arith) h.more later in
          let q = subst (λ part. IsAdded first first part mid new) (λ i. declarators_part functions (λ definitions. h.names definitions i) (c.past-rest.ensures i) ds (len i)) wide in
          let whole = added_then first first own (declarators_part functions inner (drop 1 rest) ds (first + own.labels)) (declarators_part functions (scopes before) rest (d ∷ ds) first)
          old mid new (omega arith) p q refl (λ definitions. refl) refl in
          c.loop-v.invariant.lowered new (subst (λ (all : List Var). Adds (declarators_part functions (scopes before) rest all) old new) (sym here) whole);
      few =
          let few = subst (λ (all : List Var). length old.lines + declarators_words all ≤ length start.lines + declarators_words (map var_of vars)) here c.loop-v.invariant.few in
          let more = h.few in
          omega arith;
      more = let this = c.loop-v.invariant.more in let next = h.more in omega arith;
      names = λ definitions.
          let named = h.names definitions in
          (λ j. with_locals_named (c.past-rest.ensures j) ds (named j))
          ∙ (ap (λ (all : List Var). with_locals_named rest all (scope_in definitions before)) (sym here) ∙ c.loop-v.invariant.names definitions);
      functions = functions_then c.args.names.now before after c.loop-v.invariant.functions h.functions;
      kept = h.kept ∙ c.loop-v.invariant.kept;
    }

pub returns-clause-lowered : goal.returns-clause-lowered
returns-clause-lowered c =
    let left = drop_all c.loop-v.v-index c.args.vars.now c.loop-v-test.false in
    let end = c.loop-v.asm in
    let n = length end.places in
    c.loop-v.invariant.lowered end
    (subst (λ vs. Adds (declarators_part (functions_in c.args.names.now) (scopes c.loop-v.names) c.loop-v.rest.now (map var_of vs)) end end) (sym left)
    (added_plain n n [] end end (omega arith) refl tt))
