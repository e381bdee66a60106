use Rattle.std.proofs.Common.{◌≡◌, ◌+◌, List, ◌∷◌, ◌++◌, map, drop, ap, sym, ◌∙◌, append_assoc}
use Rattle.std.proofs.lemmas.List.{append-nil, drop_all}
use Rattle.c_tree.proofs.TreeLists.{cut_at}
use Rattle.c_tree.specs.Var.{Var}
use Rattle.c_tree.specs.View.{var_of}
use Rattle.c_semantics.specs.Run.{◌>>◌}
use Rattle.c_semantics.specs.Exec.{declared_locals, first_place, with_locals_named, initialised, declare}
use Rattle.c_resolve.specs.private.Acted.{own_at}
use Rattle.c_resolve.specs.private.Resolved.{scope}
use Rattle.c_resolve.specs.DeclaredNames.{names_in}
use Rattle.c_resolve.proofs.Passing.{own_first, no_locals, passing_then, passing_push, passing_is}
use Rattle.c_resolve.proofs.declaration.resolve_vars.Goals as goal

pub loop-v-preserved : goal.loop-v-preserved
loop-v-preserved c =
    let vars = c.args.vars.now in
    let rest = c.loop-v.rest.now in
    let item = c.v-item.result in
    let d = var_of item in
    let ds = map var_of (drop (c.loop-v.v-index + 1) vars) in
    let before = c.loop-v.names in
    let after = c.resolve_var.new.names in
    let p = c.in_ok-passed.passed in
    let here : map var_of (drop c.loop-v.v-index vars) ≡ d ∷ ds = ap (map var_of) (cut_at vars c.loop-v.v-index item c.loop-v-test.true c.v-item.is) in
    record {
      names = λ definitions.
          let named = c.in_ok-passed.ensures.names definitions in
          (λ j. with_locals_named (c.past-rest.ensures j) ds (named j))
          ∙ (ap (λ (all : List Var). with_locals_named rest all (names_in definitions before)) (sym here) ∙ c.loop-v.invariant.names definitions);
      kept = c.in_ok-passed.ensures.kept ∙ c.loop-v.invariant.kept;
      own =
          ap (λ ls. ls ++ declared_locals c.past-rest.result.now ds) c.in_ok-push_local.ensures
          ∙ (ap (λ places. (c.loop-v.own.items ++ own_at rest p.local) ++ declared_locals places ds) c.past-rest.ensures
          ∙ (append_assoc c.loop-v.own.items (own_at rest p.local) (declared_locals (drop 1 rest) ds)
          ∙ (ap (λ ls. c.loop-v.own.items ++ ls) (own_first rest d ds p.local c.in_ok-passed.ensures.local)
          ∙ (ap (λ (all : List Var). c.loop-v.own.items ++ declared_locals rest all) (sym here) ∙ c.loop-v.invariant.own))));
      means = λ context.
          let named = c.in_ok-passed.ensures.names context.definitions in
          let does = c.in_ok-passed.ensures.means context in
          let go = declare context.input context.calls (scope context after) c.past-rest.result.now ds in
          ap (λ ps. passing_then context ps go) c.in_ok-push.ensures.items
          ∙ (passing_push context c.loop-v.out.items p go
          ∙ (ap (passing_then context c.loop-v.out.items)
          ((λ j. does j >> declare context.input context.calls (scope context after) (c.past-rest.ensures j) ds)
          ∙ (λ j. initialised context.input context.calls (named j) (first_place rest) d d.init >> declare context.input context.calls (named j) (drop 1 rest) ds))
          ∙ (ap (λ (all : List Var). passing_then context c.loop-v.out.items (declare context.input context.calls (scope context before) rest all)) (sym here)
          ∙ c.loop-v.invariant.means context)));
    }

pub returns-clause-means : goal.returns-clause-means
returns-clause-means c = λ context.
    let out = c.loop-v.out.items in
    let left = drop_all c.loop-v.v-index c.args.vars.now c.loop-v-test.false in
    passing_is context out
    ∙ (ap (λ vs. passing_then context out (declare context.input context.calls (scope context c.loop-v.names) c.loop-v.rest.now (map var_of vs))) (sym left)
    ∙ c.loop-v.invariant.means context)

pub returns-clause-own : goal.returns-clause-own
returns-clause-own c =
    let own = c.loop-v.own.items in
    let left = drop_all c.loop-v.v-index c.args.vars.now c.loop-v-test.false in
    sym (append-nil own)
    ∙ (ap (λ ls. own ++ ls) (sym (no_locals c.loop-v.rest.now))
    ∙ (ap (λ vs. own ++ declared_locals c.loop-v.rest.now (map var_of vs)) (sym left) ∙ c.loop-v.invariant.own))
