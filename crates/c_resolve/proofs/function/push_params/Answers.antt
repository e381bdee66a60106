use Rattle.std.proofs.Common.{◌++◌, map, ap, sym, ◌∙◌, append-nil}
use Rattle.std.proofs.lemmas.List.{drop_all}
use Rattle.c_tree.specs.View.{param_of}
use Rattle.c_resolve.specs.private.Acted.{parameters_at}
use Rattle.c_semantics.specs.Meaning.{parameter_locals}
use Rattle.c_resolve.proofs.Passing.{no_parameters, no_parameter_locals}
use Rattle.c_resolve.proofs.function.push_params.Goals as goal

pub returns-clause-parameters : goal.returns-clause-parameters
returns-clause-parameters c =
    let out = c.loop-p.out.items in
    let left = drop_all c.loop-p.p-index c.args.params.now c.loop-p-test.false in
    sym (append-nil out)
    ∙ (ap (λ ps. out ++ ps) (sym (no_parameters c.loop-p.rest.now))
    ∙ (ap (λ ps. out ++ parameters_at c.loop-p.rest.now (map param_of ps)) (sym left) ∙ c.loop-p.invariant.parameters))

pub returns-clause-locals : goal.returns-clause-locals
returns-clause-locals c =
    let locals = c.loop-p.locals.items in
    let left = drop_all c.loop-p.p-index c.args.params.now c.loop-p-test.false in
    sym (append-nil locals)
    ∙ (ap (λ ls. locals ++ ls) (sym (no_parameter_locals c.loop-p.rest.now))
    ∙ (ap (λ ps. locals ++ parameter_locals c.loop-p.rest.now (map param_of ps)) (sym left) ∙ c.loop-p.invariant.locals))
