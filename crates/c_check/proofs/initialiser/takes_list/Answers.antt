use Rattle.std.proofs.Common.{ap, sym, ◌∙◌}
use Rattle.c_tree.specs.Declarators.{element_shape, takes_list}
use Rattle.c_tree.specs.View.{var_of, exprs_of}
use Rattle.c_check.proofs.Initialisers.{not_many}
use Rattle.c_check.proofs.initialiser.takes_list.Goals as goal

pub returns-in-len2-up : goal.returns-in-len2-up
returns-in-len2-up c =
    let t = element_shape (var_of c.args.v.now) in
    let values = exprs_of c.args.values.now in
    sym (not_many t c.as_slice.result.now values c.in-len2-up.len_at_least) ∙ ap (λ es. takes_list t (exprs_of es) values) c.as_slice.ensures.value
