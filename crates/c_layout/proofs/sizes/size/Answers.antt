use Rattle.std.proofs.Common.{◌*◌, ap, ◌∙◌, mul_comm}
use Rattle.c_tree.specs.Declarators.{element_shape, sized}
use Rattle.c_tree.specs.View.{var_of, exprs_of}
use Rattle.c_layout.specs.private.Capped.{near}
use Rattle.c_layout.specs.Sizes.{size}
use Rattle.c_layout.proofs.Extents.{near_product}
use Rattle.c_layout.proofs.sizes.size.Goals as goal

pub returns : goal.returns
returns c =
    let t = element_shape (var_of c.args.v.now) in
    c.product.ensures
    ∙ ap near (mul_comm c.element_size.result c.elements.result)
    ∙ ap (λ n. near (c.elements.result * n)) c.element_size.ensures
    ∙ near_product c.elements.result (size t)
    ∙ c.elements.ensures.bytes t
    ∙ ap (λ es. near (size (sized (exprs_of es) t))) c.deref.ensures.value
