use Rattle.std.proofs.Common.{◌*◌, ◌+◌, ap, sym, ◌∙◌, arith, drop}
use Rattle.std.proofs.lemmas.Grind.{common_steps}
use Rattle.c_tree.proofs.TreeLists.{cut_at}
use Rattle.c_tree.specs.Declarators.{sized, count_of}
use Rattle.c_tree.specs.Constant.{value_of}
use Rattle.c_tree.specs.View.{expr_of, exprs_of}
use Rattle.c_layout.specs.private.Capped.{near}
use Rattle.c_layout.specs.Sizes.{size}
use Rattle.c_layout.proofs.Extents.{more_elements}
use Rattle.c_layout.proofs.sizes.elements.Goals as goal

pub loop-e-preserved : goal.loop-e-preserved
loop-e-preserved c =
    let here = ap exprs_of (cut_at c.args.sizes.now c.loop-e.e-index c.e-item.result c.loop-e-test.true c.e-item.is) in
    let n = count_of (value_of (expr_of c.e-item.result)) in
    record {
      limit = grind (arith, common_steps);
      bytes = λ t.
          let rest = size (sized (exprs_of (drop (c.loop-e.e-index + 1) c.args.sizes.now)) t) in
          let counted = ap (λ m. near (m * c.loop-e.elements)) c.count.ensures in
          ap (λ m. near (m * rest)) (c.product-elements.ensures ∙ counted)
          ∙ more_elements c.loop-e.elements n rest
          ∙ ap (λ es. near (c.loop-e.elements * size (sized es t))) (sym here)
          ∙ c.loop-e.invariant.bytes t;
    }
