use Rattle.std.proofs.Common.{All, ap, sym, ◌∙◌, subst, arith}
use Rattle.std.proofs.lemmas.List.Elements.{All-push}
use Rattle.std.proofs.lemmas.Grind.{common_steps}
use Rattle.c_tree.specs.View.{expr_of}
use Rattle.c_tree.specs.FirstOperand.{within}
use Rattle.c_tree.proofs.FirstOperandLemmas.{seen, within-push, put_back, IsWithin}
use Rattle.c_tree.proofs.spine.Spine.of.Goals as goal

pub loop-first-preserved : goal.loop-first-preserved
loop-first-preserved c =
    let old = c.loop-first.above.items in
    let first = expr_of c.in-Some.first.now in
    let pushed = ap (λ es. within (seen es) first) c.in_ok-push.ensures.items in
    let put = within-push old c.loop-first.end first in
    record {
      whole = pushed ∙ put ∙ ap (within (seen old)) (put_back _ first c.in-Some.ensures.value) ∙ c.loop-first.invariant.whole;
      small = grind (arith, common_steps);
      all_small = subst (All (IsWithin c.args.e.now)) (sym c.in_ok-push.ensures.items) (All-push (IsWithin c.args.e.now) old c.loop-first.end c.loop-first.invariant.all_small c.loop-first.invariant.small);
    }
