use Rattle.std.proofs.Common.{◌≤◌, Some, ap, sym, ◌∙◌, arith}
use Rattle.std.proofs.lemmas.List.Elements.{All-pop}
use Rattle.std.proofs.lemmas.Grind.{common_steps}
use Rattle.c_tree.specs.declared.tree.Expr.{size-Expr}
use Rattle.c_tree.specs.View.{expr_of}
use Rattle.c_tree.specs.FirstOperand.{within}
use Rattle.c_tree.proofs.FirstOperandLemmas.{seen, within-push, IsWithin}
use Rattle.c_tree.proofs.copy.+expr.Goals as goal

pub expr-around-requires : goal.expr-around-requires
expr-around-requires t c =
    let left = All-pop (IsWithin c.args.e.now) c.loop-next.above.items c.pop.new.self.items (Some c.in-Some.next) c.in-Some.ensures.items c.loop-next.invariant.small in
    let small : size-Expr c.in-Some.next.now ≤ size-Expr c.args.e.now = left.1 in
    grind (arith, common_steps, small)

pub expr-loop-next-preserved : goal.expr-loop-next-preserved
expr-loop-next-preserved t c =
    let rest = c.pop.new.self.items in
    let before = expr_of c.loop-next.copy in
    let left = All-pop (IsWithin c.args.e.now) c.loop-next.above.items rest (Some c.in-Some.next) c.in-Some.ensures.items c.loop-next.invariant.small in
    let taken = ap (λ es. within (seen es) before) (sym c.in-Some.ensures.items) in
    record {
      whole = ap (within (seen rest)) c.in_ok-copy-2.ensures ∙ sym (within-push rest c.in-Some.next before) ∙ taken ∙ c.loop-next.invariant.whole;
      small = left.0;
    }
