use Rattle.std.proofs.Common.{◌≡◌, ℕ, List, Option, IfOk, sym, subst}
use Rattle.c_tree.specs.declared.tree.Tree.{Tree}
use Rattle.c_tree.specs.View.{items_of}
use Rattle.c_resolve.specs.declared.routine.Routine.{Routine}
use Rattle.c_meaning.specs.Answer.{meaning_of}
use Rattle.c_semantics.specs.Meaning.{meant, run_of}
use Rattle.c_resolve.specs.Routines.{AreRoutinesOf}
use Rattle.c_semantics.specs.Run.{Ended}
use Rattle.c_meaning.specs.private.Turned.{Turned}
use Rattle.c_meaning.proofs.Ending.{ends_by, ok_means}
use Rattle.c_meaning.specs.private.Pending.{Program}
use Rattle.c_meaning.proofs.meaning.evaluate.Goals as goal

pub returns : goal.returns
unfolding meant
returns c =
    let text = items_of c.tree-tree.result.now in
    let input = c.args.input.now in
    let program : Program = record { text = text; input = input } in
    let end = run_of text input c.args.steps in
    let last = c.until_the_end-done.new.self in
    let done = c.until_the_end-done.result in
    let are = subst (λ (rs : List Routine). AreRoutinesOf text rs) (sym c.deref.ensures.value) c.in_ok-text.ensures.routines in
    let begun = c.in_ok-pending.ensures text input c.in_ok-machine.machine c.in_ok-machine.ensures.store c.in_ok-machine.ensures.left c.in_ok-text.ensures.main in
    let turned = subst (λ (e : Ended (Option ℕ)). Turned program e last done) begun (c.until_the_end-done.ensures.turned text are) in
    let means = ok_means c.meant_by.result end last.pending.flow last.machine done c.meant_by.ensures (ends_by program end last done turned c.until_the_end-done.ensures.done) in
    subst (λ (t : Tree). IfOk c.meant_by.result (λ answer. meaning_of answer ≡ meant (items_of t) input c.args.steps)) c.tree-tree.ensures.same means
