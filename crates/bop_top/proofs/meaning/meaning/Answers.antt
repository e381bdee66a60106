use Rattle.std.proofs.Common.{◌∙◌, sym}
use Rattle.std.proofs.KnownBytes.{Consumes-nil}
use Rattle.std.proofs.lemmas.Result.{err_from_is_err_and}
use Rattle.c_tree.specs.View.{items_of}
use Rattle.c_semantics.proofs.ErasedMeaning.{same_meaning}
use Rattle.bop_top.proofs.Refusals.{fine_of, source_of, refused_unready, unread_unready}
use Rattle.bop_top.proofs.meaning.meaning.Goals as goal

pub returns-in_err-bytes-clause-refused : goal.returns-in_err-bytes-clause-refused
returns-in_err-bytes-clause-refused g c =
    let p = err_from_is_err_and c.from_residual.result c.from_residual.ensures.1 in
    let part = c.in_err-bytes.ensures.part in
    let fine = fine_of c.args.text.now c.in-Ok.parts.0 c.in-Ok.parts.1 c.in-Ok.ensures in
    rw (p.1, p.2) (part.0, part.1, unread_unready c.in_err-bytes.field-0.0 c.args.text.now part.0 fine part.2)

pub returns-in-Ok-evaluate-clause-meant : goal.returns-in-Ok-evaluate-clause-meant
returns-in-Ok-evaluate-clause-meant g c =
    let whole = c.in_ok-bytes.ensures.whole in
    let same = same_meaning (items_of c.in-Ok.parts.0.tree) _ c.args.steps ∙ sym (rw c.deref.ensures.value at c.in-Ok-evaluate.ensures) in
    (_, whole.0, (items_of c.in-Ok.parts.0.tree, source_of c.args.text.now c.in-Ok.parts.0 c.in-Ok.parts.1 c.in-Ok.ensures, same), whole.1)
