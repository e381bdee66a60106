use Rattle.std.proofs.lemmas.Result.{err_from_is_err_and}
use Rattle.byte_lists.proofs.ContentLemmas.{AppendsPrefix-take}
use Rattle.bop_top.proofs.run.flush.Goals as goal

pub returns-in_err-append-clause-part : goal.returns-in_err-append-clause-part
returns-in_err-append-clause-part g c =
    let n = c.in_err-append.ensures.bytes.0 in
    let part = AppendsPrefix-take _ _ n c.args.piece.now (rw c.bytes-2.ensures.bytes at c.in_err-append.ensures.bytes.1) in
    let p = err_from_is_err_and c.from_residual.result c.from_residual.ensures.1 in
    rw p.1 part
