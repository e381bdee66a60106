use Rattle.std.proofs.Common.{[], ◌∷◌, ◌++◌, pos, ap, sym, ◌∙◌}
use Rattle.std.proofs.lemmas.Result.{on_ok_weaker}
use Rattle.rv_code.specs.declared.instr.Instr.TheVariants as instr
use Rattle.low_labels.specs.Emission.{emit_all}
use Rattle.low_expr.specs.CodePieces.{all_do, home_address, read_by}
use Rattle.low_expr.proofs.Emitting.{do_append, emit_append}
use Rattle.low_stmt.proofs.marker.load_variable.Goals as goal

pub returns-clause-added : goal.returns-clause-added
returns-clause-added c =
    on_ok_weaker c.add.result
    (λ added definitions at.
    let old = c.args.asm.now in
    let xs = home_address c.site-site.result.home in
    let ys = read_by c.site-site.result.held 5 in
    let zs = instr.Addi c.args.rd 5 (pos 0) ∷ [] in
    let before = c.in_ok-read.ensures.added ∙ ap (emit_all (all_do ys)) c.in_ok-load_home.ensures.added in
    added
    ∙ (ap (emit_all (all_do zs)) before
    ∙ (sym (emit_append (all_do ys) (all_do zs) (emit_all (all_do xs) old))
    ∙ (sym (emit_append (all_do xs) (all_do ys ++ all_do zs) old)
    ∙ (sym (ap (λ os. emit_all os old) (do_append xs (ys ++ zs) ∙ ap (λ os. all_do xs ++ os) (do_append ys zs)))
    ∙ (λ i. emit_all (all_do (home_address (c.site-site.ensures.home definitions i) ++ (read_by (c.site-site.ensures.held definitions at i) 5 ++ zs))) old))))))
    c.add.ensures.added
