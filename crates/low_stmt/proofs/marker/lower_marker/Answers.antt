use Rattle.std.proofs.Common.{◌++◌, length, ap, sym, subst, ◌∙◌, append_assoc}
use Rattle.c_tree.specs.declared.tree.Marker.TheVariants as marker
use Rattle.low_labels.specs.Emission.{emit_all}
use Rattle.low_expr.specs.CodePieces.{all_do, constant}
use Rattle.low_expr.specs.ExprCode.{machine_call}
use Rattle.low_expr.specs.LabelledNames.{functions_in, scope_in}
use Rattle.low_expr.proofs.Emitting.{do_append, emit_append}
use Rattle.low_stmt.specs.MarkerCode.{marker_code, take_count, take_variable}
use Rattle.low_stmt.specs.private.Parts.{IsAdded}
use Rattle.low_stmt.specs.private.StmtParts.{marker_part, scopes}
use Rattle.low_stmt.proofs.UnplacedLabels.{plain_append, plain_do, plain_unplaced}
use Rattle.low_stmt.proofs.marker.lower_marker.Goals as goal

pub returns-in_ok-call_with-in-Post-clause-lowered : goal.returns-in_ok-call_with-in-Post-clause-lowered
returns-in_ok-call_with-in-Post-clause-lowered c =
    let old = c.args.asm.now in
    let first = length old.places in
    let new = c.call_with-in-Post.new.asm in
    let m = marker.Post c.in-Post.channel c.in-Post.name c.in-Post.field-2 c.in-Post.count in
    subst (λ x. IsAdded first first (marker_part (functions_in c.args.names.now) (scopes c.args.names.now) x first) old new) (sym c.in-Post.is)
    (record {
      code = λ ds.
          let names = scope_in ds c.args.names.now in
          let taken = take_variable names 11 c.in-Post.name c.in-Post.field-2 in
          let count = take_count names c.in-Post.count in
          let last = constant 10 c.in-Post.channel in
          let call = all_do last ++ machine_call 5 in
          c.in_ok-call_with-in-Post.ensures.added
          ∙ (ap (emit_all call) (c.in_ok-load_post-in-Post.ensures.added ds c.in-Post.field-2)
          ∙ (sym (emit_append (all_do (taken ++ count)) call old)
          ∙ ap (λ os. emit_all os old)
          (sym (append_assoc (all_do (taken ++ count)) (all_do last) (machine_call 5))
          ∙ ap (λ os. os ++ machine_call 5) (sym (do_append (taken ++ count) last) ∙ ap all_do (append_assoc taken count last)))));
      apart = λ ds k out. plain_unplaced (marker_code (scope_in ds c.args.names.now) first m) k
          (plain_append (all_do (take_variable (scope_in ds c.args.names.now) 11 c.in-Post.name c.in-Post.field-2 ++ (take_count (scope_in ds c.args.names.now) c.in-Post.count ++ constant 10 c.in-Post.channel))) (machine_call 5)
          (plain_do (take_variable (scope_in ds c.args.names.now) 11 c.in-Post.name c.in-Post.field-2 ++ (take_count (scope_in ds c.args.names.now) c.in-Post.count ++ constant 10 c.in-Post.channel))) tt);
      within = tt;
    })
