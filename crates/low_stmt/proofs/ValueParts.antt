-- Expressions that become parts of statements.
use Rattle.std.proofs.Common.{◌≡◌, ℕ, zero, suc, refl, ◌+◌, ◌*◌, ◌≤◌, ◌<◌, inl, inr, ⊎_elim, [], length, ap, arith, ◌∙◌}
use Rattle.std.proofs.lemmas.List.Elements.{All-weaker}
use Rattle.c_tree.specs.Expr.{Expr}
use Rattle.c_semantics.specs.Meaning.{definition}
use Rattle.c_resolve.specs.Routines.{definitions_of}
use Rattle.low_labels.specs.Emission.{Emission, fresh}
use Rattle.low_expr.specs.declared.names.Names.{Names as Labelled}
use Rattle.low_expr.specs.Bound.{nodes}
use Rattle.low_expr.specs.ExprCode.{expr_code, labels_in}
use Rattle.low_expr.specs.LabelledNames.{functions_in, scope_in, HasLabels}
use Rattle.low_expr.specs.Lowering.{IsLowered, fresh_by}
use Rattle.low_expr.proofs.Emitting.{lines_more}
use Rattle.low_expr.proofs.MarkLemmas.{lowered_length}
use Rattle.low_expr.proofs.WordsBound.{expr_words}
use Rattle.low_stmt.specs.StmtReadiness.{IsReadyIn}
use Rattle.low_stmt.specs.private.Parts.{Adds, IsReadyHere}
use Rattle.low_stmt.specs.private.StmtParts.{scopes, value_part}
use Rattle.low_stmt.proofs.UnplacedLabels.{expr_unplaced}
use Rattle.low_stmt.proofs.PartLemmas.{added_length}

pub labels_more : (names : Labelled) (n m : ℕ) → n ≤ m → HasLabels names n → HasLabels names m
labels_more names n m le h = record {
  count = h.count;
  below = All-weaker (λ label. label < n) (λ label. label < m) (λ label low. omega arith) names.labels.items h.below;
}

-- labels alone add no words
pub fresh_lines : (n : ℕ) (e : Emission) → length (fresh_by n e).lines ≡ length e.lines
fresh_lines zero e = refl
fresh_lines (suc n) e = fresh_lines n (fresh e)

module _ (names : Labelled) (e : Expr) (old new : Emission) (h : IsLowered names e 0 old new) where
  pub value_added : Adds (value_part (functions_in names) (scopes names) e) old new
  value_added =
      let first = length old.places in
      record {
        code = h;
        apart = λ ds k out.
            expr_unplaced (functions_in names) (scope_in ds names) e 0 first k
            (⊎_elim (λ x. inl x) (λ x. ⊎_elim (λ y. inl y.1) (λ y. inr y) x) out);
        within = tt;
      }

  pub value_few : IsReadyHere names (λ defined room top scope. IsReadyIn defined room top scope e)
      → length new.lines ≤ length old.lines + 32 * nodes e
  value_few ready =
      let ds = definitions_of ready.text in
      let code = expr_code (functions_in names) (scope_in ds names) e 0 (length old.places) in
      let words = expr_words (functions_in names) (definition ready.text) (scope_in ds names) e 0 (length old.places) ready.holds.0 in
      let lines = ap (λ (x : Emission). length x.lines) (h ds) ∙ lines_more code (fresh_by (labels_in e) old) in
      let same = fresh_lines (labels_in e) old in
      omega arith

  pub value_labels : HasLabels names (length old.places) → HasLabels names (length new.places)
  value_labels known =
      let len = ap (λ (x : Emission). length x.places) (h []) ∙ lowered_length (labels_in e) (expr_code (functions_in names) (scope_in [] names) e 0 (length old.places)) old in
      labels_more names (length old.places) (length new.places) (omega arith) known

  pub value_more : length old.places ≤ length new.places
  value_more =
      let first = length old.places in
      let len = added_length first first (value_part (functions_in names) (scopes names) e first) old new value_added in
      omega arith
