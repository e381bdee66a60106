-- Code with labels behind other code: an expression above its first operand, and refusals.
use Rattle.std.proofs.Common.{◌≡◌, ℕ, zero, suc, ◌+◌, ◌-◌, ◌<◌, ◌≤◌, List, ◌++◌, length, refl, ap, sym, subst, ◌∙◌, arith}
use Rattle.c_tree.specs.Expr.{Expr}
use Rattle.c_rules.specs.Spine.{below, down}
use Rattle.c_rules.proofs.Descent.{risen, at_top}
use Rattle.c_rules.specs.declared.spine.Along.TheVariants.{Operands}
use Rattle.c_semantics.specs.Meaning.{definition}
use Rattle.c_semantics.specs.Names.{Definition}
use Rattle.c_resolve.specs.Routines.{definitions_of}
use Rattle.low_labels.specs.Emission.{Emission, fresh, IsTooLong}
use Rattle.low_labels.specs.Operation.{Operation, width_of}
use Rattle.c_layout.specs.Slots.{slots}
use Rattle.low_expr.specs.declared.names.Names.{Names as Labelled}
use Rattle.low_expr.specs.declared.wanted.Wanted.{Wanted}
use Rattle.low_expr.specs.ExprCode.{labels_in}
use Rattle.low_expr.specs.LabelledNames.{scope_in, functions_in}
use Rattle.low_expr.specs.Lowering.{fresh_by, lowered}
use Rattle.low_expr.specs.private.Wanting.{wanted_first, wanted_down, above_code, code_in, labels_above, IsLoweredAs, IsRefusedAs, IsLoweredAbove, IsRefusedAbove, IsReadyAs}
use Rattle.low_expr.proofs.KeptValues.{width-append}
use Rattle.low_expr.proofs.Emitting.{lines_more}
use Rattle.low_expr.proofs.MarkLemmas.{lowered_length, lowered_behind}
use Rattle.low_expr.proofs.CodeMarks.{code_marks}
use Rattle.low_expr.proofs.WantedLemmas.{risen_wanted, wanted_at_top}
use Rattle.low_expr.proofs.FirstOperands.{Suits, suits, code_first, labels_first, ready_first, ready_down, slots_down}

fresh_lines : (n : ℕ) (e : Emission) → length (fresh_by n e).lines ≡ length e.lines
fresh_lines zero e = refl
fresh_lines (suc n) e = fresh_lines n (fresh e)

pub lowered_lines : (n : ℕ) (os : List Operation) (e : Emission)
    → length (lowered n os e).lines ≡ length e.lines + width_of os
lowered_lines n os e = omega (arith, lines_more os (fresh_by n e), fresh_lines n e)

-- what is too long behind code is too long with it
pub too_long_with : (n : ℕ) (xs ys : List Operation) (e : Emission)
    → IsTooLong (width_of ys) (lowered n xs e) → IsTooLong (width_of (xs ++ ys)) e
too_long_with n xs ys e h = omega (arith, lowered_lines n xs e, width-append xs ys)

-- and what is too long by itself is too long with what is behind it
pub too_long_before : (xs ys : List Operation) (e : Emission)
    → IsTooLong (width_of xs) e → IsTooLong (width_of (xs ++ ys)) e
too_long_before xs ys e h = omega (arith, width-append xs ys)

module _ (names : Labelled) where
  -- what is ready suits, whatever functions the names stand for
  pub suits_as : (w : Wanted) (e : Expr) → IsReadyAs names w e → Suits w e
  suits_as w e r = suits (definition r.text) (scope_in (definitions_of r.text) names) w e r.ready

  pub ready_first_as : (w : Wanted) (e : Expr) → IsReadyAs names w e
      → IsReadyAs names (wanted_first w e) (below Operands e)
  ready_first_as w e r = record {
    text = r.text;
    functions = r.functions;
    ready = ready_first (definition r.text) (scope_in (definitions_of r.text) names) w e r.ready;
  }

  pub ready_down_as : (w : Wanted) (n : ℕ) (e : Expr) → IsReadyAs names w e
      → IsReadyAs names (wanted_down w n e) (down Operands n e)
  ready_down_as w n e r = record {
    text = r.text;
    functions = r.functions;
    ready = ready_down (definition r.text) (scope_in (definitions_of r.text) names) w n e r.ready;
  }

  -- a first operand, and what is above it
  pub risen_code : (w : Wanted) (e : Expr) (slot : ℕ) (start mid new : Emission)
      → IsReadyAs names w e
      → IsLoweredAs names (wanted_first w e) (below Operands e) slot start mid
      → IsLoweredAbove names w e slot mid new → IsLoweredAs names w e slot start new
  risen_code w e slot start mid new ready first above = λ definitions.
      let functions = functions_in names in
      let scope = scope_in definitions names in
      let v = wanted_first w e in
      let a = below Operands e in
      let n = labels_in a in
      let xs = code_in names v a slot start definitions in
      let label = length start.places + n in
      let ys = above_code functions scope w e slot label in
      let count : length mid.places ≡ label = ap (λ (m : Emission). length m.places) (first definitions) ∙ lowered_length n xs start in
      above definitions
      ∙ (λ i. lowered (labels_above e) (above_code functions scope w e slot (count i)) (first definitions i))
      ∙ lowered_behind n (labels_above e) xs ys start (code_marks functions scope v a slot (length start.places))
      ∙ (λ i. lowered (sym (labels_first e) i) (sym (code_first functions scope w e slot (length start.places) (suits_as w e ready)) i) start)

  -- the words of an expression are those of its first operand and those above it
  first_words : (w : Wanted) (e : Expr) (slot : ℕ) (start : Emission)
      (definitions : List Definition)
      → IsReadyAs names w e → width_of (code_in names w e slot start definitions)
      ≡ width_of (code_in names (wanted_first w e) (below Operands e) slot start definitions)
      + width_of (above_code (functions_in names) (scope_in definitions names) w e slot (length start.places + labels_in (below Operands e)))
  first_words w e slot start definitions ready =
      let functions = functions_in names in
      let scope = scope_in definitions names in
      let xs = code_in names (wanted_first w e) (below Operands e) slot start definitions in
      let ys = above_code functions scope w e slot (length start.places + labels_in (below Operands e)) in
      ap width_of (code_first functions scope w e slot (length start.places) (suits_as w e ready))
      ∙ width-append xs ys

  -- what is above a first operand is refused
  pub risen_refused : (w : Wanted) (e : Expr) (slot : ℕ) (start mid : Emission)
      → IsReadyAs names w e
      → IsLoweredAs names (wanted_first w e) (below Operands e) slot start mid
      → IsRefusedAbove names w e slot mid → IsRefusedAs names w e slot start
  risen_refused w e slot start mid ready first refused = λ definitions.
      let functions = functions_in names in
      let scope = scope_in definitions names in
      let a = below Operands e in
      let xs = code_in names (wanted_first w e) a slot start definitions in
      let label = length start.places + labels_in a in
      let count : length mid.places ≡ label = ap (λ (m : Emission). length m.places) (first definitions) ∙ lowered_length (labels_in a) xs start in
      let same : width_of (above_code functions scope w e slot (length mid.places)) ≡ width_of (above_code functions scope w e slot label) =
      ap (λ l. width_of (above_code functions scope w e slot l)) count in
      let long = refused definitions in
      let words = first_words w e slot start definitions ready in
      let lines : length mid.lines ≡ length start.lines + width_of xs = ap (λ (m : Emission). length m.lines) (first definitions) ∙ lowered_lines (labels_in a) xs start in
      omega arith

  -- a first operand is refused
  first_refused : (w : Wanted) (e : Expr) (slot : ℕ) (start : Emission) → IsReadyAs names w e
      → IsRefusedAs names (wanted_first w e) (below Operands e) slot start
      → IsRefusedAs names w e slot start
  first_refused w e slot start ready refused = λ definitions.
      let long = refused definitions in
      omega (arith, first_words w e slot start definitions ready)

  pub down_refused : (w : Wanted) (n : ℕ) (e : Expr) (slot : ℕ) (start : Emission)
      → IsReadyAs names w e
      → IsRefusedAs names (wanted_down w n e) (down Operands n e) slot start
      → IsRefusedAs names w e slot start
  unfolding down wanted_down
  down_refused w zero e slot start ready refused = refused
  down_refused w (suc n) e slot start ready refused =
      down_refused w n e slot start ready
      (first_refused (wanted_down w n e) (down Operands n e) slot start (ready_down_as w n e ready) refused)

  -- the expression itself is the one that is no step further down
  pub top_lowered : (w : Wanted) (left : ℕ) (e : Expr) (slot : ℕ) (start mid : Emission) → left ≤ 0
      → IsLoweredAs names (wanted_down w left e) (down Operands left e) slot start mid
      → IsLoweredAs names w e slot start mid
  top_lowered w left e slot start mid none went = λ definitions.
      went definitions
      ∙ (λ i. lowered (labels_in (at_top Operands left e none i)) (code_in names (wanted_at_top w left e none i) (at_top Operands left e none i) slot start definitions) start)

  -- what was reached, and as what it is wanted
  module _ (w : Wanted) (n : ℕ) (e : Expr) (v : Wanted) (x : Expr) (v_is : v ≡ wanted_down w n e)
      (x_is : x ≡ down Operands n e) where
    pub reached_ready : IsReadyAs names w e → IsReadyAs names v x
    reached_ready ready =
        subst (λ u. IsReadyAs names u x) (sym v_is)
        (subst (λ y. IsReadyAs names (wanted_down w n e) y) (sym x_is) (ready_down_as w n e ready))

    pub reached_slots : slots x ≤ slots e
    reached_slots = subst (λ y. slots y ≤ slots e) (sym x_is) (slots_down n e)

    pub reached_lowered : (slot : ℕ) (start mid : Emission) → IsLoweredAs names v x slot start mid
        → IsLoweredAs names (wanted_down w n e) (down Operands n e) slot start mid
    reached_lowered slot start mid went = λ definitions.
        went definitions
        ∙ (λ i. lowered (labels_in (x_is i)) (code_in names (v_is i) (x_is i) slot start definitions) start)

    pub reached_refused : (slot : ℕ) (start : Emission) → IsReadyAs names w e
        → IsRefusedAs names v x slot start → IsRefusedAs names w e slot start
    reached_refused slot start ready refused =
        down_refused w n e slot start ready
        (subst (λ y. IsRefusedAs names (wanted_down w n e) y slot start) x_is
        (subst (λ u. IsRefusedAs names u x slot start) v_is refused))

  -- one operand further up
  module _ (w : Wanted) (left : ℕ) (e : Expr) (v : Wanted) (x : Expr) (p : 0 < left)
      (v_is : v ≡ wanted_down w (left - 1) e) (x_is : x ≡ down Operands (left - 1) e)
      (ready : IsReadyAs names w e) (slot : ℕ) (start mid : Emission)
      (below_is : IsLoweredAs names (wanted_down w left e) (down Operands left e) slot start mid) where
    operand_lowered : IsLoweredAs names (wanted_first v x) (below Operands x) slot start mid
    operand_lowered = λ definitions.
        let wanted : wanted_down w left e ≡ wanted_first v x = risen_wanted w left e p ∙ (λ i. wanted_first (sym v_is i) (sym x_is i)) in
        let here : down Operands left e ≡ below Operands x = sym (risen Operands left e x p x_is) in
        below_is definitions
        ∙ (λ i. lowered (labels_in (here i)) (code_in names (wanted i) (here i) slot start definitions) start)

    pub node_lowered : (new : Emission) → IsLoweredAbove names v x slot mid new
        → IsLoweredAs names (wanted_down w (left - 1) e) (down Operands (left - 1) e) slot start new
    node_lowered new above =
        reached_lowered w (left - 1) e v x v_is x_is slot start new
        (risen_code v x slot start mid new (reached_ready w (left - 1) e v x v_is x_is ready) operand_lowered above)

    pub node_refused : IsRefusedAbove names v x slot mid → IsRefusedAs names w e slot start
    node_refused refused =
        reached_refused w (left - 1) e v x v_is x_is slot start ready
        (risen_refused v x slot start mid (reached_ready w (left - 1) e v x v_is x_is ready) operand_lowered refused)
