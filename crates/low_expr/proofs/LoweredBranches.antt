-- The code of `&&`, `||` and `?:` above their first operands, part by part.
use Rattle.std.proofs.Common.{◌≡◌, ℕ, ◌+◌, ◌<◌, ◌≤◌, List, [], ◌∷◌, ◌++◌, length, ap, subst, ◌∙◌, arith, append_assoc}
use Rattle.c_tree.specs.declared.operator.Binary.{Binary}
use Rattle.c_tree.specs.Expr.{Expr}
use Rattle.c_tree.specs.Groups.{group}
use Rattle.c_semantics.specs.Names.{Definition}
use Rattle.low_labels.specs.Emission.{Emission, emit_all, IsTooLong}
use Rattle.low_labels.specs.Operation.{Operation, Branch, width_of}
use Rattle.low_labels.specs.declared.test.Test.TheVariants as test
use Rattle.low_expr.specs.declared.names.Names.{Names as Labelled}
use Rattle.low_expr.specs.declared.wanted.Wanted.TheVariants.{Value}
use Rattle.low_expr.specs.CodePieces.{all_do, take_slot}
use Rattle.low_expr.specs.ExprCode.{expr_code, labels_in, skips}
use Rattle.low_expr.specs.LabelledNames.{scope_in, functions_in}
use Rattle.low_expr.specs.Lowering.{lowered}
use Rattle.low_expr.specs.private.Wanting.{IsLoweredAs, IsRefusedAs, logic_start, logic_end, logic_in, conditional_start, conditional_middle, conditional_end, conditional_in}
use Rattle.low_expr.proofs.KeptValues.{width-append}
use Rattle.low_expr.proofs.CodeMarks.{expr_marks}
use Rattle.low_expr.proofs.Emitting.{labels_same}
use Rattle.low_expr.proofs.MarkLemmas.{MarksBelow, marks_append, marks_do, marks_more, lowered_length, lowered_behind, emitted_behind}
use Rattle.low_expr.proofs.LoweredParts.{lowered_lines}

-- code between operations before it and operations behind it
module _ (n m : ℕ) (xs ys zs : List Operation) (old before : Emission)
    (began : before ≡ lowered n xs old) where
  between : (after new : Emission) → MarksBelow (length old.places + n) xs
      → after ≡ lowered m ys before → new ≡ emit_all zs after
      → new ≡ lowered (n + m) (xs ++ (ys ++ zs)) old
  between after new marks went ended =
      ended
      ∙ ap (emit_all zs) (went ∙ ap (lowered m ys) began ∙ lowered_behind n m xs ys old marks)
      ∙ emitted_behind (n + m) (xs ++ ys) zs old
      ∙ ap (λ os. lowered (n + m) os old) (append_assoc xs ys zs)

  between_refused : IsTooLong (width_of ys) before → IsTooLong (width_of (xs ++ (ys ++ zs))) old
  between_refused long =
      let lines : length before.lines ≡ length old.lines + width_of xs = ap (λ (e : Emission). length e.lines) began ∙ lowered_lines n xs old in
      omega (arith, width-append xs (ys ++ zs), width-append ys zs)

  behind_refused : (after : Emission) → after ≡ lowered m ys before → IsTooLong (width_of zs) after
      → IsTooLong (width_of (xs ++ (ys ++ zs))) old
  behind_refused after went long =
      let lines : length before.lines ≡ length old.lines + width_of xs = ap (λ (e : Emission). length e.lines) began ∙ lowered_lines n xs old in
      let more : length after.lines ≡ length before.lines + width_of ys = ap (λ (e : Emission). length e.lines) went ∙ lowered_lines m ys before in
      omega (arith, width-append xs (ys ++ zs), width-append ys zs)

  before_labels : length before.places ≡ length old.places + n
  before_labels = ap (λ (e : Emission). length e.places) began ∙ lowered_length n xs old

-- an expression with its labels from a number on
abbrev code_at : Labelled → Expr → (slot label : ℕ) → List Definition → List Operation
code_at names e slot label definitions =
    expr_code (functions_in names) (scope_in definitions names) e slot label

-- its code behind other code, by the number of its labels
lowered_at : (names : Labelled) (e : Expr) (slot label : ℕ) (before after : Emission)
    → length before.places ≡ label → IsLoweredAs names Value e slot before after
    → (definitions : List Definition)
    → after ≡ lowered (labels_in e) (code_at names e slot label definitions) before
lowered_at names e slot label before after count went definitions =
    went definitions ∙ (λ i. lowered (labels_in e) (code_at names e slot (count i) definitions) before)

refused_at : (names : Labelled) (e : Expr) (slot label : ℕ) (before : Emission)
    → length before.places ≡ label → IsRefusedAs names Value e slot before
    → (definitions : List Definition)
    → IsTooLong (width_of (code_at names e slot label definitions)) before
refused_at names e slot label before count refused definitions =
    subst (λ l. IsTooLong (width_of (code_at names e slot l definitions)) before) count (refused definitions)

start_marks : (n slot : ℕ) (o : Operation) → MarksBelow n (o ∷ [])
    → MarksBelow n (all_do (take_slot 5 slot) ++ o ∷ [])
start_marks n slot o h = marks_append n (all_do (take_slot 5 slot)) (o ∷ []) (marks_do n (take_slot 5 slot)) h

module _ (names : Labelled) (o : Binary) (b : Expr) (slot : ℕ) (old before : Emission)
    (began : before ≡ lowered 1 (logic_start o slot (length old.places)) old) where
  abbrev label : ℕ
  label = length old.places

  logic_labels : length before.places ≡ label + 1
  logic_labels = before_labels 1 0 (logic_start o slot label) [] [] old before began

  pub logic_lowered : (after new : Emission) → IsLoweredAs names Value b slot before after
      → new ≡ emit_all (logic_end slot label) after → (definitions : List Definition)
      → new ≡ lowered (1 + labels_in b) (logic_in names o b slot old definitions) old
  logic_lowered after new went ended definitions =
      between 1 (labels_in b) (logic_start o slot label) (code_at names b slot (label + 1) definitions) (logic_end slot label) old before began after new
      (start_marks (label + 1) slot (Branch (skips (group o)) 5 0 label) tt)
      (lowered_at names b slot (label + 1) before after logic_labels went definitions) ended

  pub logic_second_refused : IsRefusedAs names Value b slot before → (definitions : List Definition)
      → IsTooLong (width_of (logic_in names o b slot old definitions)) old
  logic_second_refused refused definitions =
      between_refused 1 (labels_in b) (logic_start o slot label) (code_at names b slot (label + 1) definitions) (logic_end slot label) old before began
      (refused_at names b slot (label + 1) before logic_labels refused definitions)

  pub logic_end_refused : (after : Emission) → IsLoweredAs names Value b slot before after
      → IsTooLong (width_of (logic_end slot label)) after → (definitions : List Definition)
      → IsTooLong (width_of (logic_in names o b slot old definitions)) old
  logic_end_refused after went long definitions =
      behind_refused 1 (labels_in b) (logic_start o slot label) (code_at names b slot (label + 1) definitions) (logic_end slot label) old before began after
      (lowered_at names b slot (label + 1) before after logic_labels went definitions) long

  -- the label is among those that there are
  pub logic_label : (after : Emission) → IsLoweredAs names Value b slot before after
      → label < length after.places
  logic_label after went =
      let count : length after.places ≡ length before.places + labels_in b = ap (λ (e : Emission). length e.places) (went []) ∙ lowered_length (labels_in b) (code_at names b slot (length before.places) []) before in
      omega (arith, logic_labels)

module _ (names : Labelled) (a b : Expr) (slot : ℕ) (old before : Emission)
    (began : before ≡ lowered 2 (conditional_start slot (length old.places)) old) where
  abbrev third : ℕ
  third = length old.places

  start_labels : length before.places ≡ third + 2
  start_labels = before_labels 2 0 (conditional_start slot third) [] [] old before began

  -- what is before the third operand
  abbrev front : List Definition → List Operation
  front definitions =
      conditional_start slot third ++ (code_at names a slot (third + 2) definitions ++ conditional_middle third)

  regroup : (definitions : List Definition)
      → front definitions ++ (code_at names b slot (third + 2 + labels_in a) definitions ++ conditional_end third)
      ≡ conditional_in names a b slot old definitions
  regroup definitions =
      let ca = code_at names a slot (third + 2) definitions in
      let rest = code_at names b slot (third + 2 + labels_in a) definitions ++ conditional_end third in
      append_assoc (conditional_start slot third) (ca ++ conditional_middle third) rest
      ∙ ap (λ os. conditional_start slot third ++ os) (append_assoc ca (conditional_middle third) rest)

  middle_lowered : (after middle : Emission) → IsLoweredAs names Value a slot before after
      → middle ≡ emit_all (conditional_middle third) after → (definitions : List Definition)
      → middle ≡ lowered (2 + labels_in a) (front definitions) old
  middle_lowered after middle went ended definitions =
      between 2 (labels_in a) (conditional_start slot third) (code_at names a slot (third + 2) definitions) (conditional_middle third) old before began after middle
      (start_marks (third + 2) slot (Branch test.Eq 5 0 third) tt)
      (lowered_at names a slot (third + 2) before after start_labels went definitions) ended

  pub second_labels : (after : Emission) → IsLoweredAs names Value a slot before after
      → length after.places ≡ third + 2 + labels_in a
  second_labels after went =
      let count : length after.places ≡ length before.places + labels_in a = ap (λ (e : Emission). length e.places) (went []) ∙ lowered_length (labels_in a) (code_at names a slot (length before.places) []) before in
      omega (arith, start_labels)

  module _ (after middle : Emission) (went : IsLoweredAs names Value a slot before after)
      (ended : middle ≡ emit_all (conditional_middle third) after) where
    pub middle_labels : length middle.places ≡ third + 2 + labels_in a
    middle_labels = ap (λ (e : Emission). length e.places) ended ∙ labels_same (conditional_middle third) after ∙ second_labels after went

    front_marks : (definitions : List Definition)
        → MarksBelow (third + (2 + labels_in a)) (front definitions)
    front_marks definitions =
        let n = third + (2 + labels_in a) in
        let ca = code_at names a slot (third + 2) definitions in
        let same : third + 2 + labels_in a ≤ n = omega arith in
        let low : third < n = omega arith in
        marks_append n (conditional_start slot third) (ca ++ conditional_middle third)
        (start_marks n slot (Branch test.Eq 5 0 third) tt)
        (marks_append n ca (conditional_middle third)
        (marks_more (third + 2 + labels_in a) n ca same (expr_marks (functions_in names) (scope_in definitions names) a slot (third + 2)))
        (low, tt))

    pub conditional_lowered : (last new : Emission) → IsLoweredAs names Value b slot middle last
        → new ≡ emit_all (conditional_end third) last → (definitions : List Definition)
        → new ≡ lowered (2 + labels_in a + labels_in b) (conditional_in names a b slot old definitions) old
    conditional_lowered last new next done definitions =
        between (2 + labels_in a) (labels_in b) (front definitions) (code_at names b slot (third + 2 + labels_in a) definitions) (conditional_end third) old middle (middle_lowered after middle went ended definitions) last new
        (front_marks definitions)
        (lowered_at names b slot (third + 2 + labels_in a) middle last middle_labels next definitions) done
        ∙ ap (λ os. lowered (2 + labels_in a + labels_in b) os old) (regroup definitions)

    pub conditional_third_refused : IsRefusedAs names Value b slot middle
        → (definitions : List Definition)
        → IsTooLong (width_of (conditional_in names a b slot old definitions)) old
    conditional_third_refused refused definitions =
        subst (λ os. IsTooLong (width_of os) old) (regroup definitions)
        (between_refused (2 + labels_in a) (labels_in b) (front definitions) (code_at names b slot (third + 2 + labels_in a) definitions) (conditional_end third) old middle (middle_lowered after middle went ended definitions)
        (refused_at names b slot (third + 2 + labels_in a) middle middle_labels refused definitions))

    pub conditional_end_refused : (last : Emission) → IsLoweredAs names Value b slot middle last
        → IsTooLong (width_of (conditional_end third)) last → (definitions : List Definition)
        → IsTooLong (width_of (conditional_in names a b slot old definitions)) old
    conditional_end_refused last next long definitions =
        subst (λ os. IsTooLong (width_of os) old) (regroup definitions)
        (behind_refused (2 + labels_in a) (labels_in b) (front definitions) (code_at names b slot (third + 2 + labels_in a) definitions) (conditional_end third) old middle (middle_lowered after middle went ended definitions) last
        (lowered_at names b slot (third + 2 + labels_in a) middle last middle_labels next definitions) long)

    -- both labels are among those that there are
    pub end_label : (last : Emission) → IsLoweredAs names Value b slot middle last
        → third + 1 < length last.places
    end_label last next =
        let count : length last.places ≡ length middle.places + labels_in b = ap (λ (e : Emission). length e.places) (next []) ∙ lowered_length (labels_in b) (code_at names b slot (length middle.places) []) middle in
        omega (arith, middle_labels)

  -- what is too long at its front is too long
  front_refused : (definitions : List Definition) → IsTooLong (width_of (front definitions)) old
      → IsTooLong (width_of (conditional_in names a b slot old definitions)) old
  front_refused definitions long =
      subst (λ os. IsTooLong (width_of os) old) (regroup definitions)
      (omega (arith, width-append (front definitions) (code_at names b slot (third + 2 + labels_in a) definitions ++ conditional_end third)))

  pub conditional_second_refused : IsRefusedAs names Value a slot before
      → (definitions : List Definition)
      → IsTooLong (width_of (conditional_in names a b slot old definitions)) old
  conditional_second_refused refused definitions =
      front_refused definitions
      (between_refused 2 (labels_in a) (conditional_start slot third) (code_at names a slot (third + 2) definitions) (conditional_middle third) old before began
      (refused_at names a slot (third + 2) before start_labels refused definitions))

  pub conditional_middle_refused : (after : Emission) → IsLoweredAs names Value a slot before after
      → IsTooLong (width_of (conditional_middle third)) after → (definitions : List Definition)
      → IsTooLong (width_of (conditional_in names a b slot old definitions)) old
  conditional_middle_refused after went long definitions =
      front_refused definitions
      (behind_refused 2 (labels_in a) (conditional_start slot third) (code_at names a slot (third + 2) definitions) (conditional_middle third) old before began after
      (lowered_at names a slot (third + 2) before after start_labels went definitions) long)
