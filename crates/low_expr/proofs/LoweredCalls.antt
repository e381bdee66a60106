-- The arguments of a call, one after another, and the call.
use Rattle.std.proofs.Common.{◌≡◌, ℕ, zero, suc, ◌+◌, ◌<◌, ◌≤◌, List, [], ◌∷◌, ◌++◌, Option, Some, None, length, refl, ap, sym, subst, ◌∙◌, arith, max}
use Rattle.std.specs.Prelude.{slice_get}
use Rattle.std.proofs.lemmas.List.Elements.{All-weaker}
use Rattle.c_tree.specs.declared.place.Place.{Place as At}
use Rattle.c_tree.specs.declared.tree.Callee.{Callee}
use Rattle.c_tree.specs.declared.tree.Callee.TheVariants as callee
use Rattle.c_tree.specs.declared.tree.Expr.{Expr as ExprTree}
use Rattle.c_tree.specs.Item.{Item}
use Rattle.c_tree.specs.Expr.{Expr, Exprs}
use Rattle.c_tree.specs.Expr as expr
use Rattle.c_tree.specs.View.{exprs_of}
use Rattle.c_layout.specs.Slots.{slots, slots_from}
use Rattle.c_semantics.specs.Evaluated.{count_of_arguments}
use Rattle.c_semantics.specs.Meaning.{definition}
use Rattle.c_semantics.specs.Names.{Definition, Names, no_names}
use Rattle.c_resolve.specs.DeclaredNames.{numbered}
use Rattle.c_resolve.specs.Routines.{definitions_of, number_from}
use Rattle.c_resolve.proofs.Numbering.{definition_numbered}
use Rattle.low_labels.specs.Emission.{Emission, emit_all, IsTooLong}
use Rattle.low_labels.specs.Operation.{Operation, width_of}
use Rattle.low_expr.specs.declared.names.Names.{Names as Labelled}
use Rattle.low_expr.specs.declared.piece.TheConstants.{SLOTS}
use Rattle.low_expr.specs.declared.wanted.Wanted.{Wanted}
use Rattle.low_expr.specs.declared.wanted.Wanted.TheVariants.{Value, Place}
use Rattle.low_expr.specs.ExprCode.{expr_code, arguments_code, call_code, labels_in, labels_in_all}
use Rattle.low_expr.specs.LabelledNames.{scope_in, functions_in, HasLabels, AreFunctionsOf}
use Rattle.low_expr.specs.Lowering.{lowered}
use Rattle.low_expr.specs.private.Wanting.{arguments_in, code_in, above_in, labels_above, AreReadyIn, IsReadyAs, IsLoweredAs, IsRefusedAs, IsLoweredAbove, HasNumber, CanCall}
use Rattle.low_expr.proofs.AboveOperands.{room_of_arguments}
use Rattle.low_expr.proofs.CodeMarks.{expr_marks}
use Rattle.low_expr.proofs.MarkLemmas.{lowered_length, lowered_behind, emitted_behind}
use Rattle.low_expr.proofs.LoweredParts.{too_long_with, too_long_before}

-- labels stay among those that there are
pub labels_kept : (names : Labelled) (n : ℕ) (os : List Operation) (old new : Emission)
    → new ≡ lowered n os old → HasLabels names (length old.places)
    → HasLabels names (length new.places)
labels_kept names n os old new is has =
    let more : length new.places ≡ length old.places + n = ap (λ (e : Emission). length e.places) is ∙ lowered_length n os old in
    record {
      count = has.count;
      below = All-weaker (λ label. label < length old.places) (λ label. label < length new.places) (λ label low. omega (arith, low, more)) names.labels.items has.below;
    }

module _ (names : Labelled) (w : Wanted) (e : Expr) (slot : ℕ) (old new : Emission) where
  pub labels_after : IsLoweredAs names w e slot old new → HasLabels names (length old.places)
      → HasLabels names (length new.places)
  labels_after went has = labels_kept names (labels_in e) (code_in names w e slot old []) old new (went []) has

  pub labels_behind : IsLoweredAbove names w e slot old new → HasLabels names (length old.places)
      → HasLabels names (length new.places)
  labels_behind went has = labels_kept names (labels_above e) (above_in names w e slot old []) old new (went []) has

module _ (names : Labelled) (e : Expr) (rest all : Exprs) (is : all ≡ expr.More e rest) where
  pub argument_ready : AreReadyIn names all → IsReadyAs names Value e
  argument_ready r =
      let ready = subst (λ es. AreReadyIn names es) is r in
      record { text = ready.text; functions = ready.functions; ready = ready.ready.0 }

  pub arguments_ready : AreReadyIn names all → AreReadyIn names rest
  arguments_ready r =
      let ready = subst (λ es. AreReadyIn names es) is r in
      record { text = ready.text; functions = ready.functions; ready = ready.ready.1 }

  pub argument_slots : (slot i : ℕ) → slot + slots_from i all ≤ SLOTS
      → slot + i + slots e ≤ SLOTS
  argument_slots slot i room =
      let same : slots_from i all ≡ max (i + slots e) (slots_from (1 + i) rest) = ap (slots_from i) is in
      omega arith

  pub arguments_slots : (slot i : ℕ) → slot + slots_from i all ≤ SLOTS
      → slot + slots_from (i + 1) rest ≤ SLOTS
  arguments_slots slot i room =
      let same : slots_from i all ≡ max (i + slots e) (slots_from (1 + i) rest) = ap (slots_from i) is in
      let next : i + 1 ≡ 1 + i = omega arith in
      let more : slots_from (i + 1) rest ≡ slots_from (1 + i) rest = ap (λ k. slots_from k rest) next in
      omega arith

  module _ (into : ℕ) (before : Emission) (definitions : List Definition) where
    abbrev code : List Operation
    code = expr_code (functions_in names) (scope_in definitions names) e into (length before.places)

    abbrev later : (label : ℕ) → List Operation
    later label = arguments_code (functions_in names) (scope_in definitions names) rest (into + 1) label

    all_is : arguments_in names all into before definitions
        ≡ code ++ later (length before.places + labels_in e)
    all_is = ap (λ es. arguments_in names es into before definitions) is

    pub argument_refused : IsRefusedAs names Value e into before
        → IsTooLong (width_of (arguments_in names all into before definitions)) before
    argument_refused refused =
        subst (λ os. IsTooLong (width_of os) before) (sym all_is)
        (too_long_before code (later (length before.places + labels_in e)) before (refused definitions))

    module _ (after : Emission) (went : IsLoweredAs names Value e into before after) where
      next_label : length after.places ≡ length before.places + labels_in e
      next_label = ap (λ (m : Emission). length m.places) (went definitions) ∙ lowered_length (labels_in e) code before

      pub arguments_lowered : lowered (labels_in_all rest)
          (arguments_in names rest (into + 1) after definitions) after
          ≡ lowered (labels_in_all all) (arguments_in names all into before definitions) before
      arguments_lowered =
          (λ i. lowered (labels_in_all rest) (later (next_label i)) (went definitions i))
          ∙ lowered_behind (labels_in e) (labels_in_all rest) code (later (length before.places + labels_in e)) before
          (expr_marks (functions_in names) (scope_in definitions names) e into (length before.places))
          ∙ (λ i. lowered (labels_in_all (sym is i)) (sym all_is i) before)

      pub arguments_refused : IsTooLong
          (width_of (arguments_in names rest (into + 1) after definitions)) after
          → IsTooLong (width_of (arguments_in names all into before definitions)) before
      arguments_refused long =
          let here = subst (λ label. IsTooLong (width_of (later label)) after) next_label long in
          subst (λ os. IsTooLong (width_of os) before) (sym all_is)
          (too_long_with (labels_in e) code (later (length before.places + labels_in e)) before
          (subst (λ m. IsTooLong (width_of (later (length before.places + labels_in e))) m) (went definitions) here))

pub count_is : (es : List ExprTree) → length es ≡ count_of_arguments (exprs_of es)
count_is [] = refl
count_is (e ∷ es) = ap suc (count_is es)

-- a call's code is that of its arguments, and what depends on no name but the function's
call_same : (functions : List ℕ → ℕ) (names : Names) (c : Callee) (count slot : ℕ)
    → call_code functions no_names c count slot ≡ call_code functions names c count slot
call_same functions names (callee.Name name) count slot = refl
call_same functions names callee.Getchar count slot = refl
call_same functions names callee.Putchar count slot = refl

module _ (names : Labelled) (c : Callee) (all : Exprs) (at : At) (slot count : ℕ)
    (counted : count ≡ count_of_arguments all) (old : Emission) where
  abbrev call : Expr
  call = expr.Call c all at

  abbrev calls : List Operation
  calls = call_code (functions_in names) no_names c count slot

  call_is : (definitions : List Definition) → code_in names Value call slot old definitions
      ≡ arguments_in names all slot old definitions ++ calls
  call_is definitions =
      let scope = scope_in definitions names in
      let last : call_code (functions_in names) scope c (count_of_arguments all) slot ≡ calls =
      sym (call_same (functions_in names) scope c count slot ∙ ap (λ n. call_code (functions_in names) scope c n slot) counted) in
      ap (λ os. arguments_in names all slot old definitions ++ os) last

  pub call_arguments_refused : ((definitions : List Definition)
      → IsTooLong (width_of (arguments_in names all slot old definitions)) old)
      → IsRefusedAs names Value call slot old
  call_arguments_refused refused = λ definitions.
      subst (λ os. IsTooLong (width_of os) old) (sym (call_is definitions))
      (too_long_before (arguments_in names all slot old definitions) calls old (refused definitions))

  module _ (mid : Emission)
      (went : (definitions : List Definition) → mid ≡ lowered (labels_in_all all) (arguments_in names all slot old definitions) old) where
    pub call_refused : IsTooLong (width_of calls) mid → IsRefusedAs names Value call slot old
    call_refused long = λ definitions.
        subst (λ os. IsTooLong (width_of os) old) (sym (call_is definitions))
        (too_long_with (labels_in_all all) (arguments_in names all slot old definitions) calls old
        (subst (λ m. IsTooLong (width_of calls) m) (went definitions) long))

    pub call_lowered : (new : Emission) → new ≡ emit_all calls mid
        → IsLoweredAs names Value call slot old new
    call_lowered new is = λ definitions.
        is ∙ ap (emit_all calls) (went definitions)
        ∙ emitted_behind (labels_in_all all) (arguments_in names all slot old definitions) calls old
        ∙ ap (λ os. lowered (labels_in_all all) os old) (sym (call_is definitions))

-- a number that there is
within : (ds : List Definition) (k : ℕ) (d : Definition) → slice_get ds k ≡ Some d → k < length ds
within [] zero d h = cc
within [] (suc k) d h = cc
within (x ∷ ds) zero d h = omega arith
within (x ∷ ds) (suc k) d h = omega (arith, within ds k d h)

numbered_some : (ds : List Definition) (o : Option ℕ) (d : Definition) → numbered ds o ≡ Some d
    → (k : ℕ) × (o ≡ Some k) × (k < length ds)
numbered_some ds None d h = cc
numbered_some ds (Some k) d h = (k, refl, within ds k d h)

pub has_number : (names : Labelled) (labels : ℕ) (text : List Item) (name : List ℕ) (d : Definition)
    → HasLabels names labels → AreFunctionsOf text names → definition text name ≡ Some d
    → HasNumber names name
has_number names labels text name d has functions is =
    let ds = definitions_of text in
    let found = numbered_some ds (number_from 0 ds name) d (definition_numbered text name ∙ is) in
    record {
      number = found.0;
      is = functions.first name ∙ found.1;
      low = omega (arith, found.2, has.count, functions.count);
    }

-- what is ready can be called
pub can_call : (names : Labelled) (c : Callee) (all : Exprs) (at : At) (count labels : ℕ)
    → count ≡ count_of_arguments all → HasLabels names labels
    → IsReadyAs names Value (expr.Call c all at) → CanCall names c count
can_call names (callee.Name name) all at count labels counted has r =
    let called = r.ready.1 in
    (omega (arith, called.few), has_number names labels r.text name called.definition has r.functions called.has_code)
can_call names callee.Getchar all at count labels counted has r = tt
can_call names callee.Putchar all at count labels counted has r = tt

pub call_slots : (all : Exprs) (slot count : ℕ) → count ≡ count_of_arguments all
    → slot + max 1 (slots_from 0 all) ≤ SLOTS → slot + count ≤ SLOTS
call_slots all slot count counted room =
    omega (arith, room_of_arguments all slot 0 SLOTS (omega arith) (omega arith))

-- a call is no place
call_wanted : (names : Labelled) (w : Wanted) (c : Callee) (all : Exprs) (at : At)
    → IsReadyAs names w (expr.Call c all at) → w ≡ Value
call_wanted names Value c all at r = refl
call_wanted names Place c all at r = absurd r.ready

-- so what is ready, and known to be a call, is a value
module _ (names : Labelled) {w : Wanted} {e : Expr} {c : Callee} {all : Exprs} {at : At}
    (here : e ≡ expr.Call c all at) (ready : IsReadyAs names w e) (slot : ℕ) (old : Emission) where
  wanted : w ≡ Value
  wanted = call_wanted names w c all at (subst (IsReadyAs names w) here ready)

  pub called_lowered : (new : Emission) → IsLoweredAs names Value (expr.Call c all at) slot old new
      → IsLoweredAs names w e slot old new
  called_lowered new went =
      subst (λ v. IsLoweredAs names v e slot old new) (sym wanted)
      (subst (λ x. IsLoweredAs names Value x slot old new) (sym here) went)

  pub called_refused : IsRefusedAs names Value (expr.Call c all at) slot old
      → IsRefusedAs names w e slot old
  called_refused refused =
      subst (λ v. IsRefusedAs names v e slot old) (sym wanted)
      (subst (λ x. IsRefusedAs names Value x slot old) (sym here) refused)
