-- Parts that are added to code one after another.
use Rattle.std.proofs.Common.{◌≡◌, ℕ, zero, suc, ◌+◌, ◌<◌, ◌≤◌, ◌⊎◌, inl, inr, ⊎_elim, List, [], ◌∷◌, ◌++◌, length, None, refl, ap, sym, subst, ◌∙◌, arith, add-zero, append-nil}
use Rattle.std.specs.Prelude.{slice_index_or, slice_set}
use Rattle.std.proofs.lemmas.Bool.{cases_lt}
use Rattle.std.proofs.lemmas.List.{get_or_append_left, length-append}
use Rattle.rv_code.specs.Step.{address_of}
use Rattle.c_semantics.specs.Names.{Definition}
use Rattle.low_labels.specs.Closed.{at_or_first, place_in, IsUnplaced}
use Rattle.low_labels.specs.Emission.{Emission, fresh, emit_all}
use Rattle.low_labels.specs.Operation.{Operation, Do, Jump, Branch, Mark}
use Rattle.low_labels.proofs.EmissionLemmas.{kept}
use Rattle.low_expr.specs.Lowering.{fresh_by, lowered}
use Rattle.low_expr.proofs.Emitting.{labels_same}
use Rattle.low_expr.proofs.MarkLemmas.{MarksBelow, fresh_add, fresh_length, lowered_behind, lowered_length}
use Rattle.low_stmt.specs.RegionEnds.{RegionEnd, with_ends}
use Rattle.low_stmt.specs.private.Parts.{Part, joined, operations, labels_alone, AreEndsWithin, IsAdded, Adds}
use Rattle.low_stmt.proofs.UnplacedLabels.{ArePlain, plain_unplaced, unplaced_append}

-- labels that aren't placed from a number on
pub below_others : (n : ℕ) (os : List Operation) → ((k : ℕ) → n ≤ k → IsUnplaced k os)
    → MarksBelow n os
below_others n [] h = tt
below_others n (Do i ∷ os) h = below_others n os h
below_others n (Jump rd l ∷ os) h = below_others n os h
below_others n (Branch t a b l ∷ os) h = below_others n os h
below_others n (Mark l ∷ os) h = (
  ⊎_elim (λ x. x) (λ x. absurd ((h l x).0 refl)) (cases_lt l n),
  below_others n os (λ k le. (h k le).1),
)

pub within_more : (low n m : ℕ) (es : List RegionEnd) → n ≤ m → AreEndsWithin low n es
    → AreEndsWithin low m es
within_more low n m [] le h = tt
within_more low n m (e ∷ es) le h =
    let high = h.1 in (h.0, omega arith, within_more low n m es le h.2)

pub within_less : (low less n : ℕ) (es : List RegionEnd) → less ≤ low → AreEndsWithin low n es
    → AreEndsWithin less n es
within_less low less n [] le h = tt
within_less low less n (e ∷ es) le h =
    let first = h.0 in (omega arith, h.1, within_less low less n es le h.2)

pub within_append : (low n : ℕ) (es fs : List RegionEnd) → AreEndsWithin low n es
    → AreEndsWithin low n fs → AreEndsWithin low n (es ++ fs)
within_append low n [] fs h g = g
within_append low n (e ∷ es) fs h g = (h.0, h.1, within_append low n es fs h.2 g)

-- labels stay where they are as others are made
fresh_kept : (n : ℕ) (e : Emission) (label : ℕ) → label < length e.places
    → slice_index_or (fresh_by n e).places label None ≡ slice_index_or e.places label None
fresh_kept zero e label low = refl
fresh_kept (suc n) e label low =
    let more : label < length (fresh e).places = omega (arith, length-append e.places (None ∷ [])) in
    fresh_kept n (fresh e) label more ∙ get_or_append_left e.places (None ∷ []) None label low

pub place_kept : (n : ℕ) (os : List Operation) (e : Emission) (label : ℕ) → label < length e.places
    → IsUnplaced label os
    → place_in (lowered n os e).places label ≡ place_in e.places label
place_kept n os e label low away =
    ap at_or_first (kept os (fresh_by n e) label away ∙ fresh_kept n e label low)

pub ends_append : (labels : ℕ → ℕ) (es fs : List RegionEnd) (ends : List ℕ)
    → with_ends labels (es ++ fs) ends ≡ with_ends labels fs (with_ends labels es ends)
ends_append labels [] fs ends = refl
ends_append labels (e ∷ es) fs ends =
    ends_append labels es fs (slice_set ends e.number (address_of (labels e.label)))

-- by places that are the same for labels within two numbers
pub ends_kept : (f g : ℕ → ℕ) (low n : ℕ) (es : List RegionEnd) (ends : List ℕ)
    → AreEndsWithin low n es → ((k : ℕ) → low ≤ k → k < n → g k ≡ f k)
    → with_ends f es ends ≡ with_ends g es ends
ends_kept f g low n [] ends h same = refl
ends_kept f g low n (e ∷ es) ends h same =
    ap (λ at. with_ends f es (slice_set ends e.number (address_of at))) (sym (same e.label h.0 h.1))
    ∙ ends_kept f g low n es (slice_set ends e.number (address_of (g e.label))) h.2 same

pub added_length : (from low : ℕ) (p : Part) (old new : Emission) → IsAdded from low p old new
    → length new.places ≡ length old.places + p.labels
added_length from low p old new h =
    ap (λ (e : Emission). length e.places) (h.code []) ∙ lowered_length p.labels (p.code []) old

module _ (from low : ℕ) (p q : Part) (old mid new : Emission) where
  -- one part and then another, which share labels that were made before both
  pub added_next : low ≤ length old.places → IsAdded from low p old mid → IsAdded from low q mid new
      → IsAdded from low (joined p q) old new
  added_next le h g = record {
    code = λ ds.
        g.code ds
        ∙ (ap (lowered q.labels (q.code ds)) (h.code ds)
        ∙ lowered_behind p.labels q.labels (p.code ds) (q.code ds) old
        (below_others (length old.places + p.labels) (p.code ds) (λ k more. h.apart ds k (inr (inr more)))));
    apart = λ ds k out.
        let len = added_length from low p old mid h in
        unplaced_append k (p.code ds) (q.code ds)
        (h.apart ds k (⊎_elim (λ x. inl x) (λ x. inr (⊎_elim (λ y. inl y) (λ y. inr (omega arith)) x)) out))
        (g.apart ds k (⊎_elim (λ x. inl x)
        (λ x. inr (⊎_elim (λ y. let first = y.0 in let last = y.1 in inl (first, omega arith)) (λ y. inr (omega arith)) x)) out));
    within =
        let len = added_length from low p old mid h in
        within_append low (length old.places + (p.labels + q.labels)) p.ends q.ends
        (within_more low (length old.places + p.labels) (length old.places + (p.labels + q.labels)) p.ends (omega arith) h.within)
        (within_more low (length mid.places + q.labels) (length old.places + (p.labels + q.labels)) q.ends (omega arith) g.within);
  }

  -- the ends of both are written
  pub ends_next : (e0 e1 e2 : List ℕ) → IsAdded from low p old mid → IsAdded from low q mid new
      → e1 ≡ with_ends (place_in mid.places) p.ends e0
      → e2 ≡ with_ends (place_in new.places) q.ends e1
      → e2 ≡ with_ends (place_in new.places) (p.ends ++ q.ends) e0
  ends_next e0 e1 e2 h g first second =
      second
      ∙ (ap (with_ends (place_in new.places) q.ends)
      (first ∙ ends_kept (place_in mid.places) (place_in new.places) low (length old.places + p.labels) p.ends e0 h.within same)
      ∙ sym (ends_append (place_in new.places) p.ends q.ends e0))
    where
      same : (k : ℕ) → low ≤ k → k < length old.places + p.labels
          → place_in new.places k ≡ place_in mid.places k
      same k more less =
          let len = added_length from low p old mid h in
          let there : k < length mid.places = omega arith in
          ap (λ (e : Emission). place_in e.places k) (g.code [])
          ∙ place_kept q.labels (q.code []) mid k there (g.apart [] k (inr (inl (more, there))))

-- a part that places its own labels alone, where others share older ones
pub added_wide : (from low : ℕ) (p : Part) (old new : Emission) → from ≤ low
    → low ≤ length old.places → IsAdded (length old.places) (length old.places) p old new
    → IsAdded from low p old new
added_wide from low p old new le less h = record {
  code = h.code;
  apart = λ ds k out.
      h.apart ds k (⊎_elim (λ x. inl (omega arith)) (λ x. ⊎_elim (λ y. let last = y.1 in inl (omega arith)) (λ y. inr (inr y)) x) out);
  within = within_less (length old.places) low (length old.places + p.labels) p.ends less h.within;
}

-- operations that place older labels alone
pub added_older : (from low : ℕ) (os : List Operation) (old new : Emission)
    → low ≤ length old.places → new ≡ emit_all os old
    → ((k : ℕ) → (k < from) ⊎ (low ≤ k) → IsUnplaced k os)
    → IsAdded from low (operations os) old new
added_older from low os old new le is away = record {
  code = λ ds. is;
  apart = λ ds k out.
      away k (⊎_elim (λ x. inl x) (λ x. inr (⊎_elim (λ y. y.0) (λ y. omega arith) x)) out);
  within = tt;
}

-- and those that place none
pub added_plain : (from low : ℕ) (os : List Operation) (old new : Emission)
    → low ≤ length old.places → new ≡ emit_all os old → ArePlain os
    → IsAdded from low (operations os) old new
added_plain from low os old new le is plain =
    added_older from low os old new le is (λ k out. plain_unplaced os k plain)

pub added_mark : (from low label : ℕ) (old new : Emission) → low ≤ length old.places
    → new ≡ emit_all (Mark label ∷ []) old → from ≤ label → label < low
    → IsAdded from low (operations (Mark label ∷ [])) old new
added_mark from low label old new le is more less =
    added_older from low (Mark label ∷ []) old new le is
    (λ k out. (λ e. ⊎_elim (λ x. let no : ⊥ = omega arith in no) (λ x. let no : ⊥ = omega arith in no) out, tt))

-- labels that are made first are the part's own
pub added_closed : (n : ℕ) (p : Part) (old new : Emission)
    → IsAdded (length old.places) (length old.places + n) p (fresh_by n old) new
    → IsAdded (length old.places) (length old.places) (joined (labels_alone n) p) old new
added_closed n p old new h = record {
  code = λ ds. h.code ds ∙ ap (emit_all (p.code ds)) (fresh_add n p.labels old);
  apart = λ ds k out.
      let len = fresh_length n old in
      h.apart ds k (⊎_elim (λ x. inl x) (λ x. ⊎_elim (λ y. let a = y.0 in let b = y.1 in let no : ⊥ = omega arith in absurd no) (λ y. inr (inr (omega arith))) x) out);
  within =
      let len = fresh_length n old in
      within_less (length old.places + n) (length old.places) (length old.places + (n + p.labels)) p.ends (omega arith)
      (within_more (length old.places + n) (length (fresh_by n old).places + p.labels) (length old.places + (n + p.labels)) p.ends (omega arith) h.within);
}

-- a part by what it is made of
pub added_as : (from low : ℕ) (p q : Part) (old new : Emission) → p.labels ≡ q.labels
    → ((ds : List Definition) → p.code ds ≡ q.code ds) → p.ends ≡ q.ends
    → IsAdded from low p old new → IsAdded from low q old new
added_as from low p q old new labels code ends h =
    subst (λ part. IsAdded from low part old new)
    (λ i. record { labels = labels i; code = λ ds. code ds i; ends = ends i }) h

-- one part and then another, where a part is made of both
pub added_then : (from low : ℕ) (p q r : Part) (old mid new : Emission)
    → low ≤ length old.places → IsAdded from low p old mid → IsAdded from low q mid new
    → p.labels + q.labels ≡ r.labels
    → ((ds : List Definition) → p.code ds ++ q.code ds ≡ r.code ds)
    → p.ends ++ q.ends ≡ r.ends → IsAdded from low r old new
added_then from low p q r old mid new le h g labels code ends =
    added_as from low (joined p q) r old new labels code ends (added_next from low p q old mid new le h g)

-- operations before a part, and after one
pub added_behind : (part : ℕ → Part) (os : List Operation) (old mid new : Emission)
    → mid ≡ emit_all os old → ArePlain os → Adds part mid new
    → Adds (λ label. record {
      labels = (part label).labels;
      code = λ ds. os ++ (part label).code ds;
      ends = (part label).ends;
    }) old new
added_behind part os old mid new is plain h =
    let first = length old.places in
    let same = ap (λ (e : Emission). length e.places) is ∙ labels_same os old in
    let later = subst (λ k. IsAdded k k (part k) mid new) same h in
    let none : 0 + (part first).labels ≡ (part first).labels = omega arith in
    added_then first first (operations os) (part first) (record {
      labels = (part first).labels;
      code = λ ds. os ++ (part first).code ds;
      ends = (part first).ends;
    })
    old mid new (omega arith) (added_plain first first os old mid (omega arith) is plain) later none (λ ds. refl) refl

pub added_before : (part : ℕ → Part) (os : List Operation) (old mid new : Emission)
    → Adds part old mid → new ≡ emit_all os mid → ArePlain os
    → Adds (λ label. record {
      labels = (part label).labels;
      code = λ ds. (part label).code ds ++ os;
      ends = (part label).ends;
    }) old new
added_before part os old mid new h is plain =
    let first = length old.places in
    let len = added_length first first (part first) old mid h in
    added_then first first (part first) (operations os) (record {
      labels = (part first).labels;
      code = λ ds. (part first).code ds ++ os;
      ends = (part first).ends;
    })
    old mid new (omega arith) h (added_plain first first os mid new (omega arith) is plain)
    (add-zero (part first).labels) (λ ds. refl) (append-nil (part first).ends)
