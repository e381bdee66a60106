-- The first differing byte, place by place.
use Rattle.std.proofs.Common.{◌≡◌, ℕ, ◌+◌, ◌*◌, ◌-◌, ◌<◌, ◌==◌, Bool, true, false, if◌then◌else◌, List, drop, Option, Some, None, refl, sym, ap, ◌∙◌, arith, eq-eqb, ne_eqb}
use Rattle.std.specs.Prelude.{slice_index}
use Rattle.std.proofs.lemmas.List.{get_or-take, get_or-drop}
use Rattle.bop_bits.specs.MemoryNumbers.{byte_at}
use Rattle.bop_bits.specs.Pages.{page_at}
use Rattle.bop_bits.specs.declared.map.TheConstants.{DATA_FROM, PAGE_BYTES}
use Rattle.value_check.specs.declared.difference.Difference.{Difference}
use Rattle.value_check.specs.FirstDifference.{address_of, difference_at, first_difference}
use Rattle.value_check.specs.FirstOf.{first_of}
use Rattle.value_check.proofs.FirstOfLemmas.{none-next, some-first, first_of-same}

-- the byte at a place of a page
pub byte_of_page : (memory : List ℕ) (page place : ℕ) → place < PAGE_BYTES
    → slice_index (page_at memory page) place ≡ byte_at memory (address_of page place)
byte_of_page memory page place h =
    let at : DATA_FROM + PAGE_BYTES * page + place - DATA_FROM ≡ PAGE_BYTES * page + place = omega arith in
    get_or-take PAGE_BYTES (drop (PAGE_BYTES * page) memory) place 0 h
    ∙ get_or-drop (PAGE_BYTES * page) memory place 0 ∙ ap (slice_index memory) (sym at)

module _ (now seen : List ℕ) (page : ℕ) (which : ℕ → Bool) where
  -- what is asked at a place
  abbrev pub asked : ℕ → Option Difference
  asked place = if which place then difference_at now seen (address_of page place) else None

  -- what is answered, by the tests and the bytes
  abbrev answer : (place : ℕ) (inside equal : Bool) (theirs ours : ℕ) → Option Difference
  answer place inside equal theirs ours =
      if inside
      then (if equal then None else Some (record { address = address_of page place; seen = theirs; now = ours }))
      else None

  answer-same : (place : ℕ) (inside : Bool) (theirs ours : ℕ) → answer place inside true theirs ours ≡ None
  answer-same place true theirs ours = refl
  answer-same place false theirs ours = refl

  module _ (ours theirs : List ℕ) (place : ℕ) (e : ours ≡ page_at now page) (g : theirs ≡ page_at seen page) (h : place < PAGE_BYTES) where
    our-byte : byte_at now (address_of page place) ≡ slice_index ours place
    our-byte = sym (ap (λ xs. slice_index xs place) e ∙ byte_of_page now page place h)

    their-byte : byte_at seen (address_of page place) ≡ slice_index theirs place
    their-byte = sym (ap (λ xs. slice_index xs place) g ∙ byte_of_page seen page place h)

    asked-is : asked place
        ≡ answer place (which place) (slice_index ours place == slice_index theirs place) (slice_index theirs place) (slice_index ours place)
    asked-is =
        ap (λ b. answer place (which place) (b == byte_at seen (address_of page place)) (byte_at seen (address_of page place)) b) our-byte
        ∙ ap (λ b. answer place (which place) (slice_index ours place == b) b (slice_index ours place)) their-byte

    pub alike_next : slice_index ours place ≡ slice_index theirs place → first_of asked place ≡ None
        → first_of asked (place + 1) ≡ None
    alike_next same none =
        none-next asked place none
        (asked-is
        ∙ ap (λ b. answer place (which place) b (slice_index theirs place) (slice_index ours place)) (eq-eqb _ _ same)
        ∙ answer-same place (which place) (slice_index theirs place) (slice_index ours place))

    pub outside_next : which place ≡ false → first_of asked place ≡ None → first_of asked (place + 1) ≡ None
    outside_next out none =
        none-next asked place none
        (ap (λ b. if b then difference_at now seen (address_of page place) else None) out)

    pub found : (slice_index ours place ≡ slice_index theirs place → ⊥) → which place ≡ true
        → first_of asked place ≡ None
        → Some (record { address = address_of page place; seen = slice_index theirs place; now = slice_index ours place })
        ≡ first_difference now seen page which
    found differ in_ none =
        sym (some-first asked place PAGE_BYTES _ h none
        (asked-is
        ∙ ap (λ b. answer place b (slice_index ours place == slice_index theirs place) (slice_index theirs place) (slice_index ours place)) in_
        ∙ ap (λ b. answer place true b (slice_index theirs place) (slice_index ours place)) (ne_eqb _ _ differ)))

-- a set with all places of a page
pub first_difference-whole : (now seen : List ℕ) (page : ℕ) (which : ℕ → Bool)
    → ((place : ℕ) → place < PAGE_BYTES → which place ≡ true)
    → first_difference now seen page which ≡ first_difference now seen page (λ place. true)
first_difference-whole now seen page which all =
    first_of-same (asked now seen page which) (asked now seen page (λ place. true)) PAGE_BYTES
    (λ place h. ap (λ b. if b then difference_at now seen (address_of page place) else None) (all place h))
