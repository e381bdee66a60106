-- Conflicts where nothing was touched, and of x0.
use Rattle.std.proofs.Common.{◌≡◌, ℕ, ◌<◌, ◌⊎◌, inl, inr, Bool, true, false, if◌then◌else◌, List, Option, None, refl, sym, ap, ◌∙◌, subst, ⊎_elim, arith}
use Rattle.std.specs.Prelude.{◌||◌, ◌↔◌, IsTrue}
use Rattle.bop_bits.specs.BitSets.{is_in}
use Rattle.bop_bits.specs.MemoryNumbers.{byte_at}
use Rattle.bop_bits.specs.Pages.{page_of, place_of}
use Rattle.bop_bits.specs.declared.class.Class.{Class}
use Rattle.bop_bits.specs.declared.class.Class.TheVariants as class
use Rattle.bop_bits.specs.declared.map.TheConstants.{PAGE_BYTES}
use Rattle.access_log.specs.Held.{has, HasSomeOf}
use Rattle.access_log.specs.MaskedPages.{has_place}
use Rattle.access_log.specs.declared.places.Places.{Places}
use Rattle.access_log.specs.declared.spot.Spot.{Spot}
use Rattle.access_log.specs.declared.spot.Spot.TheVariants as spot
use Rattle.rv_step.specs.declared.cpu.Cpu.{Cpu}
use Rattle.value_check.specs.FirstDifference.{address_of, first_difference}
use Rattle.value_check.specs.FirstOf.{first_of}
use Rattle.value_check.proofs.FirstOfLemmas.{first_of-zero, none-next, none-of}
use Rattle.conflict_check.specs.Verdict.{register_conflict, byte_conflict, page_conflict, page_test, byte_test}
use Rattle.conflict_check.specs.declared.conflict.Conflict.{Conflict}

either : (b : Bool) (same : Option Conflict) → (if b then same else same) ≡ same
either true same = refl
either false same = refl

-- x0 is 0 in both
pub x0-is-the-same : (first : Spot → Bool) (seen now : Cpu)
    → first_of (register_conflict first seen now) 1 ≡ None
x0-is-the-same first seen now =
    none-next (register_conflict first seen now) 0 (first_of-zero (register_conflict first seen now))
    (either (first (spot.Register 0)) None)

-- the page of an address
pub page-of-address : (page place : ℕ) → place < PAGE_BYTES → page_of (address_of page place) ≡ page
page-of-address page place h = omega (arith, h)

not-true : (b : Bool) → (b ≡ true → ⊥) → b ≡ false
not-true true e = absurd (e refl)
not-true false e = refl

or-true : (a b : Bool) → (a || b) ≡ true → (a ≡ true) ⊎ (b ≡ true)
or-true true b e = inl refl
or-true false b e = inr e

some-of : (places : Places) (n page place : ℕ) → n ≡ page
    → (is_in places.pages.words n || has_place places.bytes n place) ≡ true → HasSomeOf places page
some-of places n page place e h =
    subst (HasSomeOf places) e
    (⊎_elim (λ whole. inl whole) (λ byte. inr (place, byte))
    (or-true (is_in places.pages.words n) (has_place places.bytes n place) h))

-- no byte of a page that isn't touched is
pub untouched-byte : (places : Places) (page place : ℕ) → place < PAGE_BYTES
    → (HasSomeOf places page → ⊥) → has places (spot.Byte (address_of page place)) ≡ false
untouched-byte places page place h none =
    not-true (has places (spot.Byte (address_of page place)))
    (λ e. none (some-of places (page_of (address_of page place)) page (place_of (address_of page place))
    (page-of-address page place h) e))

module _ (first changed : Places) (seen now : List ℕ) (page : ℕ) (none : HasSomeOf first page → ⊥) where
  no-byte : (kind : Class) → first_of (byte_conflict (has first) (has changed) seen now kind page) PAGE_BYTES ≡ None
  no-byte kind =
      none-of (byte_conflict (has first) (has changed) seen now kind page) PAGE_BYTES
      (λ place h. ap (λ b. if b then byte_test kind (has changed (spot.Byte (address_of page place))) (address_of page place)
      (byte_at seen (address_of page place)) (byte_at now (address_of page place)) else None)
      (untouched-byte first page place h none))

  untouched : (kind : Class) (received : Bool)
      → None ≡ page_conflict (has first) (has changed) seen now kind received page
  untouched class.Shared received =
      sym (ap (λ b. if b then page_test page received (has changed (spot.Byte (address_of page 0)))
      (first_difference now seen page (λ place. true)) else None)
      (untouched-byte first page 0 (omega arith) none))
  untouched class.Checked received = sym (no-byte class.Checked)
  untouched class.Private received = sym (no-byte class.Private)

-- a page that isn't touched is in no conflict
pub untouched_page : (first changed : Places) (seen now : List ℕ) (page : ℕ) (touches : Bool)
    → (IsTrue touches ↔ HasSomeOf first page) → touches ≡ false → (kind : Class) (received : Bool)
    → None ≡ page_conflict (has first) (has changed) seen now kind received page
untouched_page first changed seen now page touches h e kind received =
    untouched first changed seen now page (λ some. false-true (sym e ∙ h.1 some)) kind received
  where
    false-true : false ≡ true → ⊥
    false-true g = absurd (cc)
