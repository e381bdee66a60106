-- One spot noted.
use Rattle.std.proofs.Common.{◌≡◌, ℕ, Bool, true, false, [], ◌∷◌, refl, sym, ap, ◌∙◌}
use Rattle.std.specs.Prelude.{◌&&◌, ◌||◌, not, if◌then◌else◌}
use Rattle.bop_bits.specs.Pages.{page_of}
use Rattle.access_log.specs.declared.spot.Spot.{Spot}
use Rattle.access_log.specs.declared.spot.Spot.TheVariants.{Byte}
use Rattle.access_log.specs.Things.{same, is_shared, one_page, first_after, wrote_after}
use Rattle.access_log.proofs.BoolLemmas.{or_false, read-own, read-again, read-shared, write-own, write-shared}
use Rattle.access_log.proofs.ThingLemmas.{same-is, one_thing-own, one_thing-shared, shared-in-page}

module _ (shared : ℕ → Bool) (first wrote : Spot → Bool) where
  -- the first things after a read or a write of one spot, by whether a spot is of its thing
  abbrev read : (x : Spot) (thing : Bool) → Bool
  read x thing =
      first x || ((thing || false) && not (wrote x)) || (is_shared shared x && ((thing || false) || false))

  abbrev write : (x : Spot) (thing : Bool) → Bool
  write x thing =
      first x || (false && not (wrote x)) || (is_shared shared x && (false || (thing || false)))

  own : (x y : Spot) → is_shared shared y ≡ false → same x y ≡ true → is_shared shared x ≡ false
  own x y h e = ap (is_shared shared) (same-is x y e) ∙ h

  pub own-read : (x y : Spot) → is_shared shared y ≡ false → wrote y ≡ false
      → first x || same x y ≡ first_after shared first wrote (y ∷ []) [] x
  own-read x y h g =
      read-own (first x) (same x y) (is_shared shared x) (wrote x) (own x y h)
      (λ e. ap wrote (same-is x y e) ∙ g)
      ∙ ap (read x) (sym (one_thing-own shared x y h))

  pub own-read-again : (x y : Spot) → is_shared shared y ≡ false → wrote y ≡ true
      → first x ≡ first_after shared first wrote (y ∷ []) [] x
  own-read-again x y h g =
      read-again (first x) (same x y) (is_shared shared x) (wrote x) (own x y h)
      (λ e. ap wrote (same-is x y e) ∙ g)
      ∙ ap (read x) (sym (one_thing-own shared x y h))

  pub shared-read : (x : Spot) (at : ℕ) → shared (page_of at) ≡ true
      → first x || one_page x (Byte at) ≡ first_after shared first wrote (Byte at ∷ []) [] x
  shared-read x at h =
      read-shared (first x) (one_page x (Byte at)) (is_shared shared x) (wrote x) (shared-in-page shared x at h)
      ∙ ap (read x) (sym (one_thing-shared shared x at h))

  pub own-write : (x y : Spot) → is_shared shared y ≡ false
      → first x ≡ first_after shared first wrote [] (y ∷ []) x
  own-write x y h =
      write-own (first x) (same x y) (is_shared shared x) (wrote x) (own x y h)
      ∙ ap (write x) (sym (one_thing-own shared x y h))

  pub shared-write : (x : Spot) (at : ℕ) → shared (page_of at) ≡ true
      → first x || one_page x (Byte at) ≡ first_after shared first wrote [] (Byte at ∷ []) x
  shared-write x at h =
      write-shared (first x) (one_page x (Byte at)) (is_shared shared x) (wrote x) (shared-in-page shared x at h)
      ∙ ap (write x) (sym (one_thing-shared shared x at h))

  pub own-written : (x y : Spot) → is_shared shared y ≡ false
      → wrote x || same x y ≡ wrote_after shared wrote (y ∷ []) x
  own-written x y h =
      ap (λ t. wrote x || t) (sym (or_false (same x y)) ∙ ap (λ t. t || false) (sym (one_thing-own shared x y h)))

  pub shared-written : (x : Spot) (at : ℕ) → shared (page_of at) ≡ true
      → wrote x || one_page x (Byte at) ≡ wrote_after shared wrote (Byte at ∷ []) x
  shared-written x at h =
      ap (λ t. wrote x || t)
      (sym (or_false (one_page x (Byte at))) ∙ ap (λ t. t || false) (sym (one_thing-shared shared x at h)))

  pub not-read : (x : Spot) → first x ≡ first_after shared first wrote [] [] x
  not-read x = none (first x) (is_shared shared x)
    where
      none : (f s : Bool) → f ≡ f || (false && not (wrote x)) || (s && (false || false))
      none true s = refl
      none false true = refl
      none false false = refl

  pub not-written : (x : Spot) → wrote x ≡ wrote_after shared wrote [] x
  not-written x = sym (or_false (wrote x))

  -- what isn't written isn't written after the fork
  pub not-written-after-fork : (forked : Bool) (x : Spot)
      → wrote x ≡ (if forked then wrote_after shared wrote [] x else wrote x)
  not-written-after-fork true x = not-written x
  not-written-after-fork false x = refl
