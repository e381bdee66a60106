-- Spots that are touched, and spots that are of touched things.
use Rattle.std.proofs.Common.{◌≡◌, ℕ, zero, suc, List, [], ◌∷◌, refl, sym, ap, ◌∙◌, arith, Bool, true, false}
use Rattle.std.specs.Prelude.{◌==◌, ◌||◌, ◌&&◌, not}
use Rattle.std.proofs.lemmas.Bool.Decides.{nat_tests}
use Rattle.access_log.specs.declared.spot.Spot.{Spot}
use Rattle.access_log.specs.declared.spot.Spot.TheVariants.{Register, Cursor, Byte}
use Rattle.access_log.specs.Things.{same, is_shared, one_page, one_thing, touched}
use Rattle.access_log.proofs.BoolLemmas.{by_cases}
use Rattle.access_log.proofs.ThingLemmas.{same-is}
use Rattle.rv_code.specs.State.{State}
use Rattle.rv_step.specs.Footprint.{content}
use Rattle.rv_step.proofs.SpotContents.{among, Alike, or-left, or-right}

pub or-true-left : (a b : Bool) → a ≡ true → a || b ≡ true
or-true-left true b h = refl
or-true-left false b h = absurd (cc)

pub or-true-right : (a b : Bool) → b ≡ true → a || b ≡ true
or-true-right true b h = refl
or-true-right false b h = h

pub or-rest : (a b : Bool) → a || b ≡ true → a ≡ false → b ≡ true
or-rest true b h e = absurd (cc)
or-rest false b h e = h

and-left : (a b : Bool) → a && b ≡ true → a ≡ true
and-left true b h = refl
and-left false b h = h

pub alike-at : (s t : State) (xs : List Spot) → Alike s t xs → (x : Spot) → among x xs ≡ true
    → content s x ≡ content t x
alike-at s t [] h x e = absurd (cc)
alike-at s t (y ∷ ys) h x e = by_cases (same x y)
    (λ f. ap (content s) (same-is x y f) ∙ h.0 ∙ sym (ap (content t) (same-is x y f)))
    (λ f. alike-at s t ys h.1 x (or-rest (same x y) (among x ys) e f))

module _ (shared : ℕ → Bool) where
  touched-self : (x : Spot) (xs : List Spot) → same x x ≡ true → touched shared x (x ∷ xs) ≡ true
  touched-self x xs h = or-true-left _ _ (or-true-left _ _ h)

  -- states with equal content at what is touched are alike at it; x0 has one content
  pub alike-all : (s t : State) (xs : List Spot)
      → ((x : Spot) → touched shared x xs ≡ true → content s x ≡ content t x) → Alike s t xs
  alike-all s t [] h = tt
  alike-all s t (Register zero ∷ ys) h = (refl, alike-all s t ys (λ x e. h x (or-true-right (one_thing shared x (Register 0)) (touched shared x ys) e)))
  alike-all s t (Register (suc r) ∷ ys) h = (
    h (Register (suc r)) (touched-self (Register (suc r)) ys (grind (arith, nat_tests))),
    alike-all s t ys (λ x e. h x (or-true-right (one_thing shared x (Register (suc r))) (touched shared x ys) e)),
  )
  alike-all s t (Cursor ∷ ys) h = (h Cursor refl, alike-all s t ys (λ x e. h x (or-true-right (one_thing shared x Cursor) (touched shared x ys) e)))
  alike-all s t (Byte at ∷ ys) h = (
    h (Byte at) (touched-self (Byte at) ys (grind (arith, nat_tests))),
    alike-all s t ys (λ x e. h x (or-true-right (one_thing shared x (Byte at)) (touched shared x ys) e)),
  )

  pub not-among : (x : Spot) (xs : List Spot) → touched shared x xs ≡ false → among x xs ≡ false
  not-among x [] h = refl
  not-among x (y ∷ ys) h =
      let e : same x y ≡ false = or-left (same x y) (is_shared shared x && one_page x y) (or-left (one_thing shared x y) (touched shared x ys) h) in
      rw e (not-among x ys (or-right (one_thing shared x y) (touched shared x ys) h))

  -- a thing that is touched at another spot is a shared page
  pub then-shared : (x : Spot) (xs : List Spot) → touched shared x xs ≡ true → among x xs ≡ false
      → is_shared shared x ≡ true
  then-shared x [] h e = absurd (cc)
  then-shared x (y ∷ ys) h e = by_cases (one_thing shared x y)
      (λ f. and-left (is_shared shared x) (one_page x y) (or-rest (same x y) (is_shared shared x && one_page x y) f (or-left (same x y) (among x ys) e)))
      (λ f. then-shared x ys (or-rest (one_thing shared x y) (touched shared x ys) h f) (or-right (same x y) (among x ys) e))
