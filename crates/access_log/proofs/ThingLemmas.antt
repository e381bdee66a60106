-- Spots and the things that they are of.
use Rattle.std.proofs.Common.{◌≡◌, ℕ, Bool, true, false, refl, sym, ap, ◌∙◌, arith}
use Rattle.std.specs.Prelude.{◌==◌, ◌&&◌, ◌||◌, not}
use Rattle.std.proofs.lemmas.Bool.Decides.{nat_tests}
use Rattle.bop_bits.specs.Pages.{page_of}
use Rattle.access_log.specs.declared.spot.Spot.{Spot}
use Rattle.access_log.specs.declared.spot.Spot.TheVariants.{Register, Cursor, Byte}
use Rattle.access_log.specs.Things.{same, is_shared, one_page, one_thing}
use Rattle.access_log.proofs.BoolLemmas.{by_cases, or_false, and_false}

pub same-is : (x y : Spot) → same x y ≡ true → x ≡ y
same-is (Register r) (Register q) h = ap Register (grind (arith, nat_tests))
same-is Cursor Cursor h = refl
same-is (Byte a) (Byte b) h = ap Byte (grind (arith, nat_tests))
same-is (Register r) Cursor h = absurd (cc)
same-is (Register r) (Byte b) h = absurd (cc)
same-is Cursor (Register q) h = absurd (cc)
same-is Cursor (Byte b) h = absurd (cc)
same-is (Byte a) (Register q) h = absurd (cc)
same-is (Byte a) Cursor h = absurd (cc)

-- a spot that isn't of a shared page is a thing by itself
pub one_thing-own : (shared : ℕ → Bool) (x y : Spot) → is_shared shared y ≡ false
    → one_thing shared x y ≡ same x y
one_thing-own shared (Register r) (Register q) h = or_false (same (Register r) (Register q))
one_thing-own shared (Register r) Cursor h = refl
one_thing-own shared (Register r) (Byte b) h = refl
one_thing-own shared Cursor (Register q) h = refl
one_thing-own shared Cursor Cursor h = refl
one_thing-own shared Cursor (Byte b) h = refl
one_thing-own shared (Byte a) (Register q) h = and_false (shared (page_of a))
one_thing-own shared (Byte a) Cursor h = and_false (shared (page_of a))
one_thing-own shared (Byte a) (Byte b) h = by_cases (page_of a == page_of b)
    (λ e.
    let q : page_of a ≡ page_of b = grind (arith, nat_tests) in
    ap (λ c. (a == b) || (c && (page_of a == page_of b))) (ap shared q ∙ h) ∙ or_false (a == b))
    (λ e.
    ap (λ c. (a == b) || (shared (page_of a) && c)) e
    ∙ ap (λ c. (a == b) || c) (and_false (shared (page_of a))) ∙ or_false (a == b))

in_shared : (a b s p : Bool) → (a ≡ true → p ≡ true) → (p ≡ true → s ≡ true) → a || (s && p) ≡ p
in_shared a b true true h g = by_cases a (λ e. ap (λ c. c || true) e) (λ e. ap (λ c. c || true) e)
in_shared a b false true h g = absurd (cc (g refl))
in_shared true b s false h g = absurd (cc (h refl))
in_shared false b true false h g = refl
in_shared false b false false h g = refl

-- spots of one shared page are one thing
pub one_thing-shared : (shared : ℕ → Bool) (x : Spot) (at : ℕ) → shared (page_of at) ≡ true
    → one_thing shared x (Byte at) ≡ one_page x (Byte at)
one_thing-shared shared (Register r) at h = refl
one_thing-shared shared Cursor at h = refl
one_thing-shared shared (Byte a) at h =
    in_shared (a == at) true (shared (page_of a)) (page_of a == page_of at)
    (λ e. let q : a ≡ at = grind (arith, nat_tests) in grind (arith, nat_tests))
    (λ e. let q : page_of a ≡ page_of at = grind (arith, nat_tests) in ap shared q ∙ h)

pub shared-in-page : (shared : ℕ → Bool) (x : Spot) (at : ℕ) → shared (page_of at) ≡ true
    → one_page x (Byte at) ≡ true → is_shared shared x ≡ true
shared-in-page shared (Register r) at h e = absurd (cc)
shared-in-page shared Cursor at h e = absurd (cc)
shared-in-page shared (Byte a) at h e =
    let q : page_of a ≡ page_of at = grind (arith, nat_tests) in ap shared q ∙ h
