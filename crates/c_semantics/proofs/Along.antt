-- Addresses along an object.
use Rattle.std.proofs.Common.{◌≡◌, ℕ, false, ◌||◌, List, [], ◌∷◌, refl, sym, ap, subst, ◌∙◌, arith, pos, negsuc, ℤ}
use Rattle.std.specs.Int.{w64, FitsUnsignedBits}
use Rattle.std.proofs.lemmas.Bool.{and_right}
use mir.Val.{SFits, to_z, of_z}
use Rattle.std.proofs.lemmas.Int.{to_z-of_z}
use Rattle.c_semantics.specs.declared.object.Object.{Object}
use Rattle.c_semantics.specs.Pointers.{is_along, are_along}

-- no object has an address below 0
none_below : (y n : ℕ) (live : List Object) → are_along (pos y) (negsuc n) live ≡ false
none_below y n [] = refl
none_below y n (o ∷ os) = ap (λ b. b || are_along (pos y) (negsuc n) os) (and_right (is_along (pos y) o) false refl) ∙ none_below y n os

pub below_none : (y : ℕ) (z : ℤ) (live : List Object) → SFits w64 z
    → (FitsUnsignedBits 64 (to_z w64 (of_z w64 z)) → ⊥) → false ≡ are_along (pos y) z live
below_none y (pos n) live fits h = absurd (h (subst (FitsUnsignedBits 64) (sym (to_z-of_z w64 (pos n) fits)) (omega (arith, fits.sfits))))
below_none y (negsuc n) live fits h = sym (none_below y n live)
