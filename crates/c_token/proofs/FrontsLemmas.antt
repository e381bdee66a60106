-- Two fronts of one list: one begins the other.
use Rattle.std.proofs.Common.{List, [], ap, ap₂, arith, drop, get_or, length, length-append, refl, sym, ℕ, ◌++◌, ◌<◌, ◌∙◌, ◌∷◌, ◌≡◌}

pub data Fronts (a b s t : List ℕ) : Type 0 where
  same : a ≡ b → s ≡ t → Fronts a b s t
  shorter : (more : List ℕ) → 0 < length more → b ≡ a ++ more → s ≡ more ++ t → Fronts a b s t
  longer : (more : List ℕ) → 0 < length more → a ≡ b ++ more → t ≡ more ++ s → Fronts a b s t

fronts_more : (x y : ℕ) (a b s t : List ℕ) → x ≡ y → Fronts a b s t → Fronts (x ∷ a) (y ∷ b) s t
fronts_more x y a b s t e (same p q) = same (ap₂ (λ u l. u ∷ l) e p) q
fronts_more x y a b s t e (shorter m some p q) = shorter m some (ap₂ (λ u l. u ∷ l) (sym e) p) q
fronts_more x y a b s t e (longer m some p q) = longer m some (ap₂ (λ u l. u ∷ l) e p) q

pub fronts : (a b s t : List ℕ) → a ++ s ≡ b ++ t → Fronts a b s t
fronts [] [] s t e = same refl e
fronts [] (y ∷ b) s t e = shorter (y ∷ b) (omega arith) refl e
fronts (x ∷ a) [] s t e = longer (x ∷ a) (omega arith) refl (sym e)
fronts (x ∷ a) (y ∷ b) s t e = fronts_more x y a b s t (ap (λ l. get_or l 0 0) e) (fronts a b s t (ap (drop 1) e))

pub front_same : (a b s t : List ℕ) → s ≡ t → Fronts a b s t → a ≡ b
front_same a b s t e (same p q) = p
front_same a b s t e (shorter m some p q) = absurd (omega (arith, some, ap length e, ap length q ∙ length-append m t))
front_same a b s t e (longer m some p q) = absurd (omega (arith, some, ap length e, ap length q ∙ length-append m s))
