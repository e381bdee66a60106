-- Lists of types that are the same.
use Rattle.std.proofs.Common.{◌≡◌, suc, Bool, true, false, ◌&&◌, List, [], ◌∷◌, length, map, refl, ap, ◌∙◌}
use Rattle.c_tree.specs.Accepted.{same_all}
use Rattle.c_tree.specs.Shapes.{same}
use Rattle.c_tree.specs.declared.ctype.CType.{CType}
use Rattle.c_tree.specs.View.{ty_of}

and_false : (t : Bool) → t && false ≡ false
and_false true = refl
and_false false = refl

-- as many types each
pub not_as_many : (a b : List CType) → (length a ≡ length b → ⊥)
    → same_all (map ty_of a) (map ty_of b) ≡ false
not_as_many [] [] h = absurd (h refl)
not_as_many [] (u ∷ us) h = refl
not_as_many (t ∷ ts) [] h = refl
not_as_many (t ∷ ts) (u ∷ us) h = ap (λ r. same (ty_of t) (ty_of u) && r) (not_as_many ts us (λ e. h (ap suc e))) ∙ and_false (same (ty_of t) (ty_of u))
