-- Words are the first of them and the rest.
use Rattle.std.proofs.Common.{◌≡◌, ◌≤◌, ◌-◌, ◌∙◌, ℕ, List, [], ◌∷◌, drop, length, map, take, slice_index_or, arith, sym, ap, ap₂}
use Rattle.std.proofs.lemmas.List.{take_all}

pub cut_first : {X : Type 0} (f : X → List ℕ) (words : List X) (first : X) (name : List ℕ) → 1 ≤ length words
    → first ≡ slice_index_or words 0 first → name ≡ f first
    → map f words ≡ name ∷ map f (take (length words - 1) (drop 1 words))
cut_first f [] first name some is named = absurd (omega (arith, some))
cut_first f (word ∷ words) first name some is named =
    ap₂ (λ w (l : List _). w ∷ map f l) (sym (named ∙ ap f is)) (sym (take_all (length (word ∷ words) - 1) words (omega arith)))
