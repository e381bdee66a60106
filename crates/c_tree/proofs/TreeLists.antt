-- A list cut at a loop's index.
use Rattle.std.proofs.Common.{◌≡◌, ℕ, ◌+◌, ◌<◌, length, get_or, drop, List, ◌∷◌, ap, ◌∙◌, sym, drop-cons, add-one}

pub cut_at : {A : Type 0} (xs : List A) (i : ℕ) (x : A) → i < length xs → x ≡ get_or xs i x
    → drop i xs ≡ x ∷ drop (i + 1) xs
cut_at xs i x h e =
    let here : drop i xs ≡ get_or xs i x ∷ drop (i + 1) xs = rw (add-one) (drop-cons xs i x h) in
    let same : get_or xs i x ∷ drop (i + 1) xs ≡ x ∷ drop (i + 1) xs = ap (λ y. y ∷ drop (i + 1) xs) (sym e) in
    here ∙ same
