-- Laws of prefixes.
use Rattle.std.proofs.Common.{ℕ, List, [], ◌++◌, take, drop, refl, sym, ◌∙◌, ap, append_assoc, append-nil}
use Rattle.std.proofs.lemmas.List.{take-append-drop}
use Rattle.byte_lists.specs.Prefix.{IsPrefix}

pub IsPrefix-refl : (xs : List ℕ) → IsPrefix xs xs
IsPrefix-refl xs = ([], sym (append-nil xs))

pub IsPrefix-trans : (xs ys zs : List ℕ) → IsPrefix xs ys → IsPrefix ys zs → IsPrefix xs zs
IsPrefix-trans xs ys zs p q = (p.0 ++ q.0, q.1 ∙ ap (λ l. l ++ q.0) p.1 ∙ append_assoc xs p.0 q.0)

pub IsPrefix-append : (xs ys : List ℕ) → IsPrefix xs (xs ++ ys)
IsPrefix-append xs ys = (ys, refl)

pub IsPrefix-take : (n : ℕ) (xs : List ℕ) → IsPrefix (take n xs) xs
IsPrefix-take n xs = (drop n xs, sym (take-append-drop n xs))

-- the same bytes before both
pub IsPrefix-behind : (front xs ys : List ℕ) → IsPrefix xs ys → IsPrefix (front ++ xs) (front ++ ys)
IsPrefix-behind front xs ys p = (p.0, ap (λ l. front ++ l) p.1 ∙ sym (append_assoc front xs p.0))
