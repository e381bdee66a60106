-- Labels that are made one after another.
use Rattle.std.proofs.Common.{◌≡◌, ℕ, zero, suc, ◌+◌, ◌<◌, ◌≤◌, [], ◌∷◌, ◌++◌, ap, sym, ◌∙◌, arith, add-one}
use Rattle.std.specs.List.{range_with_len}
use Rattle.std.specs.Prelude.{All}
use Rattle.std.proofs.lemmas.List.Elements.{All-nil, All-cons}
use Rattle.low_labels.specs.Emission.{Emission, fresh}
use Rattle.low_expr.specs.Lowering.{fresh_by}
use Rattle.low_expr.proofs.MarkLemmas.{fresh_add}

-- one number more
pub numbers_more : (a n : ℕ) → range_with_len a (n + 1) ≡ range_with_len a n ++ (a + n) ∷ []
numbers_more a zero = let same : a ≡ a + 0 = omega arith in ap (λ k. k ∷ []) same
numbers_more a (suc n) =
    let same : a + 1 + n ≡ a + suc n = omega arith in
    ap (range_with_len a) (add-one (suc n))
    ∙ ap (λ ks. a ∷ ks)
    (sym (ap (range_with_len (a + 1)) (add-one n))
    ∙ (numbers_more (a + 1) n ∙ ap (λ k. range_with_len (a + 1) n ++ k ∷ []) same))

pub numbers_below : (a n m : ℕ) → a + n ≤ m → All (λ label. label < m) (range_with_len a n)
numbers_below a zero m h = All-nil (λ label. label < m)
numbers_below a (suc n) m h =
    All-cons (λ label. label < m) a (range_with_len (a + 1) n) (omega arith) (numbers_below (a + 1) n m (omega arith))

pub fresh_more : (n : ℕ) (e : Emission) → fresh (fresh_by n e) ≡ fresh_by (n + 1) e
fresh_more n e = fresh_add n 1 e

pub ruleset made_labels = (numbers_more, fresh_more)
