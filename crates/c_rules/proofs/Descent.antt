-- One operand further down.
use Rattle.std.proofs.Common.{◌≡◌, ℕ, ◌+◌, ◌-◌, ◌<◌, ◌≤◌, Some, None, refl, ap, sym, ◌∙◌, add-one, arith}
use Rattle.c_tree.specs.Expr.{Expr}
use Rattle.c_rules.specs.declared.spine.Along.{Along}
use Rattle.c_rules.specs.Spine.{operand, or_itself, below, down}

pub down-zero : (along : Along) (e : Expr) → down along 0 e ≡ e
unfolding down
down-zero along e = refl

pub down-suc : (along : Along) (n : ℕ) (e : Expr)
    → down along (n + 1) e ≡ below along (down along n e)
unfolding down
down-suc along n e = ap (λ m. down along m e) (add-one n)

-- the operand of what was reached
pub reached : (along : Along) (n : ℕ) (e at a : Expr) → at ≡ down along n e
    → operand along at ≡ Some a → a ≡ down along (n + 1) e
reached along n e at a h k =
    let here : a ≡ below along at = ap (λ o. or_itself o at) (sym k) in
    here ∙ ap (below along) h ∙ sym (down-suc along n e)

-- what was reached has none
pub stayed : (along : Along) (n : ℕ) (e at : Expr) → at ≡ down along n e → operand along at ≡ None
    → at ≡ down along (n + 1) e
stayed along n e at h k =
    let here : at ≡ below along at = ap (λ o. or_itself o at) (sym k) in
    here ∙ ap (below along) h ∙ sym (down-suc along n e)

-- one operand further up
pub risen : (along : Along) (left : ℕ) (e at : Expr) → 0 < left → at ≡ down along (left - 1) e
    → below along at ≡ down along left e
risen along left e at p h =
    let same : left - 1 + 1 ≡ left = omega arith in
    ap (below along) h ∙ sym (down-suc along (left - 1) e) ∙ ap (λ n. down along n e) same

pub at_top : (along : Along) (left : ℕ) (e : Expr) → left ≤ 0 → down along left e ≡ e
at_top along left e h =
    let none : left ≡ 0 = omega arith in
    ap (λ n. down along n e) none ∙ down-zero along e

pub ruleset steps = (down-zero, down-suc, reached, stayed)
