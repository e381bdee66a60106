-- As what operands are wanted further down.
use Rattle.std.proofs.Common.{◌≡◌, ℕ, ◌+◌, ◌-◌, ◌<◌, ◌≤◌, refl, ap, ◌∙◌, add-one, arith}
use Rattle.c_tree.specs.Expr.{Expr}
use Rattle.c_rules.specs.Spine.{down}
use Rattle.c_rules.specs.declared.spine.Along.TheVariants.{Operands}
use Rattle.low_expr.specs.declared.wanted.Wanted.{Wanted}
use Rattle.low_expr.specs.private.Wanting.{wanted_first, wanted_down}

pub wanted_zero : (w : Wanted) (e : Expr) → wanted_down w 0 e ≡ w
unfolding wanted_down
wanted_zero w e = refl

pub wanted_suc : (w : Wanted) (n : ℕ) (e : Expr)
    → wanted_down w (n + 1) e ≡ wanted_first (wanted_down w n e) (down Operands n e)
unfolding wanted_down
wanted_suc w n e = ap (λ m. wanted_down w m e) (add-one n)

pub ruleset wanted_steps = (wanted_zero, wanted_suc)

-- one operand further up
pub risen_wanted : (w : Wanted) (left : ℕ) (e : Expr) → 0 < left
    → wanted_down w left e ≡ wanted_first (wanted_down w (left - 1) e) (down Operands (left - 1) e)
risen_wanted w left e p =
    let same : left ≡ left - 1 + 1 = omega arith in
    ap (λ n. wanted_down w n e) same ∙ wanted_suc w (left - 1) e

pub wanted_at_top : (w : Wanted) (left : ℕ) (e : Expr) → left ≤ 0 → wanted_down w left e ≡ w
wanted_at_top w left e h =
    let none : left ≡ 0 = omega arith in
    ap (λ n. wanted_down w n e) none ∙ wanted_zero w e
