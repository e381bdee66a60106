-- Values in braces.
use Rattle.std.proofs.Common.{◌≡◌, ℕ, zero, suc, ◌≤◌, false, List, [], ◌∷◌, length, nat_le, refl, arith}
use Rattle.c_tree.specs.declared.tree.Expr.{Expr}
use Rattle.c_tree.specs.Declarators.{are_at_most, takes_list}
use Rattle.c_tree.specs.Ty.{Ty}
use Rattle.c_tree.specs.Expr.{Exprs}
use Rattle.c_tree.specs.View.{exprs_of}

pub at_most : (most : ℕ) (es : List Expr) → nat_le (length es) most ≡ are_at_most most (exprs_of es)
at_most zero [] = grind arith
at_most (suc most) [] = grind arith
at_most zero (e ∷ es) = grind arith
at_most (suc most) (e ∷ es) = grind (arith, at_most most es)

-- a list in braces isn't for an array of arrays
pub not_many : (t : Ty) (sizes : List Expr) (values : Exprs) → 2 ≤ length sizes
    → takes_list t (exprs_of sizes) values ≡ false
not_many t [] values h = refl
not_many t (a ∷ []) values h = absurd (omega (arith, h))
not_many t (a ∷ b ∷ sizes) values h = refl
