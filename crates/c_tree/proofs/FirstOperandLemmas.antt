-- An expression is its first operand within it, and one more expression among those that one is within.
use Rattle.std.proofs.Common.{◌≡◌, ◌≤◌, List, [], ◌∷◌, ◌++◌, Bor, Option, Some, None, map, refl, sym, ap}
use Rattle.c_tree.specs.declared.tree.Expr.{Expr as ExprTree, size-Expr}
use Rattle.c_tree.specs.Expr.{Expr}
use Rattle.c_tree.specs.Expr as expr
use Rattle.c_tree.specs.View.{expr_of}
use Rattle.c_tree.specs.FirstOperand.{first_operand, with_first, within}

-- no deeper than the expression
abbrev pub IsWithin : ExprTree → Bor ExprTree → Type 0
IsWithin e n = size-Expr n.now ≤ size-Expr e

abbrev pub seen : List (Bor ExprTree) → List Expr
seen = map (λ n. expr_of n.now)

pub within-push : (es : List (Bor ExprTree)) (e : Bor ExprTree) (x : Expr)
    → within (seen (es ++ e ∷ [])) x ≡ within (seen es) (with_first (expr_of e.now) x)
within-push [] e x = refl
within-push (first ∷ es) e x = ap (with_first (expr_of first.now)) (within-push es e x)

-- what stands in an option, or another value
abbrev or_other : Expr → Option Expr → Expr
or_other other None = other
or_other other (Some a) = a

pub put_back : (e a : Expr) → first_operand e ≡ Some a → with_first e a ≡ e
put_back (expr.Unary op b at) a h = ap (λ o. expr.Unary op (or_other b o) at) (sym h)
put_back (expr.Step how b at) a h = ap (λ o. expr.Step how (or_other b o) at) (sym h)
put_back (expr.Cast to b at) a h = ap (λ o. expr.Cast to (or_other b o) at) (sym h)
put_back (expr.Binary op b c at) a h = ap (λ o. expr.Binary op (or_other b o) c at) (sym h)
put_back (expr.Conditional b c d at) a h = ap (λ o. expr.Conditional (or_other b o) c d at) (sym h)
put_back (expr.Assign how b c at) a h = ap (λ o. expr.Assign how (or_other b o) c at) (sym h)
put_back (expr.Index b c at) a h = ap (λ o. expr.Index (or_other b o) c at) (sym h)
put_back _ a h = cc

pub ruleset spines = (within-push, put_back)
