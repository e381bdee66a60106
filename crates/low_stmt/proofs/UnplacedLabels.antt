-- Operations that place no label, and labels that an expression doesn't place.
use Rattle.std.proofs.Common.{ℕ, ◌+◌, ◌<◌, ◌≤◌, ◌⊎◌, List, [], ◌∷◌, ◌++◌, arith}
use Rattle.rv_code.specs.declared.instr.Instr.{Instr}
use Rattle.c_tree.specs.Expr.{Expr}
use Rattle.c_semantics.specs.Names.{Names}
use Rattle.low_labels.specs.Closed.{IsUnplaced}
use Rattle.low_labels.specs.Operation.{Operation}
use Rattle.low_labels.specs.Operation as op
use Rattle.low_expr.specs.CodePieces.{all_do}
use Rattle.low_expr.specs.ExprCode.{expr_code, labels_in}
use Rattle.low_stmt.proofs.Placings.{among_outside, unplaced}
use Rattle.low_stmt.proofs.PlacingsOfExpressions.{expr_places}

-- operations that place no label
abbrev pub ArePlain : List Operation → Type 0
ArePlain [] = Unit {0}
ArePlain (op.Mark label ∷ os) = ⊥
ArePlain (o ∷ os) = ArePlain os

pub plain_append : (xs ys : List Operation) → ArePlain xs → ArePlain ys → ArePlain (xs ++ ys)
plain_append [] ys h g = g
plain_append (op.Do i ∷ xs) ys h g = plain_append xs ys h g
plain_append (op.Jump rd label ∷ xs) ys h g = plain_append xs ys h g
plain_append (op.Branch t a b label ∷ xs) ys h g = plain_append xs ys h g
plain_append (op.Mark label ∷ xs) ys h g = absurd h

pub plain_do : (xs : List Instr) → ArePlain (all_do xs)
plain_do [] = tt
plain_do (x ∷ xs) = plain_do xs

pub plain_unplaced : (os : List Operation) (k : ℕ) → ArePlain os → IsUnplaced k os
plain_unplaced [] k h = tt
plain_unplaced (op.Do i ∷ os) k h = plain_unplaced os k h
plain_unplaced (op.Jump rd label ∷ os) k h = plain_unplaced os k h
plain_unplaced (op.Branch t a b label ∷ os) k h = plain_unplaced os k h
plain_unplaced (op.Mark label ∷ os) k h = absurd h

pub unplaced_append : (k : ℕ) (xs ys : List Operation) → IsUnplaced k xs → IsUnplaced k ys
    → IsUnplaced k (xs ++ ys)
unplaced_append k [] ys h g = g
unplaced_append k (op.Do i ∷ xs) ys h g = unplaced_append k xs ys h g
unplaced_append k (op.Jump rd label ∷ xs) ys h g = unplaced_append k xs ys h g
unplaced_append k (op.Branch t a b label ∷ xs) ys h g = unplaced_append k xs ys h g
unplaced_append k (op.Mark label ∷ xs) ys h g = (h.0, unplaced_append k xs ys h.1 g)

-- an expression places its own labels alone
pub expr_unplaced : (functions : List ℕ → ℕ) (names : Names) (e : Expr) (slot label k : ℕ)
    → (k < label) ⊎ (label + labels_in e ≤ k)
    → IsUnplaced k (expr_code functions names e slot label)
expr_unplaced functions names e slot label k out =
    let code = expr_code functions names e slot label in
    let own = expr_places k functions names e slot label in
    unplaced k code (omega (arith, own, among_outside k label (label + labels_in e) (omega arith) out))
