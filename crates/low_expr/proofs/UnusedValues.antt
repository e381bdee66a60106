-- The code of an expression whose value isn't used.
use Rattle.std.proofs.Common.{ℕ, ◌+◌, ◌^◌, ◌<◌, ◌≤◌, List, length, Option, All}
use Rattle.bop_bits.specs.declared.map.TheConstants.{CODE_WORDS}
use Rattle.c_tree.specs.Expr.{Expr}
use Rattle.c_tree.specs.Expr as expr
use Rattle.c_layout.specs.Slots.{slots}
use Rattle.c_semantics.specs.Run.{pure, ◌>>=◌}
use Rattle.c_semantics.specs.Names.{Names, Definition}
use Rattle.c_semantics.specs.Eval.{Calls, eval, unused, call, arguments, called}
use Rattle.low_labels.specs.Operation.{width_of}
use Rattle.low_labels.specs.Placed.{HasAt}
use Rattle.low_expr.specs.ExprCode.{expr_code}
use Rattle.low_expr.specs.Following.{CallsFollow}
use Rattle.low_expr.specs.Readiness.{IsReady}
use Rattle.low_expr.specs.ExprSimulation.{IsFollowed, Unused, IsSimulated}
use Rattle.low_expr.proofs.ArgumentNodes.{unused_follows}
use Rattle.low_expr.proofs.ExpressionsFollow.{expr_follows, called_follows}

module _ (code input : List ℕ) (short : length code ≤ CODE_WORDS)
    (bytes : All (λ b. b < 2 ^ 8) input)
    (labels : ℕ → ℕ) (functions : List ℕ → ℕ) (defined : List ℕ → Option Definition) (calls : Calls)
    (names : Names) (frame room bound : ℕ)
    (follow : CallsFollow code input labels functions defined calls bound) where
  of_value : (e : Expr) (slot label i : ℕ) → IsReady defined names e → slot + slots e ≤ room
      → HasAt code labels i (expr_code functions names e slot label)
      → IsFollowed code input frame room slot bound i
      (i + width_of (expr_code functions names e slot label)) Unused
      (eval input calls names e >>= λ v. pure tt)
  of_value e slot label i ready fits has store n s le pc a f =
      unused_follows (eval input calls names e store n)
      (expr_follows code input short bytes labels functions defined calls names frame room bound
      follow e slot label i ready fits has store n s le pc a f)

  pub expr_follows_unused : (e : Expr) (slot label i : ℕ) → IsReady defined names e
      → slot + slots e ≤ room → HasAt code labels i (expr_code functions names e slot label)
      → IsFollowed code input frame room slot bound i
      (i + width_of (expr_code functions names e slot label)) Unused
      (unused input calls names e)
  expr_follows_unused (expr.Call name all at) slot label i ready fits has =
      λ store n s le pc a f.
      unused_follows (call (arguments input calls names all)
      (called input calls names name) store n)
      (called_follows code input short bytes labels functions defined calls names frame room bound
      follow name all slot label i at ready fits has store n s le pc a f)
  expr_follows_unused e slot label i ready fits has = of_value e slot label i ready fits has

pub simulated : (functions : List ℕ → ℕ) (defined : List ℕ → Option Definition) (names : Names)
    (e : Expr) → IsReady defined names e → IsSimulated functions defined names e
simulated functions defined names e ready = record {
  value = λ code input labels calls frame room slot bound label i h fits has.
      expr_follows code input h.short h.bytes labels functions defined calls names frame room bound
      h.follow e slot label i ready fits has;
  unused = λ code input labels calls frame room slot bound label i h fits has.
      expr_follows_unused code input h.short h.bytes labels functions defined calls names frame
      room bound h.follow e slot label i ready fits has;
}
