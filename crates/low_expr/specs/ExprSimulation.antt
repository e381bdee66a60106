-- The code of an expression does what the expression means: what that says of one expression.
use Rattle.std.specs.Prelude.{◌≡◌, ℕ, ◌+◌, ◌^◌, ◌<◌, ◌≤◌, List, length, Option, All}
use Rattle.bop_bits.specs.declared.map.TheConstants.{CODE_WORDS}
use Rattle.rv_code.specs.State.{State}
use Rattle.rv_code.specs.Step.{address_of}
use Rattle.c_tree.specs.Expr.{Expr}
use Rattle.c_layout.specs.Slots.{slots}
use Rattle.c_semantics.specs.Run.{Store, Run}
use Rattle.c_semantics.specs.Names.{Names, Definition}
use Rattle.c_semantics.specs.Eval.{Calls, eval, unused}
use Rattle.low_labels.specs.Operation.{width_of}
use Rattle.low_labels.specs.Placed.{HasAt}
use Rattle.low_expr.specs.ExprCode.{expr_code}
use Rattle.low_expr.specs.Agreement.{Agrees, Framed, InSlot}
use Rattle.low_expr.specs.Following.{Follows, CallsFollow, for_expression}

-- From one place of the code to another, with the slots from one on, the code follows a run:
-- whenever the machine comes to the first place in a state that agrees with the store, with at most
-- so many steps left.
abbrev pub IsFollowed : {A : Type 0} → (code input : List ℕ) → (frame slots slot bound from to : ℕ)
    → (A → State → Type 0) → Run A → Type 0
IsFollowed code input frame slots slot bound from to Value r =
    (store : Store) (n : ℕ) (s : State) → n ≤ bound → s.pc ≡ address_of from → Agrees store s
    → Framed frame slots store
    → Follows code input for_expression store slot slots n (λ v. to) s Value (r store n)

-- an expression whose value isn't used leaves nothing
abbrev pub Unused : Unit {0} → State → Type 0
Unused u s = Unit {0}

-- words of code in which functions follow their calls that begin with fewer steps than a bound
pub record HasFunctions (code input : List ℕ) (labels : ℕ → ℕ) (functions : List ℕ → ℕ)
    (defined : List ℕ → Option Definition) (calls : Calls) (bound : ℕ) : Type 0 where
  pub short : length code ≤ CODE_WORDS
  pub bytes : All (λ b. b < 2 ^ 8) input
  pub follow : CallsFollow code input labels functions defined calls bound

-- Wherever words have the code of an expression, and the frame has the slots that it takes, it
-- follows the expression's evaluation, whether the value is used or not.
pub record IsSimulated (functions : List ℕ → ℕ) (defined : List ℕ → Option Definition)
    (names : Names) (e : Expr) : Type 0 where
  pub value : (code input : List ℕ) (labels : ℕ → ℕ) (calls : Calls)
      (frame room slot bound label i : ℕ)
      → HasFunctions code input labels functions defined calls bound → slot + slots e ≤ room
      → HasAt code labels i (expr_code functions names e slot label)
      → IsFollowed code input frame room slot bound i
      (i + width_of (expr_code functions names e slot label)) (InSlot frame slot)
      (eval input calls names e)
  pub unused : (code input : List ℕ) (labels : ℕ → ℕ) (calls : Calls)
      (frame room slot bound label i : ℕ)
      → HasFunctions code input labels functions defined calls bound → slot + slots e ≤ room
      → HasAt code labels i (expr_code functions names e slot label)
      → IsFollowed code input frame room slot bound i
      (i + width_of (expr_code functions names e slot label)) Unused (unused input calls names e)
