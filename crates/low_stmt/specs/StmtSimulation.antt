-- The code of a statement does what the statement means: what that says of one statement.
use Rattle.std.specs.Prelude.{◌≡◌, ℕ, ◌+◌, ◌*◌, ◌≤◌, true, List, Option, Some, None}
use Rattle.bop_bits.specs.declared.map.TheConstants.{STACK_TO}
use Rattle.rv_code.specs.State.{State}
use Rattle.rv_code.specs.Step.{address_of}
use Rattle.c_tree.specs.Ty.{Ty}
use Rattle.c_tree.specs.Stmt.{Stmt}
use Rattle.c_tree.specs.Shapes.{is_void}
use Rattle.c_semantics.specs.declared.flow.Flow.{Flow}
use Rattle.c_semantics.specs.declared.flow.Flow.TheVariants.{Normal, AtBreak, AtContinue, AtReturn}
use Rattle.c_semantics.specs.Run.{Store, Run}
use Rattle.c_semantics.specs.Names.{Names, Definition}
use Rattle.c_semantics.specs.Eval.{Calls}
use Rattle.c_semantics.specs.Exec.{exec}
use Rattle.low_labels.specs.Operation.{width_of}
use Rattle.low_labels.specs.Placed.{HasAt}
use Rattle.low_expr.specs.Agreement.{Agrees, Framed, Returned}
use Rattle.low_expr.specs.Following.{Terms, Follows}
use Rattle.low_expr.specs.ExprSimulation.{HasFunctions}
use Rattle.low_stmt.specs.StmtCode.{Targets, stmt_code}

-- a statement takes at most the 256 instructions of each of its steps, since not each counts one
abbrev pub for_statement : Terms
for_statement = record { slack = 0; over = 0; credit = 0 }

-- From a place of the code on, the code follows a run by some terms: whenever the machine comes to
-- the place in a state that agrees with the store, with at most so many steps left. Of the frame
-- the words before the return address may change.
abbrev pub IsDone : {A : Type 0} → Terms → (code input : List ℕ) → (frame room top bound from : ℕ)
    → (A → ℕ) → (A → State → Type 0) → Run A → Type 0
IsDone t code input frame room top bound from ends Value r =
    (store : Store) (n : ℕ) (s : State) → n ≤ bound → s.pc ≡ address_of from → Agrees store s
    → Framed frame room store
    → Follows code input t store 0 top n ends s Value (r store n)

-- where a statement ends: after its code, or at a label
abbrev pub flow_end : (labels : ℕ → ℕ) → Targets → (end : ℕ) → Flow → ℕ
flow_end labels to end Normal = end
flow_end labels to end AtBreak = labels to.at_break
flow_end labels to end AtContinue = labels to.at_continue
flow_end labels to end (AtReturn v) = labels to.at_return

-- what is returned is in a0; nothing is returned only where the function has no result
abbrev pub FlowLeft : Ty → Flow → State → Type 0
FlowLeft result (AtReturn None) s = is_void result ≡ true
FlowLeft result (AtReturn (Some v)) s = Returned (Some v) s
FlowLeft result flow s = Unit {0}

-- a frame with its slots, and the word of the return address
pub record IsFrame (frame room top : ℕ) : Type 0 where
  pub slots : room ≤ top
  pub within : frame + 4 * top + 4 ≤ STACK_TO

-- Wherever words have the code of a statement, it follows the statement's execution.
abbrev pub IsSimulatedStmt : (functions : List ℕ → ℕ) (defined : List ℕ → Option Definition)
    (room top : ℕ) (result : Ty) (names : Names) (places : List ℕ) (s : Stmt) → Type 0
IsSimulatedStmt functions defined room top result names places s =
    (code input : List ℕ) (labels : ℕ → ℕ) (calls : Calls) (frame bound label i : ℕ) (to : Targets)
    → HasFunctions code input labels functions defined calls bound → IsFrame frame room top
    → HasAt code labels i (stmt_code functions result names places to label s)
    → IsDone for_statement code input frame room top bound i
    (flow_end labels to (i + width_of (stmt_code functions result names places to label s)))
    (FlowLeft result) (exec input calls result names places s)
