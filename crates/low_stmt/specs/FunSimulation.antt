-- The code of a function does what its calls mean: what that says of one function of a text.
use Rattle.std.specs.Prelude.{◌≡◌, ℕ, ◌+◌, ◌<◌, ◌≤◌, Bool, true, bytes_eq, List, length, Option, Some, None}
use Rattle.rv_code.specs.State.{State, register}
use Rattle.rv_code.specs.Step.{address_of}
use Rattle.c_tree.specs.Ty.{Ty}
use Rattle.c_tree.specs.Stmt.{Stmts}
use Rattle.c_tree.specs.Fun.{Fun}
use Rattle.c_tree.specs.Item.{Item}
use Rattle.c_tree.specs.Accepted.{result_shape}
use Rattle.c_tree.specs.Shapes.{is_void}
use Rattle.c_layout.specs.Frames.{frame_of}
use Rattle.c_semantics.specs.Run.{Store}
use Rattle.c_semantics.specs.Names.{Definition}
use Rattle.c_semantics.specs.Eval.{Calls}
use Rattle.c_semantics.specs.Meaning.{main_name, whole_run}
use Rattle.low_labels.specs.Placed.{HasAt}
use Rattle.low_expr.specs.Registers.{ra, a0}
use Rattle.low_expr.specs.Agreement.{Agrees, Framed, Passed, Returned}
use Rattle.low_expr.specs.Following.{Follows, for_function}
use Rattle.low_expr.specs.ExprSimulation.{HasFunctions}
use Rattle.low_stmt.specs.FunCode.{fun_code}
use Rattle.low_stmt.specs.TextCode.{names_in}

-- what a call leaves: its value, which `main` has where it has a result
abbrev pub CallLeft : (main : Bool) → Ty → Option ℕ → State → Type 0
CallLeft main result None s = main ≡ true → is_void result ≡ true
CallLeft main result (Some v) s = Returned (Some v) s

-- Wherever words have the code of a function, it follows the function's calls; the step of the call
-- itself is among the n + 1.
abbrev pub IsSimulatedFun : (functions : List ℕ → ℕ) (defined : List ℕ → Option Definition)
    (text : List Item) (f : Fun) (body : Stmts) → Type 0
IsSimulatedFun functions defined text f body =
    (code input : List ℕ) (labels : ℕ → ℕ) (calls : Calls) (bound label i : ℕ)
    → HasFunctions code input labels functions defined calls bound
    → HasAt code labels i (fun_code functions (names_in text) f body label)
    → (vs : List ℕ) (store : Store) (n back : ℕ) (s : State) → n ≤ bound
    → length vs ≡ length f.parameters → back < length code → s.pc ≡ address_of i
    → register s.registers ra ≡ address_of back → Passed a0 vs s → Agrees store s
    → Framed store.sp 0 store
    → Follows code input for_function store 0 0 (n + 1) (λ v. back) s
    (CallLeft (bytes_eq f.name main_name) (result_shape f))
    (whole_run text input calls (frame_of f.parameters body) f body vs store n)
