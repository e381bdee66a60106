-- What resolved declarations, statements and functions do, and which names are then in scope.
use Rattle.std.specs.Prelude.{◌≡◌, ℕ, List, [], ◌∷◌, ◌++◌, Option, Box, drop, map}
use Rattle.std.proofs.Common.{Global}
use Rattle.c_tree.specs.Ty.{Ty}
use Rattle.c_tree.specs.declared.place.Place.{Place}
use Rattle.c_tree.specs.Expr.{Expr}
use Rattle.c_tree.specs.Var.{Var}
use Rattle.c_tree.specs.First.{First}
use Rattle.c_tree.specs.Stmt.{Stmt, Stmts, ElseBranch}
use Rattle.c_tree.specs.Fun.{Param, Fun}
use Rattle.c_tree.specs.Item.{Item}
use Rattle.c_tree.specs.Declarators.{parameter_shape}
use Rattle.c_layout.specs.Frames.{Planned, frame_of}
use Rattle.c_resolve.specs.declared.action.Action.{Action}
use Rattle.c_resolve.specs.declared.action.Beginning.{Beginning}
use Rattle.c_resolve.specs.declared.action.Begun.{Begun}
use Rattle.c_resolve.specs.declared.action.Passed.{Passed}
use Rattle.c_resolve.specs.declared.node.Node.{Node}
use Rattle.c_semantics.specs.declared.local.Local.{Local}
use Rattle.c_resolve.specs.declared.names.Names.{Names as Declared}
use Rattle.c_resolve.specs.declared.routine.Parameter.{Parameter as Passing}
use Rattle.c_resolve.specs.declared.routine.Routine.{Routine}
use Rattle.c_resolve.specs.Context.{Context}
use Rattle.c_resolve.specs.Actions.{init_run, passing, first_run, test_run, step_run, action_run, boxed_run, else_run, body_run, routine_run}
use Rattle.c_resolve.specs.Routines.{definition_frame, definition_run}
use Rattle.c_semantics.specs.declared.flow.Flow.{Flow}
use Rattle.c_semantics.specs.Run.{Run}
use Rattle.c_semantics.specs.Exec.{initialised, declare, begin, test, step, exec, exec_else, exec_all}
use Rattle.c_semantics.specs.Meaning.{names, whole_run}
use Rattle.c_semantics.specs.Names.{Definition, Names, held}
use Rattle.c_resolve.specs.private.Resolved.{scope}
use Rattle.c_resolve.specs.DeclaredNames.{names_in}

-- names that are made of those before, whatever functions they stand for
abbrev pub AreNames : Declared → Declared → (Names → Names) → Type 0
AreNames before after made = (definitions : List Definition)
    → names_in definitions after ≡ made (names_in definitions before)

-- an object that stands at the first of some offsets, where there is one
abbrev pub own_at : List ℕ → Local → List Local
own_at [] local = []
own_at (place ∷ places) local = local ∷ []

-- what is resolved does what the semantics says of the declarator, the declarators, the first part, the test and the step of a `for`
abbrev pub IsInitOf : Declared → ℕ → Local → Place → Begun → Var → Type 0
IsInitOf declared place local at begun d = (context : Context)
    → init_run context local at begun
    ≡ initialised context.input context.calls (scope context declared) place d d.init

abbrev pub ArePassedOf : Declared → List ℕ → List Passed → List Var → Type 0
ArePassedOf declared places ps ds = (context : Context)
    → passing context ps ≡ declare context.input context.calls (scope context declared) places ds

abbrev pub IsBeginningOf : Declared → List ℕ → Beginning → First → Type 0
IsBeginningOf declared places beginning first = (context : Context)
    → first_run context beginning
    ≡ begin context.input context.calls (scope context declared) places first

abbrev pub IsTestOf : Declared → Option Node → Option Expr → Type 0
IsTestOf declared node e = (context : Context)
    → test_run context node ≡ test context.input context.calls (scope context declared) e

abbrev pub IsStepOf : Declared → Option Node → Option Expr → Type 0
IsStepOf declared node e = (context : Context)
    → step_run context node ≡ step context.input context.calls (scope context declared) e

-- an action does this in each context
abbrev pub ActionDoes : Action → (Context → Run Flow) → Type 0
ActionDoes action does = (context : Context) → action_run context action ≡ does context

-- an action does what the statement does, in a function that gives a type
abbrev pub IsActionOf : Declared → List ℕ → Ty → Action → Stmt → Type 0
IsActionOf declared places gives action s = ActionDoes action
    (λ context. exec context.input context.calls gives (scope context declared) places s)

-- and the branch of an `if` that may be left out, and the statements of a block
abbrev pub IsElseOf : Declared → List ℕ → Ty → Option (Box Action Global) → ElseBranch → Type 0
IsElseOf declared places gives action branch = (context : Context)
    → else_run (boxed_run context) action
    ≡ exec_else context.input context.calls gives (scope context declared) places branch

abbrev pub AreActionsOf : Declared → List ℕ → Ty → List Action → Stmts → Type 0
AreActionsOf declared places gives actions ss = (context : Context)
    → body_run context actions
    ≡ exec_all context.input context.calls gives (scope context declared) places ss

-- what is said of a function's parameters once they are resolved
abbrev pub parameters_at : List ℕ → List Param → List Passing
parameters_at (place ∷ places) (p ∷ ps) =
    record { offset = place; held = held (parameter_shape p); place = p.place }
    ∷ parameters_at places ps
parameters_at _ _ = []

-- the next frames of some, from a number on, are those of some definitions
abbrev pub HasNext : List Planned → ℕ → List Definition → Type 0
HasNext frames n ds =
    (rest : List Planned) × (drop n frames ≡ map definition_frame ds ++ rest)

-- there are routines for some more definitions, wherever these are the names of the text
abbrev pub AddsRoutines : Declared → List Routine → List Routine → List Definition → Type 0
AddsRoutines declared old new ds =
    (context : Context) (text : List Item) → scope context declared ≡ names text context.input
    → map (routine_run context) new
    ≡ map (routine_run context) old
    ++ map (definition_run text context.input context.calls) ds

-- a routine does what the function does in its frame, wherever these are the names of the text
abbrev pub IsRoutineOf : Declared → Routine → Fun → Stmts → Type 0
IsRoutineOf declared r f body =
    (context : Context) (text : List Item)
    → scope context declared ≡ names text context.input → (vs : List ℕ)
    → routine_run context r vs
    ≡ whole_run text context.input context.calls (frame_of f.parameters body) f body vs
