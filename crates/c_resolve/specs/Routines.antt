-- The functions that a text defines, in its order, with their numbers, and what they do.
use Rattle.std.specs.Prelude.{◌≡◌, ℕ, suc, List, [], ◌∷◌, ◌++◌, length, map, Option, Some, None, bytes_eq, if◌then◌else◌}
use Rattle.c_tree.specs.Stmt.{Stmts}
use Rattle.c_tree.specs.Fun.{Fun}
use Rattle.c_tree.specs.Item.{Item}
use Rattle.c_tree.specs.Item as item
use Rattle.c_layout.specs.Frames.{Planned, frame_of}
use Rattle.c_resolve.specs.declared.numbers.Numbers.{Numbers}
use Rattle.c_resolve.specs.declared.routine.Routine.{Routine}
use Rattle.c_semantics.specs.Run.{Run}
use Rattle.c_semantics.specs.Eval.{Calls}
use Rattle.c_semantics.specs.Names.{Definition}
use Rattle.c_resolve.specs.Context.{Context}
use Rattle.c_resolve.specs.DeclaredNames.{indexed_at}
use Rattle.c_resolve.specs.Actions.{routine_run}
use Rattle.c_semantics.specs.Meaning.{whole_run}

abbrev pub own_definition : Fun → Option Stmts → List Definition
own_definition f None = []
own_definition f (Some body) = record { function = f; body = body } ∷ []

abbrev pub definitions_of : List Item → List Definition
definitions_of [] = []
definitions_of (item.Vars keep ds ∷ rest) = definitions_of rest
definitions_of (item.Fun f ∷ rest) = own_definition f f.body ++ definitions_of rest

-- the number of the first definition of a name, counted from a number on
abbrev pub number_from : ℕ → List Definition → List ℕ → Option ℕ
number_from n [] name = None
number_from n (d ∷ ds) name =
    if bytes_eq d.function.name name then Some n else number_from (suc n) ds name

-- a number, or where there is none another
abbrev pub or_number : Option ℕ → Option ℕ → Option ℕ
or_number None other = other
or_number (Some n) other = Some n

-- what the code knows of the numbers of definitions
pub record AreNumbersOf (numbers : Numbers) (ds : List Definition) : Type 0 where
  pub count : numbers.count ≡ length ds
  pub first : (name : List ℕ) → indexed_at numbers.numbers name ≡ number_from 0 ds name

abbrev pub definition_frame : Definition → Planned
definition_frame d = frame_of d.function.parameters d.body

-- the context of what a text defines
abbrev pub context_of : List Item → List ℕ → Calls → Context
context_of text input calls =
    record { definitions = definitions_of text; input = input; calls = calls }

-- what a call of a definition does
abbrev pub definition_run : List Item → List ℕ → Calls → Definition → List ℕ → Run (Option ℕ)
definition_run text input calls d vs =
    whole_run text input calls (definition_frame d) d.function d.body vs

-- the routines of a text do what its definitions do, one for one
abbrev pub AreRoutinesOf : List Item → List Routine → Type 0
AreRoutinesOf text routines = (input : List ℕ) (calls : Calls)
    → map (routine_run (context_of text input calls)) routines
    ≡ map (definition_run text input calls) (definitions_of text)
