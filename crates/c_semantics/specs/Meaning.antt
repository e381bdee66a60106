-- What a text means within some steps (C11 5.1.2.2.3, 5.1.2.3, 6.9).
use Rattle.std.specs.Prelude.{ℕ, zero, suc, ◌+◌, ◌-◌, Bool, true, List, [], ◌∷◌, ◌++◌, take, drop, length, replicate, Option, Some, None, if◌then◌else◌, nat_lt, bytes_eq, codes, ℤ}
use Rattle.bop_bits.specs.declared.map.TheConstants.{STACK_FROM, STACK_TO, MEMORY_BYTES}
use Rattle.c_tree.specs.declared.place.Place.{Place}
use Rattle.c_tree.specs.declared.undefined.Undefined.{Undefined}
use Rattle.c_tree.specs.Ty.{Ty}
use Rattle.c_tree.specs.Expr.{Expr, Exprs}
use Rattle.c_tree.specs.Expr as expr
use Rattle.c_tree.specs.Init.{Init}
use Rattle.c_tree.specs.Init as initial
use Rattle.c_tree.specs.Var.{Var}
use Rattle.c_tree.specs.Stmt.{Stmts}
use Rattle.c_tree.specs.Fun.{Param, Fun}
use Rattle.c_tree.specs.Item.{Item}
use Rattle.c_tree.specs.Item as item
use Rattle.c_tree.specs.Accepted.{result_shape, parameter_shapes}
use Rattle.c_tree.specs.Constant.{value_of}
use Rattle.c_tree.specs.Declarators.{declared_shape, element_shape, parameter_shape, count_of}
use Rattle.c_tree.specs.Arithmetic.{signed, converted}
use Rattle.c_layout.specs.Sizes.{size}
use Rattle.c_layout.specs.Frames.{Planned, frame_of}
use Rattle.c_layout.specs.Globals.{globals, addresses}
use Rattle.c_semantics.specs.declared.object.Object.{Object}
use Rattle.c_semantics.specs.declared.home.Home.TheVariants.{Fixed, InFrame}
use Rattle.c_semantics.specs.declared.local.Local.{Local}
use Rattle.c_semantics.specs.Run.{Store, Run, Ended, Goes, StackFull, More, Undef, pure, ◌>>=◌, ◌>>◌, count, more, stack_full, now, change}
use Rattle.c_semantics.specs.Memory.{digits, with_bytes, store_at}
use Rattle.c_semantics.specs.Names.{Names, Definition, Variable, Routine, no_names, with_name, held}
use Rattle.c_semantics.specs.Eval.{Calls, enter}
use Rattle.c_semantics.specs.declared.flow.Flow.{Flow}
use Rattle.c_semantics.specs.declared.flow.Flow.TheVariants.{AtReturn}
use Rattle.c_semantics.specs.Exec.{block_locals, with_locals, exec_all}

-- Globals: their names, their objects, and what is written into them before `main` starts (6.7.9, 5.1.2).

abbrev pub with_global : List ℕ → Var → Names → Names
with_global [] d names = names
with_global (address ∷ rest) d names =
    with_name d.name (Variable (declared_shape d) (Fixed address)) names

abbrev pub with_globals : List ℕ → List Var → Names → Names
with_globals places [] names = names
with_globals places (d ∷ ds) names = with_globals (drop 1 places) ds (with_global places d names)

abbrev pub global_declarators : List Item → List Var
global_declarators [] = []
global_declarators (item.Vars keep ds ∷ rest) = ds ++ global_declarators rest
global_declarators (item.Fun f ∷ rest) = global_declarators rest

abbrev pub global_objects : List ℕ → List Var → List Object
global_objects (address ∷ rest) (d ∷ ds) =
    record { address = address; size = size (declared_shape d) } ∷ global_objects rest ds
global_objects _ _ = []

-- the bytes of a constant of a type
abbrev pub item_bytes : Ty → Expr → List ℕ
item_bytes t e = digits (size t) (converted t (count_of (value_of e)))

abbrev pub items_bytes : Ty → Exprs → List ℕ
items_bytes t expr.NoMore = []
items_bytes t (expr.More e rest) = item_bytes t e ++ items_bytes t rest

abbrev pub given_bytes : Ty → Option Init → List ℕ
given_bytes t None = []
given_bytes t (Some (initial.One e)) = item_bytes t e
given_bytes t (Some (initial.Many es)) = items_bytes t es

-- what isn't given is 0
abbrev pub filled : ℕ → List ℕ → List ℕ
filled n bytes = take n (bytes ++ replicate n 0)

abbrev pub first_bytes : Var → List ℕ
first_bytes d = filled (size (declared_shape d)) (given_bytes (element_shape d) d.init)

abbrev pub with_first_bytes : List ℕ → List Var → List (Option ℕ) → List (Option ℕ)
with_first_bytes (address ∷ rest) (d ∷ ds) bytes =
    with_first_bytes rest ds (with_bytes address (first_bytes d) bytes)
with_first_bytes _ _ bytes = bytes

-- the store before `main` starts
abbrev pub start : List Item → Store
start text = record {
  bytes = with_first_bytes (addresses (globals text)) (global_declarators text)
      (replicate MEMORY_BYTES None);
  live = global_objects (addresses (globals text)) (global_declarators text);
  sp = STACK_TO;
  cursor = 0;
  output = [];
}

-- Functions.

-- the definition of a name
abbrev pub defined_by : Bool → Fun → Option Stmts → Option Definition → Option Definition
defined_by true f (Some body) other = Some (record { function = f; body = body })
defined_by _ f body other = other

abbrev pub definition : List Item → List ℕ → Option Definition
definition [] name = None
definition (item.Vars keep ds ∷ rest) name = definition rest name
definition (item.Fun f ∷ rest) name =
    defined_by (bytes_eq f.name name) f f.body (definition rest name)

-- the names of a text, with the addresses of its globals in order of declaration
module _ (text : List Item) where
  abbrev pub with_function : Fun → Names → Names
  with_function f names = with_name f.name
      (Routine (result_shape f) (parameter_shapes f.parameters) (definition text f.name)) names

  abbrev pub names_of : List ℕ → List Item → Names → Names
  names_of places [] names = names
  names_of places (item.Vars keep ds ∷ rest) names =
      names_of (drop (length ds) places) rest (with_globals places ds names)
  names_of places (item.Fun f ∷ rest) names = names_of places rest (with_function f names)

abbrev pub parameter_locals : List ℕ → List Param → List Local
parameter_locals (place ∷ places) (p ∷ ps) =
    record { offset = place; size = size (parameter_shape p) } ∷ parameter_locals places ps
parameter_locals _ _ = []

abbrev pub with_parameter : List ℕ → Ty → Option (List ℕ) → Names → Names
with_parameter (place ∷ places) t (Some name) names =
    with_name name (Variable t (InFrame place)) names
with_parameter _ t _ names = names

abbrev pub with_parameters : List ℕ → List Param → Names → Names
with_parameters places [] names = names
with_parameters places (p ∷ ps) names =
    with_parameters (drop 1 places) ps (with_parameter places (parameter_shape p) p.name names)

-- each argument is written into its parameter, as by an assignment (6.5.2.2)
abbrev pub pass : List ℕ → List Param → List ℕ → Run (Unit {0})
pass (place ∷ places) (p ∷ ps) (v ∷ vs) = do
  store ← now
  store_at (held (parameter_shape p)) (store.sp + place) v p.place
  pass places ps vs
pass _ _ _ = pure tt

abbrev pub main_name : List ℕ
main_name = codes "main"

-- the value at the end of a body: what was returned; and the end of `main` gives 0 (5.1.2.2.3)
abbrev pub value_of_flow : Bool → Flow → Option ℕ
value_of_flow main (AtReturn v) = v
value_of_flow main _ = if main then Some 0 else None

-- A function is entered where its frame has room, which comes before all else.
abbrev pub in_frame : Bool → ℕ → Run Flow → Run (Option ℕ)
in_frame main size body = do
  before ← now
  if nat_lt before.sp (STACK_FROM + size) then stack_full else (do
    change (record before { sp = before.sp - size })
    flow ← body
    after ← now
    change (record after { sp = before.sp })
    pure (value_of_flow main flow))

module _ (text : List Item) (input : List ℕ) where
  abbrev pub names : Names
  names = names_of text (addresses (globals text)) text no_names

  -- parameters and the locals of the body are one block (6.9.1)
  abbrev pub body_run : Calls → List ℕ → Fun → Stmts → List ℕ → Run Flow
  body_run calls places f body vs =
      let own = drop (length f.parameters) places in
      with_locals (parameter_locals places f.parameters ++ block_locals own body) (do
        pass places f.parameters vs
        exec_all input calls (result_shape f) (with_parameters places f.parameters names) own body)

  abbrev pub whole_run : Calls → Planned → Fun → Stmts → List ℕ → Run (Option ℕ)
  whole_run calls frame f body vs =
      in_frame (bytes_eq f.name main_name) frame.size (body_run calls frame.places f body vs)

  -- calls that nest at most so deep: each takes a step, so the steps bound the depth
  abbrev pub calls_at : ℕ → Calls
  calls_at zero d vs = more
  calls_at (suc depth) d vs =
      whole_run (calls_at depth) (frame_of d.function.parameters d.body) d.function d.body vs

-- what a text means
pub data Meaning : Type 0 where
  Done : (output : List ℕ) (exit : ℤ) → Meaning
  StackFull' : (output : List ℕ) → Meaning
  More' : (output : List ℕ) → Meaning
  Undefined' : (output : List ℕ) (act : Undefined) (at : Place) → Meaning

abbrev pub ended : Ended (Option ℕ) → Meaning
ended (Goes v store left) = Done store.output (signed (count_of v))
ended (StackFull output) = StackFull' output
ended (More output) = More' output
ended (Undef output act at) = Undefined' output act at

-- one step for the start of `main`, and then the call of it
abbrev pub run_of : List Item → List ℕ → ℕ → Ended (Option ℕ)
run_of text input n = (count >> enter (calls_at text input n) (definition text main_name) [])
    (start text) n

-- the meaning of a text with an input within n steps
unfoldable pub meant : List Item → List ℕ → ℕ → Meaning
meant text input n = ended (run_of text input n)
