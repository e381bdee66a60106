-- What an expression does whose names and types are worked out.
use Rattle.std.specs.Prelude.{ℕ, ◌%◌, ◌^◌, List, [], ◌∷◌, Option, None, map, slice_get}
use Rattle.c_tree.specs.declared.operator.Binary.TheVariants as binary
use Rattle.c_tree.specs.declared.place.Place.{Place}
use Rattle.c_tree.specs.declared.undefined.Undefined.TheVariants.{NoValue}
use Rattle.c_semantics.specs.declared.home.Home.{Home}
use Rattle.c_semantics.specs.declared.kind.Held.{Held}
use Rattle.c_semantics.specs.declared.kind.Held.TheVariants.{Byte, Word, Array}
use Rattle.c_semantics.specs.declared.kind.Operand.{Operand}
use Rattle.c_resolve.specs.declared.node.Node.{Node}
use Rattle.c_resolve.specs.declared.node.NodeKind.{NodeKind}
use Rattle.c_resolve.specs.declared.node.NodeKind.TheOpen.{NodeKind-F}
use Rattle.c_resolve.specs.declared.node.NodeKind.TheOpen as one
use Rattle.c_resolve.specs.declared.node.NodeKind.TheFolds.{fold-Node, fold-NodeKind}
use Rattle.c_resolve.specs.declared.node.Target.{Target}
use Rattle.c_resolve.specs.declared.node.Target.TheVariants as target
use Rattle.c_resolve.specs.Context.{Context}
use Rattle.c_semantics.specs.Run.{Run, pure, ◌>>=◌, ◌>>◌, count, given_or}
use Rattle.c_semantics.specs.Memory.{value_at}
use Rattle.c_semantics.specs.Names.{address_of}
use Rattle.c_semantics.specs.Eval.{enter, getchar, putchar, call, strict, binary_run, unary_run, stepped, assign_run, conditional_run}

-- what a run does, without its value
abbrev pub ignored : {A : Type 0} → Run A → Run (Unit {0})
ignored r = r >> pure tt

-- an expression's value, its address, what it does where its value isn't used, and its place
pub record Runs : Type 0 where
  pub value : Run ℕ
  pub address : Run ℕ
  pub unused : Run (Unit {0})
  pub place : Place

-- of an expression that may be a place
abbrev pub placed : Run ℕ → Run ℕ → Place → Runs
placed value address at =
    record { value = value; address = address; unused = ignored value; place = at }

-- of one that isn't
abbrev pub valued : Run ℕ → Place → Runs
valued value at = placed value (pure 0) at

abbrev pub constant : ℕ → Run ℕ
constant n = do
  count
  pure n

abbrev pub name_address : Home → Run ℕ
name_address home = do
  count
  address_of home

abbrev pub name_run : Home → Held → Place → Run ℕ
name_run home h at = do
  x ← name_address home
  value_at h x at

abbrev pub index_run : Operand → Operand → Held → Place → Run ℕ → Run ℕ → Run ℕ
index_run c d h at a b = do
  x ← strict binary.Plus c d at a b
  value_at h x at

abbrev pub pointer : Run ℕ → Run ℕ
pointer a = do
  x ← a
  count
  pure x

-- a value of a type that is held so
abbrev pub cast_value : Held → ℕ → ℕ
cast_value Byte x = x % 2 ^ 8
cast_value Word x = x % 2 ^ 32
cast_value Array x = x % 2 ^ 32

abbrev pub cast_run : Held → Run ℕ → Run ℕ
cast_run h a = do
  x ← a
  count
  pure (cast_value h x)

abbrev pub used : Run (Option ℕ) → Place → Run ℕ
used run at = do
  v ← run
  given_or NoValue at v

abbrev pub called : Run (Option ℕ) → Place → Runs
called run at = record { value = used run at; address = pure 0; unused = ignored run; place = at }

abbrev pub all_values : List Runs → Run (List ℕ)
all_values [] = pure []
all_values (r ∷ rs) = do
  v ← r.value
  vs ← all_values rs
  pure (v ∷ vs)

-- what a node does, by what its kind does at each place
abbrev pub at_place : (Place → Runs) → Place → Runs
at_place kind at = record (kind at) { place = at }

module _ (context : Context) where
  abbrev pub target_run : Target → List ℕ → Run (Option ℕ)
  target_run (target.Function k) vs = enter context.calls (slice_get context.definitions k) vs
  target_run target.Getchar vs = getchar context.input
  target_run target.Putchar vs = putchar vs
  target_run target.Undefined vs = enter context.calls None vs

  -- one level of an expression, with what each operand does in its place
  abbrev pub node_step : NodeKind-F (Place → Runs) Runs → Place → Runs
  node_step (one.Constant n) at = valued (constant n) at
  node_step (one.Name home h) at = placed (name_run home h at) (name_address home) at
  node_step (one.Unary op c h a) at =
      placed (unary_run op c h at a.value.value a.value.address) (pointer a.value.value) at
  node_step (one.Step how c h a) at = valued (stepped how c h a.value.place at a.value.address) at
  node_step (one.Cast h a) at = valued (cast_run h a.value.value) at
  node_step (one.Binary op c d a b) at =
      valued (binary_run op c d at a.value.value b.value.value) at
  node_step (one.Conditional c a b) at =
      valued (conditional_run c.value.value a.value.value b.value.value) at
  node_step (one.Assign how c d h a b) at =
      valued (assign_run how c d h a.value.place at a.value.address b.value.value) at
  node_step (one.Index c d h a b) at =
      placed (index_run c d h at a.value.value b.value.value)
      (strict binary.Plus c d at a.value.value b.value.value) at
  node_step (one.Call t all) at = called (call (all_values all.items) (target_run t)) at

  abbrev pub runs : Node → Runs
  runs = fold-Node (Place → Runs) Runs node_step (λ n. at_place n.kind n.place)

  -- what a kind does at each place
  abbrev pub runs_of_kind : NodeKind → Place → Runs
  runs_of_kind = fold-NodeKind (Place → Runs) Runs node_step (λ n. at_place n.kind n.place)

  -- a call of some nodes as arguments
  abbrev pub call_of : Target → List Node → Run (Option ℕ)
  call_of t all = call (all_values (map runs all)) (target_run t)
