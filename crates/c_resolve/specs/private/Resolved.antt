-- What resolved names and expressions stand for.
use Rattle.std.specs.Prelude.{◌≡◌, ℕ, List, map}
use Rattle.c_tree.specs.declared.place.Place.{Place}
use Rattle.c_tree.specs.Expr.{Expr, Exprs}
use Rattle.c_semantics.specs.declared.kind.Held.{Held}
use Rattle.c_resolve.specs.declared.names.Names.{Names as Declared}
use Rattle.c_resolve.specs.declared.node.Node.{Node}
use Rattle.c_semantics.specs.Run.{Run, ◌>>=◌}
use Rattle.c_semantics.specs.Memory.{value_at}
use Rattle.c_semantics.specs.Names.{Names}
use Rattle.c_resolve.specs.Context.{Context}
use Rattle.c_resolve.specs.DeclaredNames.{names_in}
use Rattle.c_semantics.specs.Eval.{arguments, eval, address, unused, place_of}
use Rattle.c_resolve.specs.Nodes.{Runs, runs, all_values}

-- the names that the code has declared, in a context
abbrev pub scope : Context → Declared → Names
scope context declared = names_in context.definitions declared

-- a node does this in each context
abbrev pub NodeDoes : Node → (Context → Runs) → Type 0
NodeDoes node does = (context : Context) → runs context node ≡ does context

-- an expression's value, its address, what it does where its value isn't used, and its place
abbrev pub runs_of : Context → Names → Expr → Runs
runs_of context names e = record {
  value = eval context.input context.calls names e;
  address = address context.input context.calls names e;
  unused = unused context.input context.calls names e;
  place = place_of e;
}

-- a node does what the expression does
abbrev pub IsNodeOf : Declared → Node → Expr → Type 0
IsNodeOf declared node e =
    NodeDoes node (λ context. runs_of context (scope context declared) e)

-- nodes give the values of the arguments
abbrev pub AreArgumentsOf : Declared → List Node → Exprs → Type 0
AreArgumentsOf declared nodes es = (context : Context)
    → all_values (map (runs context) nodes)
    ≡ arguments context.input context.calls (scope context declared) es

-- what stands at an address that is computed first
abbrev pub loaded : Held → Place → Run ℕ → Run ℕ
loaded h at place = place >>= λ x. value_at h x at
