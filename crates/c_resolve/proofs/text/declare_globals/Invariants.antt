use Rattle.std.proofs.Common.{◌≡◌, List, map, drop}
use Rattle.c_tree.specs.View.{var_of}
use Rattle.c_semantics.specs.Meaning.{with_globals}
use Rattle.c_semantics.specs.Names.{Definition}
use Rattle.c_resolve.specs.DeclaredNames.{names_in}
use Rattle.c_resolve.proofs.text.declare_globals.Given as goal

abbrev pub invariant-loop-v : goal.invariant-loop-v
invariant-loop-v l = (definitions : List Definition) → with_globals l.rest (map var_of (drop l.v-index l.vars)) (names_in definitions l.names) ≡ with_globals l.places (map var_of l.vars) (names_in definitions l.initial.names)
