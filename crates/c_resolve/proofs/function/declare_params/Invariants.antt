use Rattle.std.proofs.Common.{◌≡◌, List, map, drop}
use Rattle.c_tree.specs.View.{param_of}
use Rattle.c_resolve.specs.DeclaredNames.{IsKept, names_in}
use Rattle.c_semantics.specs.Meaning.{with_parameters}
use Rattle.c_semantics.specs.Names.{Definition}
use Rattle.c_resolve.proofs.function.declare_params.Given as goal

abbrev pub invariant-loop-p : goal.invariant-loop-p
invariant-loop-p l = record {
  names : (definitions : List Definition)
      → with_parameters l.rest (map param_of (drop l.p-index l.params))
      (names_in definitions l.names)
      ≡ with_parameters l.places (map param_of l.params) (names_in definitions l.initial.names);
  kept : IsKept l.initial.names l.names;
}
