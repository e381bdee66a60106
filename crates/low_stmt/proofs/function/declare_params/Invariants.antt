use Rattle.std.proofs.Common.{◌≡◌, List, map, drop}
use Rattle.c_tree.specs.View.{param_of}
use Rattle.c_semantics.specs.Meaning.{with_parameters}
use Rattle.c_semantics.specs.Names.{Definition}
use Rattle.low_expr.specs.LabelledNames.{scope_in, HasSameFunctions}
use Rattle.low_stmt.specs.private.Parts.{IsKeptRound}
use Rattle.low_stmt.proofs.function.declare_params.Given as goal

abbrev pub invariant-loop-p : goal.invariant-loop-p
invariant-loop-p l = record {
  names : (definitions : List Definition)
      → with_parameters l.rest (map param_of (drop l.p-index l.params)) (scope_in definitions l.names)
      ≡ with_parameters l.places (map param_of l.params) (scope_in definitions l.initial.names);
  functions : HasSameFunctions l.initial.names l.names;
  kept : IsKeptRound l.initial.names l.names;
}
