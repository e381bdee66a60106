use Rattle.std.proofs.Common.{◌≡◌, ◌++◌, map, drop}
use Rattle.c_tree.specs.View.{param_of}
use Rattle.c_resolve.specs.private.Acted.{parameters_at}
use Rattle.c_semantics.specs.Meaning.{parameter_locals}
use Rattle.c_resolve.proofs.function.push_params.Given as goal

abbrev pub invariant-loop-p : goal.invariant-loop-p
invariant-loop-p l = record {
  parameters : l.out.items ++ parameters_at l.rest (map param_of (drop l.p-index l.params))
      ≡ l.initial.out.items ++ parameters_at l.places (map param_of l.params);
  locals : l.locals.items ++ parameter_locals l.rest (map param_of (drop l.p-index l.params))
      ≡ l.initial.locals.items ++ parameter_locals l.places (map param_of l.params);
}
