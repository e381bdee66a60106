use Rattle.std.proofs.Common.{◌≡◌, List, ◌++◌, map, drop}
use Rattle.c_tree.specs.View.{var_of}
use Rattle.c_resolve.specs.DeclaredNames.{IsKept, names_in}
use Rattle.c_semantics.specs.Exec.{declared_locals, with_locals_named, declare}
use Rattle.c_semantics.specs.Names.{Definition}
use Rattle.c_resolve.specs.private.Resolved.{scope}
use Rattle.c_resolve.proofs.Passing.{passing_then}
use Rattle.c_resolve.specs.Context.{Context}
use Rattle.c_resolve.proofs.declaration.resolve_vars.Given as goal

abbrev pub invariant-loop-v : goal.invariant-loop-v
invariant-loop-v l = record {
  names : (definitions : List Definition)
      → with_locals_named l.rest (map var_of (drop l.v-index l.vars))
      (names_in definitions l.names)
      ≡ with_locals_named l.places (map var_of l.vars) (names_in definitions l.initial.names);
  kept : IsKept l.initial.names l.names;
  own : l.own.items ++ declared_locals l.rest (map var_of (drop l.v-index l.vars))
      ≡ declared_locals l.places (map var_of l.vars);
  means : (context : Context)
      → passing_then context l.out.items
      (declare context.input context.calls (scope context l.names) l.rest
      (map var_of (drop l.v-index l.vars)))
      ≡ declare context.input context.calls (scope context l.initial.names) l.places (map var_of l.vars);
}
