use Rattle.std.proofs.Common.{◌≡◌, ◌≤◌, ◌+◌, List, length, map, drop}
use Rattle.c_tree.specs.View.{var_of}
use Rattle.c_semantics.specs.Exec.{with_locals_named}
use Rattle.c_semantics.specs.Names.{Definition}
use Rattle.low_labels.specs.Emission.{Emission}
use Rattle.low_expr.specs.LabelledNames.{functions_in, scope_in, HasLabels, HasSameFunctions}
use Rattle.low_stmt.specs.StmtReadiness.{AreReadyVars}
use Rattle.low_stmt.specs.private.Parts.{Adds, IsKeptRound, IsReadyHere}
use Rattle.low_stmt.specs.private.StmtParts.{declarators_part, declarators_words, scopes}
use Rattle.low_stmt.proofs.declaration.lower_vars.Given as goal

abbrev pub invariant-loop-v : goal.invariant-loop-v
invariant-loop-v l = record {
  ready : IsReadyHere l.names
      (λ defined room top scope. AreReadyVars defined room top scope l.rest
      (map var_of (drop l.v-index l.vars)));
  labels : HasLabels l.names (length l.asm.places);
  lowered : (new : Emission)
      → Adds (declarators_part (functions_in l.initial.names) (scopes l.names) l.rest (map var_of (drop l.v-index l.vars))) l.asm new
      → Adds (declarators_part (functions_in l.initial.names) (scopes l.initial.names) l.places (map var_of l.vars)) l.initial.asm new;
  few : length l.asm.lines + declarators_words (map var_of (drop l.v-index l.vars))
      ≤ length l.initial.asm.lines + declarators_words (map var_of l.vars);
  more : length l.initial.asm.places ≤ length l.asm.places;
  names : (definitions : List Definition)
      → with_locals_named l.rest (map var_of (drop l.v-index l.vars)) (scope_in definitions l.names)
      ≡ with_locals_named l.places (map var_of l.vars) (scope_in definitions l.initial.names);
  functions : HasSameFunctions l.initial.names l.names;
  kept : IsKeptRound l.initial.names l.names;
}
