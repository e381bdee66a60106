use Rattle.std.proofs.Common.{◌≡◌, ◌≤◌, ◌+◌, ◌*◌, ℕ, List, length, drop}
use Rattle.c_tree.specs.View.{stmts_of, ty_of}
use Rattle.c_layout.specs.Frames.{body_locals}
use Rattle.low_labels.specs.Emission.{Emission}
use Rattle.low_expr.specs.LabelledNames.{functions_in, HasLabels, HasSameFunctions}
use Rattle.low_stmt.specs.CodeBound.{count_stmts}
use Rattle.low_stmt.specs.StmtReadiness.{AreReadyStmts}
use Rattle.low_stmt.specs.private.Parts.{IsKeptRound, IsReadyHere, Writes}
use Rattle.low_stmt.specs.private.StmtParts.{scopes, stmts_part}
use Rattle.low_stmt.proofs.statement.+statement.Given as goal

abbrev pub invariant-lower_body-loop-s : goal.invariant-lower_body-loop-s
invariant-lower_body-loop-s l = record {
  ready : IsReadyHere l.names
      (λ defined room top scope. AreReadyStmts defined room top (ty_of l.gives) scope l.rest
      (stmts_of (drop l.s-index l.body)));
  labels : HasLabels l.names (length l.asm.places);
  lowered : (new : Emission) (after : List ℕ)
      → Writes (stmts_part (functions_in l.initial.names) (scopes l.names) (ty_of l.gives) l.rest l.to (stmts_of (drop l.s-index l.body))) l.asm new l.ends after
      → Writes (stmts_part (functions_in l.initial.names) (scopes l.initial.names) (ty_of l.gives) l.places l.to (stmts_of l.body)) l.initial.asm new l.initial.ends after;
  few : length l.asm.lines + 32 * count_stmts (stmts_of (drop l.s-index l.body))
      ≤ length l.initial.asm.lines + 32 * count_stmts (stmts_of l.body);
  more : length l.initial.asm.places ≤ length l.asm.places;
  kept : IsKeptRound l.initial.names l.names;
  functions : HasSameFunctions l.initial.names l.names;
  rest : drop (length (body_locals (stmts_of (drop l.s-index l.body)))) l.rest
      ≡ drop (length (body_locals (stmts_of l.body))) l.places;
}

abbrev pub decreases-lower_stmt : goal.decreases-lower_stmt
decreases-lower_stmt l = 8 * goal.size-lower_stmt l + 0

abbrev pub decreases-lower_inner : goal.decreases-lower_inner
decreases-lower_inner l = 8 * goal.size-lower_inner l + 1

abbrev pub decreases-lower_body : goal.decreases-lower_body
decreases-lower_body l = 8 * goal.size-lower_body l + 1

abbrev pub decreases-lower_block : goal.decreases-lower_block
decreases-lower_block l = 8 * goal.size-lower_block l + 2

abbrev pub decreases-branches::lower_else : goal.decreases-branches::lower_else
decreases-branches::lower_else l = 8 * goal.size-branches::lower_else l + 2

abbrev pub decreases-branches::end_if : goal.decreases-branches::end_if
decreases-branches::end_if l = 8 * goal.size-branches::end_if l + 3

abbrev pub decreases-loops::lower_loop : goal.decreases-loops::lower_loop
decreases-loops::lower_loop l = 8 * goal.size-loops::lower_loop l + 3

abbrev pub decreases-loops::lower_while : goal.decreases-loops::lower_while
decreases-loops::lower_while l = 8 * goal.size-loops::lower_while l + 4

abbrev pub decreases-loops::lower_do : goal.decreases-loops::lower_do
decreases-loops::lower_do l = 8 * goal.size-loops::lower_do l + 4

abbrev pub decreases-loops::lower_for : goal.decreases-loops::lower_for
decreases-loops::lower_for l = 8 * goal.size-loops::lower_for l + 4
