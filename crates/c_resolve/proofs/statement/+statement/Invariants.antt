use Rattle.std.proofs.Common.{◌≡◌, ◌++◌, length, map, drop}
use Rattle.c_tree.specs.View.{ty_of, stmts_of}
use Rattle.c_layout.specs.Frames.{body_locals}
use Rattle.c_resolve.specs.DeclaredNames.{IsKept}
use Rattle.c_resolve.specs.Actions.{action_run}
use Rattle.c_semantics.specs.Exec.{block_locals, exec_all}
use Rattle.c_resolve.specs.private.Resolved.{scope}
use Rattle.c_resolve.proofs.Acting.{in_order_then}
use Rattle.c_resolve.specs.Context.{Context}
use Rattle.c_resolve.proofs.statement.+statement.Given as goal

abbrev pub invariant-resolve_body-loop-s : goal.invariant-resolve_body-loop-s
invariant-resolve_body-loop-s l = record {
  kept : IsKept l.initial.names l.names;
  rest : drop (length (body_locals (stmts_of (drop l.s-index l.body)))) l.rest
      ≡ drop (length (body_locals (stmts_of l.body))) l.places;
  locals : l.locals.items ++ block_locals l.rest (stmts_of (drop l.s-index l.body))
      ≡ block_locals l.places (stmts_of l.body);
  means : (context : Context)
      → in_order_then (map (action_run context) l.actions.items)
      (exec_all context.input context.calls (ty_of l.gives) (scope context l.names) l.rest
      (stmts_of (drop l.s-index l.body)))
      ≡ exec_all context.input context.calls (ty_of l.gives) (scope context l.initial.names) l.places (stmts_of l.body);
}
