use Rattle.std.proofs.Common.{◌≡◌, ◌++◌, ℕ, List, length, map, drop}
use Rattle.c_tree.specs.View.{item_of, items_of}
use Rattle.c_layout.specs.LayoutAnswers.{plan_of}
use Rattle.c_resolve.specs.DeclaredNames.{IsSame}
use Rattle.c_resolve.specs.Actions.{routine_run}
use Rattle.c_semantics.specs.Eval.{Calls}
use Rattle.c_resolve.specs.Routines.{context_of, definitions_of, definition_frame, definition_run}
use Rattle.c_resolve.proofs.text.resolve_text.Given as goal

abbrev pub invariant-loop-item : goal.invariant-loop-item
invariant-loop-item l = record {
  same : IsSame l.initial.names l.names;
  frames : drop (length l.all.items) (plan_of l.layout).frames
      ≡ map definition_frame (definitions_of (map item_of (drop l.item-index l.tree.items.items)));
  means : (input : List ℕ) (calls : Calls) → let text = items_of l.tree in
      map (routine_run (context_of text input calls)) l.all.items ++ map (definition_run text input calls) (definitions_of (map item_of (drop l.item-index l.tree.items.items)))
      ≡ map (definition_run text input calls) (definitions_of text);
}
