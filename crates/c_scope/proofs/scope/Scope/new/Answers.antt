use Rattle.std.proofs.Common.{◌∷◌, ◌++◌, [], sym, ap, ◌∙◌}
use Rattle.c_tree.specs.Blocks.{Frame}
use Rattle.c_scope.specs.BlockNames.{frame_of, frames_of}
use Rattle.c_scope.specs.private.Index.{declaring}
use Rattle.c_scope.proofs.scope.Scope.new.Goals as goal

pub invariant_of-result : goal.invariant_of-result
invariant_of-result g c = record {
  indexed = λ name.
      c.new-3.ensures name
      ∙ sym (ap (λ bs. declaring 0 (frames_of bs ++ frame_of c.new-2.result ∷ []) name) c.new.ensures.items ∙ ap (λ (f : Frame _). declaring 0 (f ∷ []) name) c.new-2.ensures);
}
