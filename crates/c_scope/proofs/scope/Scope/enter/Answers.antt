use Rattle.std.proofs.Common.{◌≡◌, [], ◌∷◌, ◌++◌, sym, ap, ◌∙◌}
use Rattle.std.proofs.lemmas.List.{map-append}
use Rattle.c_scope.specs.BlockNames.{frame_of, frames_of}
use Rattle.c_scope.specs.private.Index.{declaring}
use Rattle.c_scope.proofs.Declaring.{opened}
use Rattle.c_scope.proofs.scope.Scope.enter.Goals as goal

pub invariant_of-self : goal.invariant_of-self
invariant_of-self g c =
    let old = c.args.self.now in
    let fresh = c.replace-outside.new.dest in
    let all : frames_of c.push.new.self.items ≡ frames_of old.outer.items ++ frame_of old.inner ∷ [] =
    ap frames_of c.in-Ok.ensures.items ∙ (map-append frame_of old.outer.items _ ∙ ap (λ b. frames_of old.outer.items ++ frame_of b ∷ []) c.replace-outside.ensures.value) in
    record {
      indexed = λ name.
          old.indexed name
          ∙ (sym (opened (frames_of old.outer.items) (frame_of old.inner) (frame_of fresh) name (ap frame_of c.replace-outside.ensures.after ∙ c.new.ensures))
          ∙ ap (λ fs. declaring 0 (fs ++ frame_of fresh ∷ []) name) (sym all));
    }
