use Rattle.std.proofs.Common.{◌≡◌, [], ◌∷◌, ◌++◌, is_some, arith, ap, ◌∙◌}
use Rattle.std.proofs.lemmas.Grind.{common_steps}
use Rattle.std.proofs.lemmas.List.{map-append}
use Rattle.c_scope.specs.BlockNames.{frame_of, frames_of}
use Rattle.c_scope.specs.private.Index.{without_last_if, declaring}
use Rattle.c_scope.proofs.Declaring.{closed}
use Rattle.c_scope.proofs.scope.Scope.leave.Goals as goal

pub invariant_of-self : goal.invariant_of-self
invariant_of-self g c =
    let old = c.args.self.now in
    let left = c.pop.new.self.items in
    let split : old.outer.items ≡ left ++ c.in-Some.block ∷ [] = grind (arith, common_steps) in
    record {
      indexed = λ name.
          c.close.ensures name
          ∙ (ap (without_last_if (is_some (frame_of old.inner name))) (old.indexed name)
          ∙ (closed (frames_of old.outer.items) (frame_of old.inner) name
          ∙ ap (λ fs. declaring 0 fs name) (ap frames_of split ∙ map-append frame_of left (c.in-Some.block ∷ []))));
    }
