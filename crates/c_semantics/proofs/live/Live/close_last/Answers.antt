use Rattle.std.proofs.Common.{◌≡◌, [], ◌∷◌, ◌++◌, refl, ◌∙◌, ap, length, arith}
use Rattle.std.proofs.lemmas.Grind.{common_steps}
use Rattle.std.proofs.lemmas.List.{take_at}
use Rattle.bop_bits.specs.declared.map.TheConstants.{MEMORY_BYTES}
use Rattle.c_semantics.specs.Live.{owner_at}
use Rattle.c_semantics.proofs.Owners.{closed_aside, closed_standing}
use Rattle.c_semantics.proofs.live.Live.close_last.Goals as goal

pub invariant_of-self : goal.invariant_of-self
invariant_of-self c =
    let live = c.self.inside in
    let new = c.give.new.owners in
    let more : live.objects.items ≡ c.pop.new.self.items ++ c.in-Some.object ∷ [] = grind (arith, common_steps) in
    let cells : length new ≡ MEMORY_BYTES = grind (arith, common_steps) in
    let whole : length new ≡ live.owners.len = grind (arith, live.owners.ok.0) in
    let left : c.len-left.result ≡ length c.pop.new.self.items = grind (arith, common_steps) in
    let rule = closed_standing c.pop.new.self.items live.objects.items c.in-Some.object more live.owners.items live.standing new cells 0 c.give.ensures.given (λ at h. c.give.ensures.kept at h ∙ ap (λ owners. owner_at owners at) c.deref_mut.ensures.value) c.self.invariant (omega arith) refl in
    rw (take_at new, left) rule

pub invariant_of-self-else-left-self : goal.invariant_of-self-else-left-self
invariant_of-self-else-left-self c =
    closed_aside c.pop.new.self.items c.self.inside.objects.items c.in-Some.object (grind (arith, common_steps)) c.self.inside.owners.items c.self.inside.standing c.self.invariant (grind (arith, common_steps))
