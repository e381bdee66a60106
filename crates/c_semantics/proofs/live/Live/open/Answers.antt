use Rattle.std.proofs.Common.{◌≡◌, ◌+◌, [], ◌∷◌, ◌++◌, sym, ◌∙◌, ap, length, arith}
use Rattle.std.proofs.lemmas.Grind.{common_steps}
use Rattle.std.proofs.lemmas.List.{take_at}
use Rattle.bop_bits.specs.declared.map.TheConstants.{MEMORY_BYTES}
use Rattle.c_semantics.specs.Live.{owner_at}
use Rattle.c_semantics.proofs.Owners.{opened_aside, opened_standing}
use Rattle.c_semantics.proofs.live.Live.open.Goals as goal

pub invariant_of-self-then-can_stand : goal.invariant_of-self-then-can_stand
invariant_of-self-then-can_stand c =
    let live = c.self.inside in
    let new = c.give.new.owners in
    let more : c.push.new.self.items ≡ live.objects.items ++ c.args.object ∷ [] = grind (arith, common_steps) in
    let cells : length new ≡ MEMORY_BYTES = grind (arith, common_steps) in
    let whole : length new ≡ live.owners.len = grind (arith, live.owners.ok.0) in
    let before : c.len-before.result ≡ live.standing = grind arith in
    let all : live.standing ≡ length live.objects.items = grind (arith, live.objects.ok.0) in
    let free = c.can_stand.ensures.0 c.if-can_stand.true in
    let rule = opened_standing live.objects.items c.push.new.self.items c.args.object more live.owners.items live.standing new cells (c.len-before.result + 1) c.give.ensures.given (λ at h. c.give.ensures.kept at h ∙ ap (λ owners. owner_at owners at) c.deref_mut.ensures.value) c.self.invariant all free.0 (λ at h. sym (ap (λ owners. owner_at owners at) c.deref.ensures.value) ∙ free.1 at h) (omega arith) in
    rw (take_at new, before) rule

pub invariant_of-self-else-can_stand : goal.invariant_of-self-else-can_stand
invariant_of-self-else-can_stand c = opened_aside c.self.inside.objects.items c.push.new.self.items c.args.object (grind (arith, common_steps)) c.self.inside.owners.items c.self.inside.standing c.self.invariant

pub invariant_of-self-else-before : goal.invariant_of-self-else-before
invariant_of-self-else-before c = opened_aside c.self.inside.objects.items c.push.new.self.items c.args.object (grind (arith, common_steps)) c.self.inside.owners.items c.self.inside.standing c.self.invariant

pub invariant_of-self-else-self-before : goal.invariant_of-self-else-self-before
invariant_of-self-else-self-before c = opened_aside c.self.inside.objects.items c.push.new.self.items c.args.object (grind (arith, common_steps)) c.self.inside.owners.items c.self.inside.standing c.self.invariant
