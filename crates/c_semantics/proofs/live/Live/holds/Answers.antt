use Rattle.std.proofs.Common.{arith}
use Rattle.std.proofs.lemmas.Grind.{common_steps}
use Rattle.c_semantics.proofs.Owners.{holds_is_found}
use Rattle.c_semantics.proofs.live.Live.holds.Goals as goal
use Rattle.c_semantics.proofs.live.Live.holds.Goals.{then-owner_holds, else-owner_holds}

pub returns-then-owner_holds-2 : goal.returns-then-owner_holds-2
returns-then-owner_holds-2 c =
    let live = c.self.inside in
    let found = holds_is_found live.objects.items live.owners.items live.standing c.self.invariant c.args.at c.args.size in
    elim c.if-owner_holds.branch [ then-owner_holds w ↦ grind (arith, common_steps) | else-owner_holds w ↦ grind (arith, common_steps) ]

pub returns-else-owner_holds-2 : goal.returns-else-owner_holds-2
returns-else-owner_holds-2 c =
    let live = c.self.inside in
    let found = holds_is_found live.objects.items live.owners.items live.standing c.self.invariant c.args.at c.args.size in
    elim c.if-owner_holds.branch [ then-owner_holds w ↦ grind (arith, common_steps) | else-owner_holds w ↦ grind (arith, common_steps) ]
