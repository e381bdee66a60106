-- The notes of a step, from the room that is made for them on.
use Rattle.std.proofs.Common.{◌≡◌, ℕ, ◌%◌, true, List, [], ◌++◌, ◌∙◌, ap, subst, sym}
use Rattle.std.specs.Prelude.{◌==◌}
use Rattle.access_log.specs.declared.log.Log.{Log}
use Rattle.access_log.specs.declared.spot.Spot.{Spot}
use Rattle.access_log.specs.declared.spot.Spot.TheVariants.{Byte}
use Rattle.access_log.specs.Noted.{has_room_for, HoldsAfter, HoldsSame, Noted}
use Rattle.access_log.proofs.NotedLemmas.{noted-reads, holds-after-room}
use Rattle.rv_code.specs.declared.effect.Effect.{Effect}
use Rattle.rv_code.specs.declared.effect.Effect.TheVariants.{Sets, Loads, Stores, Jumps, Links, Proceeds, Breaks, Calls}
use Rattle.bop_bits.specs.MemoryNumbers.{is_in_memory}
use Rattle.rv_step.specs.Footprint.{unless_trapped}
use Rattle.rv_step.specs.private.NoteRoom.{RoomFor}

-- a log keeps its room for an effect
pub room-kept : (old new : Log) (effect : Effect)
    → ((x : Spot) → has_room_for new x ≡ has_room_for old x) → RoomFor old effect → RoomFor new effect
room-kept old new (Loads rd at size signed) same room = λ aligned inside. same (Byte at) ∙ room aligned inside
room-kept old new (Stores at size value) same room = λ aligned inside. same (Byte at) ∙ room aligned inside
room-kept old new (Sets rd value) same room = tt
room-kept old new (Jumps to) same room = tt
room-kept old new (Links rd to) same room = tt
room-kept old new Proceeds same room = tt
room-kept old new Breaks same room = tt
room-kept old new (Calls which) same room = tt

-- room is made, the operands are noted, and then the effect
pub step-noted : (a b c d : Log) (operands reads writes : List Spot) → HoldsSame a b
    → Noted b c operands [] → Noted c d reads writes → HoldsAfter a d (operands ++ reads) writes
step-noted a b c d operands reads writes room first rest =
    holds-after-room a b d (operands ++ reads) writes room
    (noted-reads b c d operands reads writes first rest).holds

-- an access that doesn't trap notes what it touches
pub access-noted : (a b : Log) (at size : ℕ) (reads writes : List Spot) → at % size ≡ 0 → is_in_memory at ≡ true
    → Noted a b reads writes
    → Noted a b (unless_trapped (at % size == 0) (is_in_memory at) reads) (unless_trapped (at % size == 0) (is_in_memory at) writes)
access-noted a b at size reads writes aligned inside noted =
    let by : (at % size == 0) ≡ true = ap (λ n. n == 0) aligned in
    subst (λ p. Noted a b (unless_trapped p (is_in_memory at) reads) (unless_trapped p (is_in_memory at) writes)) (sym by)
    (subst (λ q. Noted a b (unless_trapped true q reads) (unless_trapped true q writes)) (sym inside) noted)
