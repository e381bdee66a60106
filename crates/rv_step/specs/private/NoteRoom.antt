-- The room that a log has for what an effect touches.
use Rattle.std.specs.Prelude.{◌≡◌, ℕ, ◌%◌, ◌==◌, true}
use Rattle.bop_bits.specs.MemoryNumbers.{is_in_memory}
use Rattle.access_log.specs.declared.log.Log.{Log}
use Rattle.access_log.specs.declared.spot.Spot.TheVariants.{Byte}
use Rattle.access_log.specs.Noted.{has_room_for}
use Rattle.rv_code.specs.declared.effect.Effect.{Effect}
use Rattle.rv_code.specs.declared.effect.Effect.TheVariants.{Sets, Loads, Stores, Jumps, Links, Proceeds, Breaks, Calls}

-- for the page of an access that doesn't trap
abbrev pub RoomForAccess : Log → (at size : ℕ) → Type 0
RoomForAccess log at size =
    (at % size == 0) ≡ true → is_in_memory at ≡ true → has_room_for log (Byte at) ≡ true

abbrev pub RoomFor : Log → Effect → Type 0
RoomFor log (Loads rd at size signed) = RoomForAccess log at size
RoomFor log (Stores at size value) = RoomForAccess log at size
RoomFor log (Sets rd value) = Unit {0}
RoomFor log (Jumps to) = Unit {0}
RoomFor log (Links rd to) = Unit {0}
RoomFor log Proceeds = Unit {0}
RoomFor log Breaks = Unit {0}
RoomFor log (Calls which) = Unit {0}
