-- What a log notes.
use Rattle.std.specs.Prelude.{◌≡◌, ◌&&◌, ◌||◌, not, Bool, List, if◌then◌else◌}
use Rattle.access_log.specs.declared.spot.Spot.{Spot}
use Rattle.access_log.specs.declared.log.Log.{Log}
use Rattle.access_log.specs.Things.{IsSpot, shared_by, is_shared, first_after, wrote_after}
use Rattle.access_log.specs.Held.{has, has_room}

-- whether there is room to note a spot: a byte of a page that isn't shared needs some
abbrev pub has_room_for : Log → Spot → Bool
has_room_for log x =
    is_shared (shared_by log.classes) x
    || (has_room log.first x && (has_room log.wrote x && has_room log.after_fork x))

-- a log's sets after a step that reads some spots and writes some
pub record HoldsAfter (old new : Log) (reads writes : List Spot) : Type 0 where
  pub classes : new.classes ≡ old.classes
  pub forked : new.forked ≡ old.forked
  pub first : (x : Spot) → IsSpot x → has new.first x
      ≡ first_after (shared_by old.classes) (has old.first) (has old.wrote) reads writes x
  pub wrote : (x : Spot) → IsSpot x → has new.wrote x
      ≡ wrote_after (shared_by old.classes) (has old.wrote) writes x
  pub after_fork : (x : Spot) → IsSpot x → has new.after_fork x
      ≡ (if old.forked then wrote_after (shared_by old.classes) (has old.after_fork) writes x
      else has old.after_fork x)

-- the same of a log with the room that it had
pub record Noted (old new : Log) (reads writes : List Spot) : Type 0 where
  pub holds : HoldsAfter old new reads writes
  pub room : (x : Spot) → has_room_for new x ≡ has_room_for old x

-- a log that differs at most in that it has more room
pub record HoldsSame (old new : Log) : Type 0 where
  pub classes : new.classes ≡ old.classes
  pub forked : new.forked ≡ old.forked
  pub first : (x : Spot) → has new.first x ≡ has old.first x
  pub wrote : (x : Spot) → has new.wrote x ≡ has old.wrote x
  pub after_fork : (x : Spot) → has new.after_fork x ≡ has old.after_fork x
