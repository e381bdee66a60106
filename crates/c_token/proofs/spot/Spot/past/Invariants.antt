use Rattle.std.proofs.Common.{◌≡◌, ◌+◌, ◌-◌, ◌<◌, ◌≤◌, ◌^◌, length, drop}
use Rattle.c_token.specs.Spots.{past}
use Rattle.c_token.proofs.spot.Spot.past.Given as goal

abbrev pub invariant-loop-byte : goal.invariant-loop-byte
invariant-loop-byte l = (past l.spot (drop l.byte-index l.bytes) ≡ past l.fn.self l.bytes) × (1 ≤ l.spot.place.column) × (l.spot.place.line + l.spot.place.column + (length l.bytes - l.byte-index) < 2 ^ 32)
