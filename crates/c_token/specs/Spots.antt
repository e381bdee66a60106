-- Where a reader of a text stands.
use Rattle.std.specs.Prelude.{ℕ, ◌+◌, true, ◌&&◌, List, [], ◌∷◌, if◌then◌else◌, nat_eq}
use Rattle.c_token.specs.declared.spot.Spot.{Spot}
use Rattle.c_token.specs.Bytes.{is_blank}

abbrev pub beginning : Spot
beginning = record { place = record { line = 1; column = 1 }; fresh = true }

-- behind one byte: a LF ends a line, and only blanks and tabs leave a line fresh
abbrev pub after : Spot → ℕ → Spot
after at b =
    if nat_eq b 10 then record
    { place = record { line = at.place.line + 1; column = 1 }; fresh = true }
    else record {
      place = record { line = at.place.line; column = at.place.column + 1 };
      fresh = at.fresh && is_blank b;
    }

-- behind all of them
abbrev pub past : Spot → List ℕ → Spot
past at [] = at
past at (b ∷ bytes) = past (after at b) bytes
