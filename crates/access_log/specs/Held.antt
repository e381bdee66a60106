-- What a set of places holds, and where a log has room.
use Rattle.std.specs.Prelude.{◌≡◌, ℕ, ◌<◌, ◌⊎◌, ◌&&◌, ◌||◌, Bool, true}
use Rattle.bop_bits.specs.BitSets.{is_in}
use Rattle.bop_bits.specs.Pages.{page_of, place_of}
use Rattle.bop_bits.specs.declared.map.TheConstants.{PAGES}
use Rattle.access_log.specs.declared.spot.Spot.{Spot}
use Rattle.access_log.specs.declared.spot.Spot.TheVariants.{Register, Cursor, Byte}
use Rattle.access_log.specs.declared.places.Places.{Places}
use Rattle.access_log.specs.MaskedPages.{has_place, has_mask, HasSome}

-- whether a spot is in the set: a byte also where its whole page is
abbrev pub has : Places → Spot → Bool
has places (Register r) = is_in places.registers.words r
has places Cursor = places.cursor
has places (Byte at) =
    is_in places.pages.words (page_of at) || has_place places.bytes (page_of at) (place_of at)

-- whether there is room for a spot: registers, the cursor and whole pages always have it
abbrev pub has_room : Places → Spot → Bool
has_room places (Register r) = true
has_room places Cursor = true
has_room places (Byte at) = has_mask places.bytes (page_of at)

-- there is room for every byte
abbrev pub IsRoomy : Places → Type 0
IsRoomy places = (page : ℕ) → page < PAGES → has_mask places.bytes page ≡ true

-- some byte of a page is in the set, or the whole page
abbrev pub HasSomeOf : Places → (page : ℕ) → Type 0
HasSomeOf places page = (is_in places.pages.words page ≡ true) ⊎ HasSome places.bytes page
