-- The changed things as a task commits, and the pages that a log has touched.
use Rattle.std.specs.Prelude.{◌≡◌, ℕ, ◌<◌, ◌⊎◌, ◌&&◌, ◌||◌, not, Bool}
use Rattle.bop_bits.specs.BitSets.{is_in}
use Rattle.bop_bits.specs.Pages.{page_of, place_of}
use Rattle.bop_bits.specs.declared.map.TheConstants.{PAGES}
use Rattle.access_log.specs.declared.log.Log.{Log}
use Rattle.access_log.specs.declared.places.Places.{Places}
use Rattle.access_log.specs.declared.spot.Spot.{Spot}
use Rattle.access_log.specs.declared.spot.Spot.TheVariants.{Register, Cursor, Byte}
use Rattle.access_log.specs.Things.{IsSpot}
use Rattle.access_log.specs.Held.{HasSomeOf}
use Rattle.access_log.specs.MaskedPages.{has_place}

-- whether a spot is in the set by itself, and not with its whole page
abbrev pub has_itself : Places → Spot → Bool
has_itself places (Register r) = is_in places.registers.words r
has_itself places Cursor = places.cursor
has_itself places (Byte at) = has_place places.bytes (page_of at) (place_of at)

-- whether a whole page is in the set
abbrev pub has_page : Places → (page : ℕ) → Bool
has_page places page = is_in places.pages.words page

-- whether a thing is changed after a task has committed: it was before, and the task neither touched
-- it first nor wrote it, or the task wrote it after its fork
abbrev pub still_changed : (changed first wrote after_fork : Bool) → Bool
still_changed changed first wrote after_fork = (changed && not (first || wrote)) || after_fork

-- the changed things after a task with this log has committed
pub record Follows (log : Log) (old new : Places) : Type 0 where
  pub spot : (x : Spot) → IsSpot x → has_itself new x
      ≡ still_changed (has_itself old x) (has_itself log.first x) (has_itself log.wrote x) (has_itself log.after_fork x)
  pub page : (n : ℕ) → n < PAGES → has_page new n
      ≡ still_changed (has_page old n) (has_page log.first n) (has_page log.wrote n) (has_page log.after_fork n)

-- some byte of a page is touched, or the whole page
abbrev pub HasTouched : Log → (page : ℕ) → Type 0
HasTouched log page = HasSomeOf log.first page ⊎ HasSomeOf log.wrote page
