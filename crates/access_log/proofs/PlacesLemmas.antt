-- Sets of places that hold nothing.
use Rattle.std.proofs.Common.{◌≡◌, ℕ, false, ap, ◌∙◌}
use Rattle.std.specs.Prelude.{◌||◌}
use Rattle.bop_bits.specs.BitSets.{is_in}
use Rattle.bop_bits.specs.Pages.{page_of, place_of}
use Rattle.access_log.specs.declared.spot.Spot.{Spot}
use Rattle.access_log.specs.declared.spot.Spot.TheVariants.{Register, Cursor, Byte}
use Rattle.access_log.specs.declared.places.Places.{Places}
use Rattle.access_log.specs.Held.{has}
use Rattle.access_log.specs.MaskedPages.{has_place}

pub holds-nothing : (places : Places) → ((j : ℕ) → is_in places.registers.words j ≡ false)
    → places.cursor ≡ false → ((j : ℕ) → is_in places.pages.words j ≡ false)
    → ((p q : ℕ) → has_place places.bytes p q ≡ false) → (x : Spot) → has places x ≡ false
holds-nothing places registers cursor pages bytes (Register r) = registers r
holds-nothing places registers cursor pages bytes Cursor = cursor
holds-nothing places registers cursor pages bytes (Byte at) =
    ap (λ b. b || has_place places.bytes (page_of at) (place_of at)) (pages (page_of at))
    ∙ bytes (page_of at) (place_of at)
