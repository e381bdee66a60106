-- Sets of places that keep their room for all.
use Rattle.std.proofs.Common.{◌≡◌, ℕ, ◌+◌, ◌*◌, ◌<◌, ◌∙◌, sym, ap, arith, true}
use Rattle.bop_bits.specs.Pages.{page_of}
use Rattle.bop_bits.specs.declared.map.TheConstants.{DATA_FROM, PAGES, PAGE_BYTES}
use Rattle.access_log.specs.declared.places.Places.{Places}
use Rattle.access_log.specs.declared.spot.Spot.{Spot}
use Rattle.access_log.specs.declared.spot.Spot.TheVariants.{Byte}
use Rattle.access_log.specs.Held.{has_room, IsRoomy}
use Rattle.access_log.specs.MaskedPages.{has_mask}

pub stays_roomy : (old new : Places) → ((x : Spot) → has_room new x ≡ has_room old x)
    → IsRoomy old → IsRoomy new
stays_roomy old new same roomy page less =
    let e : page_of (DATA_FROM + page * PAGE_BYTES) ≡ page = omega arith in
    sym (ap (has_mask new.bytes) e) ∙ same (Byte (DATA_FROM + page * PAGE_BYTES)) ∙ ap (has_mask old.bytes) e ∙ roomy page less
