use Rattle.std.proofs.Common.{refl}
use Rattle.bop_ends.proofs.real_shelf.RealShelfShelf.TheImpl.Goals as goal

-- it tells nothing
pub load-tells : goal.load-tells
load-tells g c = record { bytes = λ told. absurd (cc told); tells = refl; files = refl; cause = c.ensures.cause }
