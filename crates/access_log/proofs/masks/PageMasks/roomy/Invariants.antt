use Rattle.std.proofs.Common.{◌≡◌, ◌<◌, ℕ, true, false}
use Rattle.access_log.specs.MaskedPages.{has_place, has_mask}
use Rattle.access_log.proofs.masks.PageMasks.roomy.Given as goal

abbrev pub invariant-loop-page : goal.invariant-loop-page
invariant-loop-page l = record {
  none : (p q : ℕ) → has_place l.masks p q ≡ false;
  room : (p : ℕ) → p < l.page → has_mask l.masks p ≡ true;
}
