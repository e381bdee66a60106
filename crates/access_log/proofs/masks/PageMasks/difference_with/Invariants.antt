use Rattle.std.proofs.Common.{◌≡◌, ◌<◌, ◌≤◌, ℕ, false}
use Rattle.std.specs.Prelude.{◌&&◌, ◌||◌, not}
use Rattle.access_log.specs.MaskedPages.{has_place, has_mask}
use Rattle.access_log.proofs.masks.PageMasks.difference_with.Given as goal

abbrev pub invariant-loop-page : goal.invariant-loop-page
invariant-loop-page l = record {
  done : (p q : ℕ) → p < l.page → has_place l.self p q ≡ (has_place l.initial.self p q && not (has_place l.other p q));
  left : (p q : ℕ) → l.page ≤ p → has_place l.self p q ≡ has_place l.initial.self p q;
  room : (p : ℕ) → has_mask l.self p ≡ has_mask l.initial.self p;
}
