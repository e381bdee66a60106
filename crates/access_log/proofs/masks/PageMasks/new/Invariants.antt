use Rattle.std.proofs.Common.{◌≡◌, ℕ, false, None, length}
use Rattle.std.specs.Prelude.{slice_index_or}
use Rattle.access_log.specs.MaskedPages.{is_there}
use Rattle.access_log.proofs.masks.PageMasks.new.Given as goal

abbrev pub invariant-loop : goal.invariant-loop
invariant-loop l = record {
  none : (p : ℕ) → is_there (slice_index_or l.masks.items p None) ≡ false;
  whole : length l.masks.items ≡ l.counter;
}
