use Rattle.std.proofs.Common.{◌≡◌, ℕ, length}
use Rattle.std.specs.Prelude.{slice_index}
use Rattle.page_image.proofs.Putting.{byte_put_below}
use Rattle.page_image.proofs.image.put_page_bytes.Given as goal

abbrev pub invariant-loop-i : goal.invariant-loop-i
invariant-loop-i l = record {
  put : (j : ℕ) → slice_index l.bytes j
      ≡ byte_put_below l.i l.initial.bytes l.n l.from l.which.words j;
  whole : length l.bytes ≡ length l.initial.bytes;
}
