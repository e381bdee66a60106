-- The bytes of a page put one after another.
use Rattle.std.specs.Prelude.{ℕ, ◌%◌, nat_lt, if◌then◌else◌, List, slice_index}
use Rattle.bop_bits.specs.declared.map.TheConstants.{PAGE_BYTES}
use Rattle.page_image.specs.PutBytes.{byte_put}

-- the byte at a place, where those below a place of the page are put
abbrev pub byte_put_below : ℕ → (memory : List ℕ) (n : ℕ) (from which : List ℕ) → ℕ → ℕ
byte_put_below upto memory n from which j =
    if nat_lt (j % PAGE_BYTES) upto then byte_put memory n from which j else slice_index memory j
