-- Sets of bytes, page by page.
use Rattle.std.specs.Prelude.{◌≡◌, ℕ, Bool, true, false, Option, Some, None, slice_index_or}
use Rattle.std.specs.Global.{Box}
use Rattle.bop_bits.specs.BitSets.{is_in}
use Rattle.bop_bits.specs.declared.bit_set.BitSet.{BitSet}
use Rattle.access_log.specs.declared.masks.PageMasks.{PageMasks}

-- the set of a page's bytes, where it has one
abbrev pub mask_of : PageMasks → (page : ℕ) → Option (Box (BitSet 64))
mask_of masks page = slice_index_or masks.masks.items page None

abbrev pub is_place_in : Option (Box (BitSet 64)) → (place : ℕ) → Bool
is_place_in None place = false
is_place_in (Some mask) place = is_in mask.value.words place

abbrev pub is_there : Option (Box (BitSet 64)) → Bool
is_there None = false
is_there (Some mask) = true

-- whether the byte at a place of a page is in the sets
abbrev pub has_place : PageMasks → (page place : ℕ) → Bool
has_place masks page place = is_place_in (mask_of masks page) place

-- whether there is room for the bytes of a page
abbrev pub has_mask : PageMasks → (page : ℕ) → Bool
has_mask masks page = is_there (mask_of masks page)

-- some byte of a page is in its set
abbrev pub HasSome : PageMasks → (page : ℕ) → Type 0
HasSome masks page = (place : ℕ) × (has_place masks page place ≡ true)
