-- Some bytes of a page put into a memory.
use Rattle.std.specs.Prelude.{ℕ, ◌/◌, ◌%◌, ◌==◌, ◌&&◌, if◌then◌else◌, List, slice_index}
use Rattle.bop_bits.specs.BitSets.{is_in}
use Rattle.bop_bits.specs.declared.map.TheConstants.{PAGE_BYTES}

-- the byte at a place of the memory, where those of page n that are in the set come from another page
abbrev pub byte_put : (memory : List ℕ) (n : ℕ) (from which : List ℕ) → ℕ → ℕ
byte_put memory n from which i =
    if (i / PAGE_BYTES == n) && is_in which (i % PAGE_BYTES) then slice_index from (i % PAGE_BYTES)
    else slice_index memory i
