-- The pages of data and stack, numbered from the data's first.
use Rattle.std.specs.Prelude.{ℕ, ◌-◌, ◌*◌, ◌/◌, ◌%◌, List, take, drop}
use Rattle.bop_bits.specs.declared.map.TheConstants.{DATA_FROM, PAGE_BYTES}

-- the page of an address
abbrev pub page_of : ℕ → ℕ
page_of at = (at - DATA_FROM) / PAGE_BYTES

-- the place of an address in its page
abbrev pub place_of : ℕ → ℕ
place_of at = (at - DATA_FROM) % PAGE_BYTES

-- the bytes of a page
abbrev pub page_at : List ℕ → ℕ → List ℕ
page_at memory n = take PAGE_BYTES (drop (PAGE_BYTES * n) memory)
