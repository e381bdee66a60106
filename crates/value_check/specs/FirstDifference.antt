-- The first byte of a page in which two memories differ.
use Rattle.std.specs.Prelude.{ℕ, ◌+◌, ◌*◌, ◌==◌, Bool, if◌then◌else◌, List, Option, Some, None}
use Rattle.bop_bits.specs.MemoryNumbers.{byte_at}
use Rattle.bop_bits.specs.declared.map.TheConstants.{DATA_FROM, PAGE_BYTES}
use Rattle.value_check.specs.FirstOf.{first_of}
use Rattle.value_check.specs.declared.difference.Difference.{Difference}

-- the address of a place of a page
abbrev pub address_of : (page place : ℕ) → ℕ
address_of page place = DATA_FROM + PAGE_BYTES * page + place

-- a byte with both of its values, where they differ
abbrev pub difference_at : (now seen : List ℕ) (at : ℕ) → Option Difference
difference_at now seen at =
    if byte_at now at == byte_at seen at then None
    else Some (record { address = at; seen = byte_at seen at; now = byte_at now at })

-- the first that differs, of the bytes of a page whose places are in a set
abbrev pub first_difference : (now seen : List ℕ) (page : ℕ) (which : ℕ → Bool) → Option Difference
first_difference now seen page which =
    first_of (λ place. if which place then difference_at now seen (address_of page place) else None)
    PAGE_BYTES
