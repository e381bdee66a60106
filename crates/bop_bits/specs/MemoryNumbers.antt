-- Data and stack as one list of bytes, and the numbers of 1, 2 or 4 bytes in it, the lowest byte
-- first (RV32I 2.1, chapter 1.4: the memory is little-endian).
use Rattle.std.specs.Prelude.{ℕ, zero, suc, ◌+◌, ◌-◌, ◌*◌, ◌/◌, ◌%◌, ◌^◌, ◌≤◌, ◌<◌, ◌≡◌, ◌⊎◌, ◌&&◌, Bool, nat_le, nat_lt, List, slice_index, slice_set}
use Rattle.bop_bits.specs.declared.map.TheConstants.{DATA_FROM, STACK_TO}

-- the byte at an address
abbrev pub byte_at : List ℕ → ℕ → ℕ
byte_at memory at = slice_index memory (at - DATA_FROM)

-- the byte at an address becomes the lowest of a number
abbrev pub with_byte : List ℕ → ℕ → ℕ → List ℕ
with_byte memory at value = slice_set memory (at - DATA_FROM) (value % 2 ^ 8)

-- so many bytes from an address on, as one number
abbrev pub number_at : List ℕ → (at size : ℕ) → ℕ
number_at memory at zero = 0
number_at memory at (suc n) = byte_at memory at + 2 ^ 8 * number_at memory (at + 1) n

-- so many bytes from an address on become those of a number
abbrev pub with_number : List ℕ → (at size value : ℕ) → List ℕ
with_number memory at zero value = memory
with_number memory at (suc n) value =
    with_number (with_byte memory at value) (at + 1) n (value / 2 ^ 8)

-- an address of data or stack
abbrev pub is_in_memory : ℕ → Bool
is_in_memory at = nat_le DATA_FROM at && nat_lt at STACK_TO

-- the sizes of numbers
abbrev pub IsSize : ℕ → Type 0
IsSize size = (size ≡ 1) ⊎ ((size ≡ 2) ⊎ (size ≡ 4))

-- a number of this size can be at this address
pub record Fits (at size : ℕ) : Type 0 where
  pub sized : IsSize size
  pub aligned : at % size ≡ 0
  pub from : DATA_FROM ≤ at
  pub below : at < STACK_TO
