-- Where the objects that live stand in the memory: each of its bytes has a cell, with the number of the object that owns the byte, counted from 1, or with 0.
use Rattle.std.specs.Prelude.{◌≡◌, ◌≤◌, ◌<◌, ◌+◌, ◌-◌, ℕ, zero, suc, Bool, false, if◌then◌else◌, nat_le, List, length, slice_get, slice_index, Some}
use Rattle.std.specs.Option.{option_map_or}
use Rattle.bop_bits.specs.declared.map.TheConstants.{DATA_FROM, MEMORY_BYTES}
use Rattle.c_semantics.specs.declared.object.Object.{Object}
use Rattle.c_semantics.specs.Memory.{holds}

-- the object has the byte at an address
abbrev pub HasByte : ℕ → Object → Type 0
HasByte at o = (o.address ≤ at) × (at < o.address + o.size)

-- it has a byte at least, and all lie in the memory
abbrev pub LiesInMemory : Object → Type 0
LiesInMemory o = (0 < o.size) × (DATA_FROM ≤ o.address)
    × (o.address + o.size ≤ DATA_FROM + MEMORY_BYTES)

-- the owner of the byte at an address; a byte outside the memory has none
abbrev pub owner_at : List ℕ → ℕ → ℕ
owner_at owners at = if nat_le DATA_FROM at then slice_index owners (at - DATA_FROM) else 0

-- an owner holds the bytes from an address on
abbrev pub owner_holds : List Object → ℕ → ℕ → ℕ → Bool
owner_holds objects zero at size = false
owner_holds objects (suc k) at size = option_map_or (holds at size) (slice_get objects k) false

-- an object lies in the memory and owns each of its bytes
pub record Stands (owners : List ℕ) (owner : ℕ) (o : Object) : Type 0 where
  pub inside : LiesInMemory o
  pub owns : (at : ℕ) → HasByte at o → owner_at owners at ≡ owner

-- so many of the objects, the first ones, stand in the cells
pub record StandFirst (objects : List Object) (owners : List ℕ) (standing : ℕ) : Type 0 where
  pub cells : length owners ≡ MEMORY_BYTES
  pub within : standing ≤ length objects
  -- each of them owns its bytes
  pub stands : (k : ℕ) (o : Object) → k < standing → slice_get objects k ≡ Some o
      → Stands owners (k + 1) o
  -- an owner is one of them, and has the byte
  pub among : (at k : ℕ) → owner_at owners at ≡ k + 1 → k < standing
  pub has : (at k : ℕ) (o : Object) → owner_at owners at ≡ k + 1 → slice_get objects k ≡ Some o
      → HasByte at o
