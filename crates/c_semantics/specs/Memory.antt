-- Reads and writes of the memory (C11 6.2.6, 6.5 paragraph 7).
use Rattle.std.specs.Prelude.{ℕ, zero, suc, ◌+◌, ◌-◌, ◌*◌, ◌/◌, ◌%◌, ◌==◌, ◌&&◌, Bool, if◌then◌else◌, nat_le, List, [], ◌∷◌, take, drop, slice_set, ◌^◌, Option, Some, None, option_map}
use Rattle.std.specs.List.{list_any}
use Rattle.bop_bits.specs.declared.map.TheConstants.{DATA_FROM}
use Rattle.c_tree.specs.declared.place.Place.{Place}
use Rattle.c_tree.specs.declared.undefined.Undefined.TheVariants.{Access, Indeterminate}
use Rattle.c_semantics.specs.declared.kind.Held.{Held}
use Rattle.c_semantics.specs.declared.kind.Held.TheVariants.{Byte, Word, Array}
use Rattle.c_semantics.specs.declared.object.Object.{Object}
use Rattle.c_semantics.specs.Run.{Run, pure, ◌>>=◌, ◌>>◌, now, change, undefined, given_or}

-- the object holds the bytes from an address on
abbrev pub holds : ℕ → ℕ → Object → Bool
holds at size o = nat_le o.address at && nat_le (at + size) (o.address + o.size)

-- an access is to bytes of one live object, at an address that is aligned
abbrev pub is_fine : ℕ → ℕ → List Object → Bool
is_fine at size live = list_any (holds at size) live && at % size == 0

-- bytes as one number, the lowest first, where each was written
abbrev pub number : List (Option ℕ) → Option ℕ
number [] = Some 0
number (None ∷ bytes) = None
number (Some b ∷ bytes) = option_map (λ n. b + 256 * n) (number bytes)

-- a number's lowest bytes, the lowest first
abbrev pub digits : ℕ → ℕ → List ℕ
digits zero v = []
digits (suc n) v = v % 256 ∷ digits n (v / 256)

-- the bytes from an address on
abbrev pub range : ℕ → ℕ → List (Option ℕ) → List (Option ℕ)
range at size bytes = take size (drop (at - DATA_FROM) bytes)

-- a byte is written, or made one that isn't
abbrev pub with_byte : ℕ → Option ℕ → List (Option ℕ) → List (Option ℕ)
with_byte at b bytes = slice_set bytes (at - DATA_FROM) b

-- bytes that are written one behind the other
abbrev pub with_bytes : ℕ → List ℕ → List (Option ℕ) → List (Option ℕ)
with_bytes at [] bytes = bytes
with_bytes at (b ∷ bs) bytes = with_bytes (at + 1) bs (with_byte at (Some b) bytes)

abbrev pub read : ℕ → ℕ → Place → Run ℕ
read size address at = do
  store ← now
  if is_fine address size store.live
      then given_or Indeterminate at (number (range address size store.bytes))
      else undefined Access at

-- the number that was stored
abbrev pub write : ℕ → ℕ → ℕ → Place → Run ℕ
write size address v at = do
  store ← now
  if is_fine address size store.live
      then change (record store { bytes = with_bytes address (digits size v) store.bytes }) >> pure
      v
      else undefined Access at

-- what an object holds; of an array, the address of its first element (6.3.2.1)
abbrev pub value_at : Held → ℕ → Place → Run ℕ
value_at Byte address at = read 1 address at
value_at Word address at = read 4 address at
value_at Array address at = pure address

-- a value into an object, converted to its type (6.5.16.1); an array isn't assigned
abbrev pub store_at : Held → ℕ → ℕ → Place → Run ℕ
store_at Byte address v at = write 1 address (v % 2 ^ 8) at
store_at Word address v at = write 4 address (v % 2 ^ 32) at
store_at Array address v at = pure v

-- some bytes are not written any more
abbrev pub blank : ℕ → ℕ → List (Option ℕ) → List (Option ℕ)
blank at zero bytes = bytes
blank at (suc size) bytes = blank (at + 1) size (with_byte at None bytes)
