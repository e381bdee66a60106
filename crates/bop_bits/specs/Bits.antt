-- Bits of words, as sums over powers of 2: a field of `len` bits whose lowest is bit `low`.
use Rattle.std.specs.Prelude.{ℕ, ◌+◌, ◌-◌, ◌*◌, ◌/◌, ◌%◌, ◌^◌, nat_lt, if◌then◌else◌, ℤ, pos, ◌-ℤ◌, List, [], ◌∷◌, slice_index}

-- the number in a field
abbrev pub field_of : (low len word : ℕ) → ℕ
field_of low len word = word / 2 ^ low % 2 ^ len

-- the lowest bits in two's complement
abbrev pub signed_of : (len value : ℕ) → ℤ
signed_of len value =
    if nat_lt (value % 2 ^ len) (2 ^ (len - 1)) then pos (value % 2 ^ len)
    else pos (value % 2 ^ len) -ℤ pos (2 ^ len)

-- a word whose field is a value's lowest bits
abbrev pub with_field : (low len word value : ℕ) → ℕ
with_field low len word value =
    word / 2 ^ (low + len) * 2 ^ (low + len) + value % 2 ^ len * 2 ^ low + word % 2 ^ low

-- four bytes as a word, the lowest first
abbrev pub little_endian : List ℕ → ℕ
little_endian bytes =
    slice_index bytes 0 + slice_index bytes 1 * 2 ^ 8 + slice_index bytes 2 * 2 ^ 16
    + slice_index bytes 3 * 2 ^ 24

-- the four bytes of a word, the lowest first
abbrev pub four_bytes : ℕ → List ℕ
four_bytes word =
    word % 2 ^ 8 ∷ word / 2 ^ 8 % 2 ^ 8 ∷ word / 2 ^ 16 % 2 ^ 8 ∷ word / 2 ^ 24 % 2 ^ 8 ∷ []
