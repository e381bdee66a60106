-- Arithmetic on words, numbers below 2^32 (RV32I 2.1, chapter 2.4; M 2.0, chapter 7).
use Rattle.std.specs.Prelude.{ℕ, ◌+◌, ◌-◌, ◌*◌, ◌/◌, ◌%◌, ◌^◌, ◌==◌, Bool, true, false, nat_lt, ℤ, int_lt, int_rem, if◌then◌else◌}
use Rattle.std.specs.Int.{w32, cast_unsigned, cast_signed, int_shr, int_wrapping_div}

-- the number that a word is in two's complement
abbrev pub number : ℕ → ℤ
number a = cast_signed w32 a

-- the word of a number in two's complement
abbrev pub word : ℤ → ℕ
word z = cast_unsigned w32 z

-- a test gives 1 or 0
abbrev pub truth : Bool → ℕ
truth true = 1
truth false = 0

abbrev pub signed_less : ℕ → ℕ → Bool
signed_less a b = int_lt (number a) (number b)

-- sums are modulo 2^32, those of addresses too (chapter 1.4: the address space is circular)
abbrev pub sum : ℕ → ℕ → ℕ
sum a b = (a + b) % 2 ^ 32

abbrev pub difference : ℕ → ℕ → ℕ
difference a b = (a + (2 ^ 32 - b)) % 2 ^ 32

-- an amount of bits is below 32
abbrev pub left_shift : (a amount : ℕ) → ℕ
left_shift a amount = a * 2 ^ amount % 2 ^ 32

abbrev pub right_shift : (a amount : ℕ) → ℕ
right_shift a amount = a / 2 ^ amount

-- filled with the sign
abbrev pub signed_right_shift : (a amount : ℕ) → ℕ
signed_right_shift a amount = word (int_shr (number a) amount)

abbrev pub product : ℕ → ℕ → ℕ
product a b = a * b % 2 ^ 32

-- a word with its sign, as 64 bits in two's complement
abbrev pub extended_64 : ℕ → ℕ
extended_64 a = if nat_lt a (2 ^ 31) then a else a + (2 ^ 64 - 2 ^ 32)

-- the upper 32 of the 64 bits of the product: of two numbers without sign, of two with their
-- signs, and of one with its sign by one without
abbrev pub upper_product : ℕ → ℕ → ℕ
upper_product a b = a * b / 2 ^ 32

abbrev pub signed_upper_product : ℕ → ℕ → ℕ
signed_upper_product a b = extended_64 a * extended_64 b % 2 ^ 64 / 2 ^ 32

abbrev pub mixed_upper_product : ℕ → ℕ → ℕ
mixed_upper_product a b = extended_64 a * b % 2 ^ 64 / 2 ^ 32

-- by 0 the quotient has all bits set, and the remainder is the dividend
abbrev pub quotient : ℕ → ℕ → ℕ
quotient a b = if b == 0 then 2 ^ 32 - 1 else a / b

abbrev pub remainder : ℕ → ℕ → ℕ
remainder a b = if b == 0 then a else a % b

-- toward zero; that of -2^31 by -1 wraps to -2^31
abbrev pub signed_quotient : ℕ → ℕ → ℕ
signed_quotient a b =
    if b == 0 then 2 ^ 32 - 1 else word (int_wrapping_div w32 (number a) (number b))

-- with the sign of the dividend; that of -2^31 by -1 is 0
abbrev pub signed_remainder : ℕ → ℕ → ℕ
signed_remainder a b = if b == 0 then a else word (int_rem (number a) (number b))

-- a number of so many bytes as a word, with its sign or without
abbrev pub extended : (signed : Bool) (size value : ℕ) → ℕ
extended false size value = value
extended true size value =
    if nat_lt value (2 ^ (8 * size - 1)) then value
    else (value + (2 ^ 32 - 2 ^ (8 * size))) % 2 ^ 32
