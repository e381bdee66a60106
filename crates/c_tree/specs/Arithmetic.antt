-- Values of 32 bits and the arithmetic on them, which gives a value or is an undefined act (C11 6.2.5, 6.3.1.3, 6.5).
use Rattle.std.specs.Prelude.{ℕ, ◌+◌, ◌-◌, ◌*◌, ◌/◌, ◌%◌, ◌^◌, ◌==◌, Bool, true, false, not, ◌||◌, ◌&&◌, nat_lt, if◌then◌else◌, Option, Some, None, Result, Ok, Err, ℤ, pos, negsuc, ◌+ℤ◌, ◌-ℤ◌, ◌*ℤ◌, neg_ℤ, int_lt, int_div, int_rem, bit_and, bit_or, bit_xor}
use Rattle.std.specs.Int.{w32, cast_signed, cast_unsigned, int_shr}
use Rattle.c_tree.specs.declared.operator.Binary.{Binary}
use Rattle.c_tree.specs.declared.operator.Binary.TheVariants as binary
use Rattle.c_tree.specs.declared.operator.Unary.{Unary}
use Rattle.c_tree.specs.declared.operator.Unary.TheVariants as unary
use Rattle.c_tree.specs.declared.undefined.Undefined.{Undefined}
use Rattle.c_tree.specs.declared.undefined.Undefined.TheVariants.{Overflow, Divide, Shift}
use Rattle.c_tree.specs.Ty.{Ty}
use Rattle.c_tree.specs.Ty as ty

-- A value is a word, a number below 2^32; an int is one in two's complement.

-- what arithmetic gives: a value, or the undefined act that it is
abbrev pub Outcome : Type 0
Outcome = Result ℕ Undefined

-- the number that an int's word stands for
abbrev pub signed : ℕ → ℤ
signed x = cast_signed w32 x

-- whether an int can be a number
abbrev pub fits_int : ℤ → Bool
fits_int (pos n) = nat_lt n (2 ^ 31)
fits_int (negsuc n) = nat_lt n (2 ^ 31)

-- a result of unsigned arithmetic wraps (6.2.5, paragraph 9)
abbrev pub wrapped : ℕ → Outcome
wrapped n = Ok (n % 2 ^ 32)

-- a result of signed arithmetic has to fit (6.5, paragraph 5)
abbrev pub fitted : ℤ → Outcome
fitted z = if fits_int z then Ok (cast_unsigned w32 z) else Err Overflow

-- a test gives 1 or 0
abbrev pub truth : Bool → ℕ
truth true = 1
truth false = 0

-- Where a flag comes first, it says that the operands are unsigned.

-- 6.5.6
abbrev pub sum : Bool → ℕ → ℕ → Outcome
sum true x y = wrapped (x + y)
sum false x y = fitted (signed x +ℤ signed y)

abbrev pub difference : Bool → ℕ → ℕ → Outcome
difference true x y = wrapped (x + (2 ^ 32 - y))
difference false x y = fitted (signed x -ℤ signed y)

-- 6.5.5; division truncates toward zero
abbrev pub product : Bool → ℕ → ℕ → Outcome
product true x y = wrapped (x * y)
product false x y = fitted (signed x *ℤ signed y)

abbrev pub quotient : Bool → ℕ → ℕ → Outcome
quotient true x y = if y == 0 then Err Divide else Ok (x / y)
quotient false x y = if y == 0 then Err Divide else fitted (int_div (signed x) (signed y))

-- the remainder of -2^31 by -1 is undefined as its quotient is
abbrev pub remainder : Bool → ℕ → ℕ → Outcome
remainder true x y = if y == 0 then Err Divide else Ok (x % y)
remainder false x y =
    if y == 0 then Err Divide
    else if fits_int (int_div (signed x) (signed y))
    then Ok (cast_unsigned w32 (int_rem (signed x) (signed y)))
    else Err Overflow

-- 6.5.7; an amount below 0 is a word above 31
abbrev pub within_word : ℕ → Outcome → Outcome
within_word amount shifted = if nat_lt amount 32 then shifted else Err Shift

-- the word of a negative int is 2^31 or more, so its product doesn't fit either
abbrev pub left_shift : Bool → ℕ → ℕ → Outcome
left_shift true x amount = within_word amount (wrapped (x * 2 ^ amount))
left_shift false x amount =
    within_word amount (if nat_lt (x * 2 ^ amount) (2 ^ 31) then Ok (x * 2 ^ amount)
    else Err Shift)

abbrev pub right_shift : Bool → ℕ → ℕ → Outcome
right_shift true x amount = within_word amount (Ok (x / 2 ^ amount))
right_shift false x amount =
    within_word amount (Ok (cast_unsigned w32 (int_shr (signed x) amount)))

-- 6.5.8
abbrev pub is_less : Bool → ℕ → ℕ → Bool
is_less true x y = nat_lt x y
is_less false x y = int_lt (signed x) (signed y)

-- what an operator between two integers gives, both at hand; for a shift the flag is the left one's
abbrev pub binary_word : Binary → Bool → ℕ → ℕ → Outcome
binary_word binary.Or unsigned x y = Ok (truth (not (x == 0) || not (y == 0)))
binary_word binary.And unsigned x y = Ok (truth (not (x == 0) && not (y == 0)))
binary_word binary.BitOr unsigned x y = Ok (bit_or x y)
binary_word binary.BitXor unsigned x y = Ok (bit_xor x y)
binary_word binary.BitAnd unsigned x y = Ok (bit_and x y)
binary_word binary.Equal unsigned x y = Ok (truth (x == y))
binary_word binary.Unequal unsigned x y = Ok (truth (not (x == y)))
binary_word binary.Less unsigned x y = Ok (truth (is_less unsigned x y))
binary_word binary.Greater unsigned x y = Ok (truth (is_less unsigned y x))
binary_word binary.LessEqual unsigned x y = Ok (truth (not (is_less unsigned y x)))
binary_word binary.GreaterEqual unsigned x y = Ok (truth (not (is_less unsigned x y)))
binary_word binary.Left unsigned x y = left_shift unsigned x y
binary_word binary.Right unsigned x y = right_shift unsigned x y
binary_word binary.Plus unsigned x y = sum unsigned x y
binary_word binary.Minus unsigned x y = difference unsigned x y
binary_word binary.Times unsigned x y = product unsigned x y
binary_word binary.Divide unsigned x y = quotient unsigned x y
binary_word binary.Rest unsigned x y = remainder unsigned x y

abbrev pub negative : Bool → ℕ → Outcome
negative true x = wrapped (2 ^ 32 - x)
negative false x = fitted (neg_ℤ (signed x))

-- 6.5.3.3; `*` and `&` are no arithmetic and leave the word
abbrev pub unary_word : Unary → Bool → ℕ → Outcome
unary_word unary.Plus unsigned x = Ok x
unary_word unary.Minus unsigned x = negative unsigned x
unary_word unary.Not unsigned x = Ok (truth (x == 0))
unary_word unary.Flip unsigned x = Ok (2 ^ 32 - 1 - x)
unary_word unary.At unsigned x = Ok x
unary_word unary.Address unsigned x = Ok x

-- 6.3.1.3: to char modulo 2^8, else modulo 2^32
abbrev pub converted : Ty → ℕ → ℕ
converted ty.Char x = x % 2 ^ 8
converted _ x = x % 2 ^ 32

-- the value, where an act isn't undefined
abbrev pub given : Outcome → Option ℕ
given (Ok word) = Some word
given (Err act) = None
