use Rattle.std.proofs.Common.{◌≡◌, ℕ, ◌^◌, ◌<◌, ◌≤◌, List, length, get_or, Result, Ok, Err, arith}
use Rattle.std.specs.Char.{IsAsciiDigit}
use Rattle.std.specs.Int.{IsInRange}
use Rattle.std.specs.List.{All}
use Rattle.std.specs.Str.Parse.{ParsesUnsigned, digits_value}
use Rattle.std.proofs.lemmas.Str.Parse.{IsNumeralModel, numerals_by_value, tells_by_index, parse_gives}
use Rattle.bop_words.specs.OptionTable.{IsNumber}
use Rattle.bop_words.proofs.number.number_of.Goals as goal

numerals : IsNumeralModel
    (λ (ds : List ℕ). (i : ℕ) → i < length ds → IsInRange 48 57 (get_or ds i 0)) (digits_value 10)
numerals = numerals_by_value _ tells_by_index

-- a number in the range is one of 64 bits
no_number : {E : Type 0} (least most : ℕ) (digits : List ℕ) (r : Result ℕ E) (e : E) → ParsesUnsigned 64 10 digits r
    → All IsAsciiDigit digits → r ≡ Err e → most < 2 ^ 64 → (number : ℕ) → IsNumber least most digits number → ⊥
no_number least most digits r e p all failed fits number h =
    let small : digits_value 10 digits < 2 ^ 64 = omega (arith, h.value, h.below, fits) in
    let read : r ≡ Ok (digits_value 10 digits) = parse_gives numerals 64 digits r p (λ i k. all i 0 k) h.some small in
    cc (read, failed)

pub returns-in_default : goal.returns-in_default
returns-in_default c =
    let all = c.are_digits.ensures.0 c.if-not-are_digits.false in
    no_number c.args.least c.args.most c.args.word.now c.parse.result _ c.parse.ensures.value.0
    (rw c.as_bytes.ensures.value at all) c.in_default.is c.ranges.most.fits
