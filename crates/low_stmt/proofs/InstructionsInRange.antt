-- The pieces of code have instructions whose fields are in range.
use Rattle.std.proofs.Common.{◌≡◌, ℕ, zero, suc, ◌+◌, ◌*◌, ◌^◌, ◌<◌, ◌≤◌, List, [], ◌∷◌, ◌++◌, refl, arith, ℤ, pos, negsuc}
use Rattle.std.specs.List.{AllByRecursion}
use Rattle.std.specs.Prelude.{Bool, true, false, ◌≤ℤ◌, ◌||◌, ◌&&◌, not}
use Rattle.std.proofs.lemmas.Bool.Decides.{nat_tests}
use Rattle.std.proofs.lemmas.Grind.{common_steps}
use Rattle.std.proofs.lemmas.Int.{ints}
use Rattle.rv_code.specs.declared.instr.Instr.{Instr}
use Rattle.rv_code.specs.declared.instr.Instr.TheVariants as instr
use Rattle.rv_code.specs.Table.{IsInstr}
use Rattle.c_tree.specs.declared.operator.Binary.{Binary}
use Rattle.c_tree.specs.declared.operator.Binary.TheVariants as binary
use Rattle.c_tree.specs.declared.operator.Group.{Group}
use Rattle.c_tree.specs.declared.operator.Group.TheVariants as by
use Rattle.c_tree.specs.declared.operator.Unary.{Unary}
use Rattle.c_tree.specs.declared.operator.Unary.TheVariants as unary
use Rattle.c_tree.specs.Groups.{group, is_shift}
use Rattle.c_tree.specs.Ty.{Ty}
use Rattle.c_tree.specs.Ty as ty
use Rattle.c_semantics.specs.declared.home.Home.{Home}
use Rattle.c_semantics.specs.declared.home.Home.TheVariants.{Fixed, InFrame, Nowhere}
use Rattle.c_semantics.specs.declared.kind.Held.{Held}
use Rattle.c_semantics.specs.declared.kind.Held.TheVariants.{Byte, Word, Array}
use Rattle.c_semantics.specs.declared.kind.Operand.{Operand}
use Rattle.c_semantics.specs.declared.kind.Operand.TheVariants.{Pointer}
use Rattle.c_semantics.specs.Eval.{is_unsigned}
use Rattle.low_expr.specs.CodePieces.{upper, lower, is_immediate, constant_by, constant, is_near, frame_address_by, frame_address, take_by, take_slot, find_by, find_slot, put_by, put_slot, nothing, home_address, read_by, narrow_by, write_by}
use Rattle.low_expr.specs.ExprCode.{arguments_into}
use Rattle.low_expr.specs.Operators.{word_code, arithmetic_code, scaled, sum_code, difference_code, other_code, group_code, binary_code, unary_code, cast_code}

abbrev pub AreInstrs : List Instr → Type 0
AreInstrs = AllByRecursion IsInstr

pub instrs_append : (xs ys : List Instr) → AreInstrs xs → AreInstrs ys → AreInstrs (xs ++ ys)
instrs_append [] ys h g = g
instrs_append (x ∷ xs) ys h g = (h.0, instrs_append xs ys h.1 g)

-- an immediate of 12 bits
abbrev IsSmall : ℤ → Type 0
IsSmall imm = (negsuc 2047 ≤ℤ imm) × (imm ≤ℤ pos 2047)

lower_small : (v : ℕ) → IsSmall (lower v)
lower_small v = (grind (arith, common_steps, ints, nat_tests), grind (arith, common_steps, ints, nat_tests))

upper_fits : (v : ℕ) → upper v < 2 ^ 20
upper_fits v = omega arith

near_small : (offset : ℕ) → is_near offset ≡ true → IsSmall (pos offset)
near_small offset near =
    (grind (arith, common_steps, ints, nat_tests, near), grind (arith, common_steps, ints, nat_tests, near))

constant_by_fits : (b : Bool) (rd v : ℕ) → rd < 32 → AreInstrs (constant_by b rd v)
constant_by_fits true rd v low = ((low, omega arith, (lower_small v).0, (lower_small v).1), tt)
constant_by_fits false rd v low = ((low, upper_fits v), ((low, low, (lower_small v).0, (lower_small v).1), tt))

pub constant_fits : (rd v : ℕ) → rd < 32 → AreInstrs (constant rd v)
constant_fits rd v low = constant_by_fits (is_immediate v) rd v low

frame_address_by_fits : (b : Bool) (rd offset : ℕ) → is_near offset ≡ b → rd < 32
    → AreInstrs (frame_address_by b rd offset)
frame_address_by_fits true rd offset e low = ((low, omega arith, (near_small offset e).0, (near_small offset e).1), tt)
frame_address_by_fits false rd offset e low =
    ((low, upper_fits offset), ((low, low, omega arith), ((low, low, (lower_small offset).0, (lower_small offset).1), tt)))

pub frame_address_fits : (rd offset : ℕ) → rd < 32 → AreInstrs (frame_address rd offset)
frame_address_fits rd offset low = frame_address_by_fits (is_near offset) rd offset refl low

take_by_fits : (b : Bool) (rd offset : ℕ) → is_near offset ≡ b → rd < 32
    → AreInstrs (take_by b rd offset)
take_by_fits true rd offset e low = ((low, omega arith, (near_small offset e).0, (near_small offset e).1), tt)
take_by_fits false rd offset e low =
    ((low, upper_fits offset), ((low, low, omega arith), ((low, low, (lower_small offset).0, (lower_small offset).1), tt)))

pub take_fits : (rd slot : ℕ) → rd < 32 → AreInstrs (take_slot rd slot)
take_fits rd slot low = take_by_fits (is_near (4 * slot)) rd (4 * slot) refl low

find_by_fits : (b : Bool) (offset : ℕ) → AreInstrs (find_by b offset)
find_by_fits true offset = tt
find_by_fits false offset =
    ((omega arith, upper_fits offset), ((omega arith, omega arith, omega arith), tt))

pub find_fits : (slot : ℕ) → AreInstrs (find_slot slot)
find_fits slot = find_by_fits (is_near (4 * slot)) (4 * slot)

put_by_fits : (b : Bool) (rs offset : ℕ) → is_near offset ≡ b → rs < 32
    → IsInstr (put_by b rs offset)
put_by_fits true rs offset e low = (omega arith, low, (near_small offset e).0, (near_small offset e).1)
put_by_fits false rs offset e low = (omega arith, low, (lower_small offset).0, (lower_small offset).1)

pub put_fits : (rs slot : ℕ) → rs < 32 → IsInstr (put_slot rs slot)
put_fits rs slot low = put_by_fits (is_near (4 * slot)) rs (4 * slot) refl low

pub nothing_fits : IsInstr nothing
nothing_fits = grind (arith, common_steps, ints)

pub move_fits : (rd rs : ℕ) → rd < 32 → rs < 32 → IsInstr (instr.Addi rd rs (pos 0))
move_fits rd rs low1 low2 = grind (arith, common_steps, ints)

pub home_fits : (h : Home) → AreInstrs (home_address h)
home_fits (Fixed address) = constant_fits 5 address (omega arith)
home_fits (InFrame offset) = frame_address_fits 5 offset (omega arith)
home_fits Nowhere = constant_fits 5 0 (omega arith)

pub read_fits : (h : Held) (rs : ℕ) → rs < 32 → AreInstrs (read_by h rs)
read_fits Byte rs low = grind (arith, common_steps, ints)
read_fits Word rs low = grind (arith, common_steps, ints)
read_fits Array rs low = grind (arith, common_steps, ints)

pub narrow_fits : (h : Held) → AreInstrs (narrow_by h)
narrow_fits Byte = grind (arith, common_steps, ints)
narrow_fits Word = tt
narrow_fits Array = tt

pub write_fits : (h : Held) → AreInstrs (write_by h)
write_fits Byte = grind (arith, common_steps, ints)
write_fits Word = grind (arith, common_steps, ints)
write_fits Array = tt

word_fits : (o : Binary) (u : Bool) → AreInstrs (word_code o u)
word_fits binary.Right true = grind (arith, common_steps, ints)
word_fits binary.Right false = grind (arith, common_steps, ints)
word_fits o true = grind (arith, common_steps, ints)
word_fits o false = grind (arith, common_steps, ints)

arithmetic_fits : (o : Binary) (c d : Operand) → AreInstrs (arithmetic_code o c d)
arithmetic_fits o c d = word_fits o (is_unsigned c || (not (is_shift (group o)) && is_unsigned d))

scaled_fits : (size rd : ℕ) → rd < 32 → AreInstrs (scaled size rd)
scaled_fits size rd low =
    instrs_append (constant 28 size) (instr.Mul rd rd 28 ∷ []) (constant_fits 28 size (omega arith))
    ((low, low, omega arith), tt)

sum_fits : (o : Binary) (c d : Operand) → AreInstrs (sum_code o c d)
sum_fits o (Pointer size) d =
    instrs_append (scaled size 6) (instr.Add 5 5 6 ∷ []) (scaled_fits size 6 (omega arith))
    ((omega arith, omega arith, omega arith), tt)
sum_fits o c (Pointer size) =
    instrs_append (scaled size 5) (instr.Add 5 5 6 ∷ []) (scaled_fits size 5 (omega arith))
    ((omega arith, omega arith, omega arith), tt)
sum_fits o c d = arithmetic_fits o c d

difference_fits : (o : Binary) (c d : Operand) → AreInstrs (difference_code o c d)
difference_fits o (Pointer size) (Pointer other) = (
  (omega arith, omega arith, omega arith),
  instrs_append (constant 28 size) (instr.Div 5 5 28 ∷ []) (constant_fits 28 size (omega arith))
      ((omega arith, omega arith, omega arith), tt),
)
difference_fits o (Pointer size) d =
    instrs_append (scaled size 6) (instr.Sub 5 5 6 ∷ []) (scaled_fits size 6 (omega arith))
    ((omega arith, omega arith, omega arith), tt)
difference_fits o c d = arithmetic_fits o c d

other_fits : (o : Binary) (c d : Operand) → AreInstrs (other_code o c d)
other_fits o (Pointer size) d = word_fits o true
other_fits o c d = arithmetic_fits o c d

group_fits : (g : Group) (o : Binary) (c d : Operand) → AreInstrs (group_code g o c d)
group_fits by.Sum o c d = sum_fits o c d
group_fits by.Difference o c d = difference_fits o c d
group_fits g o c d = other_fits o c d

pub binary_fits : (o : Binary) (c d : Operand) → AreInstrs (binary_code o c d)
binary_fits o c d = group_fits (group o) o c d

pub unary_fits : (o : Unary) → AreInstrs (unary_code o)
unary_fits unary.Minus = grind (arith, common_steps, ints)
unary_fits unary.Not = grind (arith, common_steps, ints)
unary_fits unary.Flip = grind (arith, common_steps, ints)
unary_fits o = tt

pub cast_fits : (to : Ty) → AreInstrs (cast_code to)
cast_fits ty.Char = grind (arith, common_steps, ints)
cast_fits to = tt

pub arguments_fit : (count rd slot : ℕ) → rd + count ≤ 32 → AreInstrs (arguments_into count rd slot)
arguments_fit zero rd slot le = tt
arguments_fit (suc n) rd slot le =
    instrs_append (take_slot rd slot) (arguments_into n (rd + 1) (slot + 1))
    (take_fits rd slot (omega arith)) (arguments_fit n (rd + 1) (slot + 1) (omega arith))

pub store_fits : (rs1 rs2 : ℕ) → rs1 < 32 → rs2 < 32 → IsInstr (instr.Sw rs1 rs2 (pos 0))
store_fits rs1 rs2 low1 low2 = grind (arith, common_steps, ints)

-- the jump back of a call
pub back_fits : IsInstr (instr.Jalr 0 1 (pos 0))
back_fits = grind (arith, common_steps, ints)
