-- How many instructions the pieces of a node have.
use Rattle.std.proofs.Common.{ℕ, zero, suc, ◌+◌, ◌*◌, ◌≤◌, List, [], ◌∷◌, ◌++◌, length, arith, length-append}
use Rattle.std.specs.Prelude.{Bool, true, false, not, ◌&&◌, ◌||◌}
use Rattle.rv_code.specs.declared.instr.Instr.{Instr}
use Rattle.rv_code.specs.declared.instr.Instr.TheVariants as instr
use Rattle.c_tree.specs.declared.operator.Binary.{Binary}
use Rattle.c_tree.specs.declared.operator.Binary.TheVariants as binary
use Rattle.c_tree.specs.declared.operator.Group.{Group}
use Rattle.c_tree.specs.declared.operator.Group.TheVariants as by
use Rattle.c_tree.specs.declared.operator.Unary.{Unary}
use Rattle.c_tree.specs.declared.operator.Unary.TheVariants as unary
use Rattle.c_tree.specs.Groups.{group, is_shift}
use Rattle.c_tree.specs.Ty.{Ty}
use Rattle.c_tree.specs.Ty as ty
use Rattle.c_semantics.specs.declared.home.Home.{Home}
use Rattle.c_semantics.specs.declared.home.Home.TheVariants.{Fixed, InFrame, Nowhere}
use Rattle.c_semantics.specs.declared.kind.Held.{Held}
use Rattle.c_semantics.specs.declared.kind.Held.TheVariants.{Byte, Word, Array}
use Rattle.c_semantics.specs.declared.kind.Operand.{Operand}
use Rattle.c_semantics.specs.declared.kind.Operand.TheVariants.{Signed, Unsigned, Pointer}
use Rattle.c_semantics.specs.Eval.{is_unsigned}
use Rattle.low_expr.specs.CodePieces.{constant, is_immediate, is_near, take_slot, home_address, read_by, narrow_by, write_by}
use Rattle.low_expr.specs.Operators.{word_code, arithmetic_code, scaled, sum_code, difference_code, other_code, group_code, binary_code, unary_code, cast_code}
use Rattle.low_expr.specs.ExprCode.{arguments_into}
use Rattle.low_expr.proofs.CodePiecesLemmas.{constant_length, take_length, frame_length}

pub slot_length : (rd slot : ℕ) → length (take_slot rd slot) ≤ 3
slot_length rd slot = take_length (is_near (4 * slot)) rd (4 * slot)

pub number_length : (rd v : ℕ) → length (constant rd v) ≤ 2
number_length rd v = constant_length (is_immediate v) rd v

pub home_length : (h : Home) → length (home_address h) ≤ 3
home_length (Fixed address) = let l = number_length 5 address in omega (arith, l)
home_length (InFrame offset) = frame_length (is_near offset) 5 offset
home_length Nowhere = omega arith

pub read_length : (h : Held) (rs : ℕ) → length (read_by h rs) ≤ 1
read_length Byte rs = omega arith
read_length Word rs = omega arith
read_length Array rs = omega arith

pub narrow_length : (h : Held) → length (narrow_by h) ≤ 1
narrow_length Byte = omega arith
narrow_length Word = omega arith
narrow_length Array = omega arith

pub write_length : (h : Held) → length (write_by h) ≤ 1
write_length Byte = omega arith
write_length Word = omega arith
write_length Array = omega arith

word_length : (op : Binary) (u : Bool) → length (word_code op u) ≤ 3
word_length binary.Right true = omega arith
word_length binary.Right false = omega arith
word_length binary.Divide true = omega arith
word_length binary.Divide false = omega arith
word_length binary.Rest true = omega arith
word_length binary.Rest false = omega arith
word_length op u = omega arith

arithmetic_length : (op : Binary) (c d : Operand) → length (arithmetic_code op c d) ≤ 4
arithmetic_length op c d =
    let l = word_length op (is_unsigned c || (not (is_shift (group op)) && is_unsigned d)) in
    omega (arith, l)

scaled_length : (size rd : ℕ) (last : List Instr) → length last ≤ 1
    → length (scaled size rd ++ last) ≤ 4
scaled_length size rd last h =
    let l = number_length 28 size in
    omega (
      arith,
      l,
      length-append (constant 28 size) (instr.Mul rd rd 28 ∷ []),
      length-append
          (scaled size rd) last,
    )

sum_length : (op : Binary) (c d : Operand) → length (sum_code op c d) ≤ 4
sum_length op (Pointer size) d = scaled_length size 6 (instr.Add 5 5 6 ∷ []) (omega arith)
sum_length op Signed (Pointer size) = scaled_length size 5 (instr.Add 5 5 6 ∷ []) (omega arith)
sum_length op Unsigned (Pointer size) = scaled_length size 5 (instr.Add 5 5 6 ∷ []) (omega arith)
sum_length op Signed Signed = arithmetic_length op Signed Signed
sum_length op Signed Unsigned = arithmetic_length op Signed Unsigned
sum_length op Unsigned Signed = arithmetic_length op Unsigned Signed
sum_length op Unsigned Unsigned = arithmetic_length op Unsigned Unsigned

difference_length : (op : Binary) (c d : Operand) → length (difference_code op c d) ≤ 4
difference_length op (Pointer size) (Pointer other) =
    let l = number_length 28 size in
    omega (arith, l, length-append (constant 28 size) (instr.Div 5 5 28 ∷ []))
difference_length op (Pointer size) Signed =
    scaled_length size 6 (instr.Sub 5 5 6 ∷ []) (omega arith)
difference_length op (Pointer size) Unsigned =
    scaled_length size 6 (instr.Sub 5 5 6 ∷ []) (omega arith)
difference_length op Signed d = arithmetic_length op Signed d
difference_length op Unsigned d = arithmetic_length op Unsigned d

other_length : (op : Binary) (c d : Operand) → length (other_code op c d) ≤ 4
other_length op (Pointer size) d = let l = word_length op true in omega (arith, l)
other_length op Signed d = arithmetic_length op Signed d
other_length op Unsigned d = arithmetic_length op Unsigned d

group_length : (g : Group) (op : Binary) (c d : Operand) → length (group_code g op c d) ≤ 4
group_length by.Sum op c d = sum_length op c d
group_length by.Difference op c d = difference_length op c d
group_length g op c d = other_length op c d

pub binary_length : (op : Binary) (c d : Operand) → length (binary_code op c d) ≤ 4
binary_length op c d = group_length (group op) op c d

pub unary_length : (op : Unary) → length (unary_code op) ≤ 1
unary_length unary.Minus = omega arith
unary_length op = omega arith

pub cast_length : (to : Ty) → length (cast_code to) ≤ 1
cast_length ty.Char = omega arith
cast_length to = omega arith

pub arguments_length : (n r slot : ℕ) → length (arguments_into n r slot) ≤ 3 * n
arguments_length zero r slot = omega arith
arguments_length (suc n) r slot =
    omega (
      arith,
      slot_length r slot,
      arguments_length n (r + 1) (slot + 1),
      length-append
          (take_slot r slot) (arguments_into n (r + 1) (slot + 1)),
    )
