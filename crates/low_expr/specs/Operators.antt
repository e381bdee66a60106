-- What the operators make of registers: the code of each.
use Rattle.std.specs.Prelude.{ℕ, Bool, true, false, not, ◌||◌, ◌&&◌, List, [], ◌∷◌, ◌++◌, pos, negsuc}
use Rattle.rv_code.specs.declared.instr.Instr.{Instr}
use Rattle.rv_code.specs.declared.instr.Instr.TheVariants as instr
use Rattle.c_tree.specs.declared.operator.Binary.{Binary}
use Rattle.c_tree.specs.declared.operator.Binary.TheVariants as binary
use Rattle.c_tree.specs.declared.operator.Group.{Group}
use Rattle.c_tree.specs.declared.operator.Group.TheVariants as by
use Rattle.c_tree.specs.declared.operator.Unary.{Unary}
use Rattle.c_tree.specs.declared.operator.Unary.TheVariants as unary
use Rattle.c_tree.specs.Groups.{group, is_shift}
use Rattle.c_tree.specs.Ty.{Ty}
use Rattle.c_tree.specs.Ty as ty
use Rattle.c_semantics.specs.declared.kind.Operand.{Operand}
use Rattle.c_semantics.specs.declared.kind.Operand.TheVariants.{Pointer}
use Rattle.c_semantics.specs.Eval.{is_unsigned}
use Rattle.low_expr.specs.Registers.{x0, t0, t1, t3}
use Rattle.low_expr.specs.CodePieces.{constant}

-- The operands of a binary operator are in t0 and t1, and its value goes into t0. A flag says that
-- arithmetic is that of unsigned numbers.

-- whether one register is less than another
abbrev pub less_code : Bool → (rs1 rs2 : ℕ) → Instr
less_code true rs1 rs2 = instr.Sltu t0 rs1 rs2
less_code false rs1 rs2 = instr.Slt t0 rs1 rs2

-- between two words
abbrev pub word_code : Binary → Bool → List Instr
word_code binary.Or unsigned = instr.Sltu t0 x0 t0 ∷ instr.Sltu t1 x0 t1 ∷ instr.Or t0 t0 t1 ∷ []
word_code binary.And unsigned =
    instr.Sltu t0 x0 t0 ∷ instr.Sltu t1 x0 t1 ∷ instr.And t0 t0 t1 ∷ []
word_code binary.BitOr unsigned = instr.Or t0 t0 t1 ∷ []
word_code binary.BitXor unsigned = instr.Xor t0 t0 t1 ∷ []
word_code binary.BitAnd unsigned = instr.And t0 t0 t1 ∷ []
word_code binary.Equal unsigned = instr.Sub t0 t0 t1 ∷ instr.Sltiu t0 t0 (pos 1) ∷ []
word_code binary.Unequal unsigned = instr.Sub t0 t0 t1 ∷ instr.Sltu t0 x0 t0 ∷ []
word_code binary.Less unsigned = less_code unsigned t0 t1 ∷ []
word_code binary.Greater unsigned = less_code unsigned t1 t0 ∷ []
word_code binary.LessEqual unsigned = less_code unsigned t1 t0 ∷ instr.Sltiu t0 t0 (pos 1) ∷ []
word_code binary.GreaterEqual unsigned = less_code unsigned t0 t1 ∷ instr.Sltiu t0 t0 (pos 1) ∷ []
word_code binary.Left unsigned = instr.Sll t0 t0 t1 ∷ []
word_code binary.Right true = instr.Srl t0 t0 t1 ∷ []
word_code binary.Right false = instr.Sra t0 t0 t1 ∷ []
word_code binary.Plus unsigned = instr.Add t0 t0 t1 ∷ []
word_code binary.Minus unsigned = instr.Sub t0 t0 t1 ∷ []
word_code binary.Times unsigned = instr.Mul t0 t0 t1 ∷ []
word_code binary.Divide true = instr.Divu t0 t0 t1 ∷ []
word_code binary.Divide false = instr.Div t0 t0 t1 ∷ []
word_code binary.Rest true = instr.Remu t0 t0 t1 ∷ []
word_code binary.Rest false = instr.Rem t0 t0 t1 ∷ []

-- between two integers; a shift takes its sign from the left one
abbrev pub arithmetic_code : Binary → Operand → Operand → List Instr
arithmetic_code op c d =
    word_code op (is_unsigned c || (not (is_shift (group op)) && is_unsigned d))

-- elements as bytes
abbrev pub scaled : (size rd : ℕ) → List Instr
scaled size rd = constant t3 size ++ instr.Mul rd rd t3 ∷ []

abbrev pub sum_code : Binary → Operand → Operand → List Instr
sum_code op (Pointer size) d = scaled size t1 ++ instr.Add t0 t0 t1 ∷ []
sum_code op c (Pointer size) = scaled size t0 ++ instr.Add t0 t0 t1 ∷ []
sum_code op c d = arithmetic_code op c d

abbrev pub difference_code : Binary → Operand → Operand → List Instr
difference_code op (Pointer size) (Pointer other) =
    instr.Sub t0 t0 t1 ∷ (constant t3 size ++ (instr.Div t0 t0 t3 ∷ []))
difference_code op (Pointer size) d = scaled size t1 ++ instr.Sub t0 t0 t1 ∷ []
difference_code op c d = arithmetic_code op c d

-- addresses are compared as unsigned numbers
abbrev pub other_code : Binary → Operand → Operand → List Instr
other_code op (Pointer size) d = word_code op true
other_code op c d = arithmetic_code op c d

abbrev pub group_code : Group → Binary → Operand → Operand → List Instr
group_code by.Sum op c d = sum_code op c d
group_code by.Difference op c d = difference_code op c d
group_code _ op c d = other_code op c d

abbrev pub binary_code : Binary → Operand → Operand → List Instr
binary_code op c d = group_code (group op) op c d

-- `+ - ! ~` of t0
abbrev pub unary_code : Unary → List Instr
unary_code unary.Minus = instr.Sub t0 x0 t0 ∷ []
unary_code unary.Not = instr.Sltiu t0 t0 (pos 1) ∷ []
unary_code unary.Flip = instr.Xori t0 t0 (negsuc 0) ∷ []
unary_code _ = []

-- t0 as a value of another integer type
abbrev pub cast_code : Ty → List Instr
cast_code ty.Char = instr.Andi t0 t0 (pos 255) ∷ []
cast_code _ = []
