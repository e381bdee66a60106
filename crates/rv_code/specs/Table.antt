-- The table of instructions: the format of each, with its opcode, funct3 and funct7
-- (The RISC-V Instruction Set Manual, Volume I: RV32I 2.1, chapter 2; M 2.0, chapter 7).
use Rattle.std.specs.Prelude.{◌≡◌, ℕ, ℤ}
use Rattle.rv_code.specs.declared.call.TheConstants.{A7}
use Rattle.rv_code.specs.declared.instr.Instr.{Instr}
use Rattle.rv_code.specs.declared.instr.Instr.TheVariants.{Lui, Auipc, Jal, Jalr, Beq, Bne, Blt, Bge, Bltu, Bgeu, Lb, Lh, Lw, Lbu, Lhu, Sb, Sh, Sw, Addi, Slti, Sltiu, Xori, Ori, Andi, Slli, Srli, Srai, Add, Sub, Sll, Slt, Sltu, Xor, Srl, Sra, Or, And, Mul, Mulh, Mulhsu, Mulhu, Div, Divu, Rem, Remu, Fence, Ecall, Ebreak}
use Rattle.rv_code.specs.Format.{Format, R, I, Shift, S, B, U, J, Whole, word_in, IsInRange, rs1_in, rs2_in}

abbrev pub format_of : Instr → Format
-- chapter 2.4, integer computation: a register and an immediate
format_of (Addi rd rs1 imm) = I 19 0 rd rs1 imm
format_of (Slti rd rs1 imm) = I 19 2 rd rs1 imm
format_of (Sltiu rd rs1 imm) = I 19 3 rd rs1 imm
format_of (Xori rd rs1 imm) = I 19 4 rd rs1 imm
format_of (Ori rd rs1 imm) = I 19 6 rd rs1 imm
format_of (Andi rd rs1 imm) = I 19 7 rd rs1 imm
format_of (Slli rd rs1 amount) = Shift 19 1 0 rd rs1 amount
format_of (Srli rd rs1 amount) = Shift 19 5 0 rd rs1 amount
format_of (Srai rd rs1 amount) = Shift 19 5 32 rd rs1 amount
format_of (Lui rd upper) = U 55 rd upper
format_of (Auipc rd upper) = U 23 rd upper
-- chapter 2.4, integer computation: two registers
format_of (Add rd rs1 rs2) = R 51 0 0 rd rs1 rs2
format_of (Sub rd rs1 rs2) = R 51 0 32 rd rs1 rs2
format_of (Sll rd rs1 rs2) = R 51 1 0 rd rs1 rs2
format_of (Slt rd rs1 rs2) = R 51 2 0 rd rs1 rs2
format_of (Sltu rd rs1 rs2) = R 51 3 0 rd rs1 rs2
format_of (Xor rd rs1 rs2) = R 51 4 0 rd rs1 rs2
format_of (Srl rd rs1 rs2) = R 51 5 0 rd rs1 rs2
format_of (Sra rd rs1 rs2) = R 51 5 32 rd rs1 rs2
format_of (Or rd rs1 rs2) = R 51 6 0 rd rs1 rs2
format_of (And rd rs1 rs2) = R 51 7 0 rd rs1 rs2
-- M 2.0, chapter 7: products, quotients and remainders
format_of (Mul rd rs1 rs2) = R 51 0 1 rd rs1 rs2
format_of (Mulh rd rs1 rs2) = R 51 1 1 rd rs1 rs2
format_of (Mulhsu rd rs1 rs2) = R 51 2 1 rd rs1 rs2
format_of (Mulhu rd rs1 rs2) = R 51 3 1 rd rs1 rs2
format_of (Div rd rs1 rs2) = R 51 4 1 rd rs1 rs2
format_of (Divu rd rs1 rs2) = R 51 5 1 rd rs1 rs2
format_of (Rem rd rs1 rs2) = R 51 6 1 rd rs1 rs2
format_of (Remu rd rs1 rs2) = R 51 7 1 rd rs1 rs2
-- chapter 2.5, control transfer
format_of (Jal rd imm) = J 111 rd imm
format_of (Jalr rd rs1 imm) = I 103 0 rd rs1 imm
format_of (Beq rs1 rs2 imm) = B 99 0 rs1 rs2 imm
format_of (Bne rs1 rs2 imm) = B 99 1 rs1 rs2 imm
format_of (Blt rs1 rs2 imm) = B 99 4 rs1 rs2 imm
format_of (Bge rs1 rs2 imm) = B 99 5 rs1 rs2 imm
format_of (Bltu rs1 rs2 imm) = B 99 6 rs1 rs2 imm
format_of (Bgeu rs1 rs2 imm) = B 99 7 rs1 rs2 imm
-- chapter 2.6, loads and stores
format_of (Lb rd rs1 imm) = I 3 0 rd rs1 imm
format_of (Lh rd rs1 imm) = I 3 1 rd rs1 imm
format_of (Lw rd rs1 imm) = I 3 2 rd rs1 imm
format_of (Lbu rd rs1 imm) = I 3 4 rd rs1 imm
format_of (Lhu rd rs1 imm) = I 3 5 rd rs1 imm
format_of (Sb rs1 rs2 imm) = S 35 0 rs1 rs2 imm
format_of (Sh rs1 rs2 imm) = S 35 1 rs1 rs2 imm
format_of (Sw rs1 rs2 imm) = S 35 2 rs1 rs2 imm
-- chapters 2.7 and 2.8, memory ordering and the environment
format_of (Fence rd rs1 imm) = I 15 0 rd rs1 imm
format_of Ecall = Whole 115
format_of Ebreak = Whole 1048691

-- the word of an instruction
abbrev pub word_of : Instr → ℕ
word_of i = word_in (format_of i)

-- its fields are in range
abbrev pub IsInstr : Instr → Type 0
IsInstr i = IsInRange (format_of i)

-- the registers that it reads: rs1, and rs2; FENCE reads none, and a call reads its number in a7
abbrev pub first_register : Instr → ℕ
first_register (Fence rd rs1 imm) = 0
first_register Ecall = A7
first_register i = rs1_in (format_of i)

abbrev pub second_register : Instr → ℕ
second_register i = rs2_in (format_of i)
