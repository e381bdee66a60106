-- The instruction of a word, where the table has one: by the opcode, then by funct3 and funct7.
use Rattle.std.specs.Prelude.{ℕ, ◌==◌, ◌&&◌, ◌||◌, if◌then◌else◌, ℤ, Option, Some, None}
use Rattle.rv_code.specs.declared.instr.Instr.{Instr}
use Rattle.rv_code.specs.declared.instr.Instr.TheVariants.{Lui, Auipc, Jal, Jalr, Beq, Bne, Blt, Bge, Bltu, Bgeu, Lb, Lh, Lw, Lbu, Lhu, Sb, Sh, Sw, Addi, Slti, Sltiu, Xori, Ori, Andi, Slli, Srli, Srai, Add, Sub, Sll, Slt, Sltu, Xor, Srl, Sra, Or, And, Mul, Mulh, Mulhsu, Mulhu, Div, Divu, Rem, Remu, Fence, Ecall, Ebreak}
use Rattle.rv_code.specs.Format.{opcode, rd_field, funct3, rs1_field, rs2_field, funct7, upper_field, imm_i, imm_s, imm_b, imm_j}

-- opcode 99
abbrev pub branch_of : (f3 rs1 rs2 : ℕ) (imm : ℤ) → Option Instr
branch_of f3 rs1 rs2 imm =
    if f3 == 0 then Some (Beq rs1 rs2 imm)
    else (if f3 == 1 then Some (Bne rs1 rs2 imm)
    else (if f3 == 4 then Some (Blt rs1 rs2 imm)
    else (if f3 == 5 then Some (Bge rs1 rs2 imm)
    else (if f3 == 6 then Some (Bltu rs1 rs2 imm)
    else (if f3 == 7 then Some (Bgeu rs1 rs2 imm)
    else None)))))

-- opcode 3
abbrev pub load_of : (f3 rd rs1 : ℕ) (imm : ℤ) → Option Instr
load_of f3 rd rs1 imm =
    if f3 == 0 then Some (Lb rd rs1 imm)
    else (if f3 == 1 then Some (Lh rd rs1 imm)
    else (if f3 == 2 then Some (Lw rd rs1 imm)
    else (if f3 == 4 then Some (Lbu rd rs1 imm)
    else (if f3 == 5 then Some (Lhu rd rs1 imm)
    else None))))

-- opcode 35
abbrev pub store_of : (f3 rs1 rs2 : ℕ) (imm : ℤ) → Option Instr
store_of f3 rs1 rs2 imm =
    if f3 == 0 then Some (Sb rs1 rs2 imm)
    else (if f3 == 1 then Some (Sh rs1 rs2 imm)
    else (if f3 == 2 then Some (Sw rs1 rs2 imm)
    else None))

-- opcode 19, but for the shifts
abbrev pub immediate_of : (f3 rd rs1 : ℕ) (imm : ℤ) → Option Instr
immediate_of f3 rd rs1 imm =
    if f3 == 0 then Some (Addi rd rs1 imm)
    else (if f3 == 2 then Some (Slti rd rs1 imm)
    else (if f3 == 3 then Some (Sltiu rd rs1 imm)
    else (if f3 == 4 then Some (Xori rd rs1 imm)
    else (if f3 == 6 then Some (Ori rd rs1 imm)
    else (if f3 == 7 then Some (Andi rd rs1 imm)
    else None)))))

-- the shifts of opcode 19
abbrev pub shift_of : (f3 f7 rd rs1 amount : ℕ) → Option Instr
shift_of f3 f7 rd rs1 amount =
    if (f3 == 1) && (f7 == 0) then Some (Slli rd rs1 amount)
    else (if (f3 == 5) && (f7 == 0) then Some (Srli rd rs1 amount)
    else (if (f3 == 5) && (f7 == 32) then Some (Srai rd rs1 amount)
    else None))

-- opcode 51
abbrev pub register_of : (f3 f7 rd rs1 rs2 : ℕ) → Option Instr
register_of f3 f7 rd rs1 rs2 =
    if (f3 == 0) && (f7 == 0) then Some (Add rd rs1 rs2)
    else (if (f3 == 0) && (f7 == 32) then Some (Sub rd rs1 rs2)
    else (if (f3 == 1) && (f7 == 0) then Some (Sll rd rs1 rs2)
    else (if (f3 == 2) && (f7 == 0) then Some (Slt rd rs1 rs2)
    else (if (f3 == 3) && (f7 == 0) then Some (Sltu rd rs1 rs2)
    else (if (f3 == 4) && (f7 == 0) then Some (Xor rd rs1 rs2)
    else (if (f3 == 5) && (f7 == 0) then Some (Srl rd rs1 rs2)
    else (if (f3 == 5) && (f7 == 32) then Some (Sra rd rs1 rs2)
    else (if (f3 == 6) && (f7 == 0) then Some (Or rd rs1 rs2)
    else (if (f3 == 7) && (f7 == 0) then Some (And rd rs1 rs2)
    else (if (f3 == 0) && (f7 == 1) then Some (Mul rd rs1 rs2)
    else (if (f3 == 1) && (f7 == 1) then Some (Mulh rd rs1 rs2)
    else (if (f3 == 2) && (f7 == 1) then Some (Mulhsu rd rs1 rs2)
    else (if (f3 == 3) && (f7 == 1) then Some (Mulhu rd rs1 rs2)
    else (if (f3 == 4) && (f7 == 1) then Some (Div rd rs1 rs2)
    else (if (f3 == 5) && (f7 == 1) then Some (Divu rd rs1 rs2)
    else (if (f3 == 6) && (f7 == 1) then Some (Rem rd rs1 rs2)
    else (if (f3 == 7) && (f7 == 1) then Some (Remu rd rs1 rs2)
    else None)))))))))))))))))

-- the one instruction of a funct3 of 0
abbrev pub only_of : (f3 : ℕ) → Instr → Option Instr
only_of f3 i = if f3 == 0 then Some i else None

-- the two words without fields
abbrev pub whole_of : ℕ → Option Instr
whole_of word = if word == 115 then Some Ecall else (if word == 1048691 then Some Ebreak else None)

-- by the opcode, with the fields at hand
abbrev pub instr_at : (word op rd f3 rs1 rs2 f7 : ℕ) → Option Instr
instr_at word op rd f3 rs1 rs2 f7 =
    if op == 55 then Some (Lui rd (upper_field word))
    else (if op == 23 then Some (Auipc rd (upper_field word))
    else (if op == 111 then Some (Jal rd (imm_j word))
    else (if op == 103 then only_of f3 (Jalr rd rs1 (imm_i word))
    else (if op == 99 then branch_of f3 rs1 rs2 (imm_b word)
    else (if op == 3 then load_of f3 rd rs1 (imm_i word)
    else (if op == 35 then store_of f3 rs1 rs2 (imm_s word)
    else (if op == 19 then (if (f3 == 1) || (f3 == 5) then shift_of f3 f7 rd rs1 rs2
    else immediate_of f3 rd rs1 (imm_i word))
    else (if op == 51 then register_of f3 f7 rd rs1 rs2
    else (if op == 15 then only_of f3 (Fence rd rs1 (imm_i word))
    else whole_of word)))))))))

abbrev pub instr_of : ℕ → Option Instr
instr_of word =
    instr_at word (opcode word) (rd_field word) (funct3 word) (rs1_field word) (rs2_field word)
    (funct7 word)
