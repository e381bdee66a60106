-- The table of effects: what each instruction asks for, where a and b are the values of its
-- registers rs1 and rs2 (RV32I 2.1, chapter 2; M 2.0, chapter 7).
use Rattle.std.specs.Prelude.{ℕ, ◌*◌, ◌/◌, ◌%◌, ◌^◌, ◌==◌, Bool, true, false, not, nat_lt, nat_le, if◌then◌else◌, List, bit_and, bit_or, bit_xor}
use Rattle.rv_code.specs.declared.effect.Call.{Call}
use Rattle.rv_code.specs.declared.effect.Call.TheVariants as call
use Rattle.rv_code.specs.declared.effect.Effect.{Effect}
use Rattle.rv_code.specs.declared.effect.Effect.TheVariants.{Sets, Loads, Stores, Jumps, Links, Proceeds, Breaks, Calls}
use Rattle.rv_code.specs.declared.instr.Instr.{Instr}
use Rattle.rv_code.specs.declared.instr.Instr.TheVariants.{Lui, Auipc, Jal, Jalr, Beq, Bne, Blt, Bge, Bltu, Bgeu, Lb, Lh, Lw, Lbu, Lhu, Sb, Sh, Sw, Addi, Slti, Sltiu, Xori, Ori, Andi, Slli, Srli, Srai, Add, Sub, Sll, Slt, Sltu, Xor, Srl, Sra, Or, And, Mul, Mulh, Mulhsu, Mulhu, Div, Divu, Rem, Remu, Fence, Ecall, Ebreak}
use Rattle.rv_code.specs.Word.{word, truth, signed_less, sum, difference, left_shift, right_shift, signed_right_shift, product, upper_product, signed_upper_product, mixed_upper_product, quotient, remainder, signed_quotient, signed_remainder}

-- a branch jumps where its test holds
abbrev pub branches : Bool → ℕ → Effect
branches true to = Jumps to
branches false to = Proceeds

-- the machine's calls, by their numbers
abbrev pub call_of : ℕ → Call
call_of n =
    if n == 0 then call.Exit
    else (if n == 1 then call.Get
    else (if n == 2 then call.Put
    else (if n == 3 then call.Begin
    else (if n == 4 then call.End
    else (if n == 5 then call.Post
    else (if n == 6 then call.Wait
    else (if n == 7 then call.StackFull
    else call.Unknown)))))))

abbrev pub effect_of : Instr → (pc a b : ℕ) → Effect
-- chapter 2.4, integer computation: a register and an immediate
effect_of (Addi rd rs1 imm) pc a b = Sets rd (sum a (word imm))
effect_of (Slti rd rs1 imm) pc a b = Sets rd (truth (signed_less a (word imm)))
effect_of (Sltiu rd rs1 imm) pc a b = Sets rd (truth (nat_lt a (word imm)))
effect_of (Xori rd rs1 imm) pc a b = Sets rd (bit_xor a (word imm))
effect_of (Ori rd rs1 imm) pc a b = Sets rd (bit_or a (word imm))
effect_of (Andi rd rs1 imm) pc a b = Sets rd (bit_and a (word imm))
effect_of (Slli rd rs1 amount) pc a b = Sets rd (left_shift a amount)
effect_of (Srli rd rs1 amount) pc a b = Sets rd (right_shift a amount)
effect_of (Srai rd rs1 amount) pc a b = Sets rd (signed_right_shift a amount)
effect_of (Lui rd upper) pc a b = Sets rd (upper * 2 ^ 12)
effect_of (Auipc rd upper) pc a b = Sets rd (sum pc (upper * 2 ^ 12))
-- chapter 2.4, integer computation: two registers
effect_of (Add rd rs1 rs2) pc a b = Sets rd (sum a b)
effect_of (Sub rd rs1 rs2) pc a b = Sets rd (difference a b)
effect_of (Sll rd rs1 rs2) pc a b = Sets rd (left_shift a (b % 32))
effect_of (Slt rd rs1 rs2) pc a b = Sets rd (truth (signed_less a b))
effect_of (Sltu rd rs1 rs2) pc a b = Sets rd (truth (nat_lt a b))
effect_of (Xor rd rs1 rs2) pc a b = Sets rd (bit_xor a b)
effect_of (Srl rd rs1 rs2) pc a b = Sets rd (right_shift a (b % 32))
effect_of (Sra rd rs1 rs2) pc a b = Sets rd (signed_right_shift a (b % 32))
effect_of (Or rd rs1 rs2) pc a b = Sets rd (bit_or a b)
effect_of (And rd rs1 rs2) pc a b = Sets rd (bit_and a b)
-- M 2.0, chapter 7: products, quotients and remainders
effect_of (Mul rd rs1 rs2) pc a b = Sets rd (product a b)
effect_of (Mulh rd rs1 rs2) pc a b = Sets rd (signed_upper_product a b)
effect_of (Mulhsu rd rs1 rs2) pc a b = Sets rd (mixed_upper_product a b)
effect_of (Mulhu rd rs1 rs2) pc a b = Sets rd (upper_product a b)
effect_of (Div rd rs1 rs2) pc a b = Sets rd (signed_quotient a b)
effect_of (Divu rd rs1 rs2) pc a b = Sets rd (quotient a b)
effect_of (Rem rd rs1 rs2) pc a b = Sets rd (signed_remainder a b)
effect_of (Remu rd rs1 rs2) pc a b = Sets rd (remainder a b)
-- chapter 2.5, control transfer
effect_of (Jal rd imm) pc a b = Links rd (sum pc (word imm))
effect_of (Jalr rd rs1 imm) pc a b = Links rd (sum a (word imm) / 2 * 2)
effect_of (Beq rs1 rs2 imm) pc a b = branches (a == b) (sum pc (word imm))
effect_of (Bne rs1 rs2 imm) pc a b = branches (not (a == b)) (sum pc (word imm))
effect_of (Blt rs1 rs2 imm) pc a b = branches (signed_less a b) (sum pc (word imm))
effect_of (Bge rs1 rs2 imm) pc a b = branches (not (signed_less a b)) (sum pc (word imm))
effect_of (Bltu rs1 rs2 imm) pc a b = branches (nat_lt a b) (sum pc (word imm))
effect_of (Bgeu rs1 rs2 imm) pc a b = branches (not (nat_lt a b)) (sum pc (word imm))
-- chapter 2.6, loads and stores
effect_of (Lb rd rs1 imm) pc a b = Loads rd (sum a (word imm)) 1 true
effect_of (Lh rd rs1 imm) pc a b = Loads rd (sum a (word imm)) 2 true
effect_of (Lw rd rs1 imm) pc a b = Loads rd (sum a (word imm)) 4 false
effect_of (Lbu rd rs1 imm) pc a b = Loads rd (sum a (word imm)) 1 false
effect_of (Lhu rd rs1 imm) pc a b = Loads rd (sum a (word imm)) 2 false
effect_of (Sb rs1 rs2 imm) pc a b = Stores (sum a (word imm)) 1 b
effect_of (Sh rs1 rs2 imm) pc a b = Stores (sum a (word imm)) 2 b
effect_of (Sw rs1 rs2 imm) pc a b = Stores (sum a (word imm)) 4 b
-- chapters 2.7 and 2.8, memory ordering and the environment
effect_of (Fence rd rs1 imm) pc a b = Proceeds
effect_of Ecall pc a b = Calls (call_of a)
effect_of Ebreak pc a b = Breaks
