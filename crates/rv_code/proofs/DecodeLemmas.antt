-- The instruction of the word of an instruction is that instruction.
use Rattle.std.proofs.Common.{◌≡◌, ℕ, ◌+◌, ◌*◌, ◌/◌, ◌%◌, ◌^◌, ◌<◌, ◌≤◌, refl, ◌∙◌, ap, arith, Some, Option}
use Rattle.std.specs.Prelude.{ℤ, pos, negsuc, ◌≤ℤ◌}
use Rattle.bop_bits.specs.Bits.{field_of, signed_of}
use Rattle.rv_code.specs.declared.instr.Instr.{Instr}
use Rattle.rv_code.specs.declared.instr.Instr.TheVariants.{Lui, Auipc, Jal, Jalr, Beq, Bne, Blt, Bge, Bltu, Bgeu, Lb, Lh, Lw, Lbu, Lhu, Sb, Sh, Sw, Addi, Slti, Sltiu, Xori, Ori, Andi, Slli, Srli, Srai, Add, Sub, Sll, Slt, Sltu, Xor, Srl, Sra, Or, And, Mul, Mulh, Mulhsu, Mulhu, Div, Divu, Rem, Remu, Fence, Ecall, Ebreak}
use Rattle.rv_code.specs.Format.{R, I, Shift, S, B, U, J, word_in, IsInRange, s_word, b_word, j_word, imm_bits, opcode, rd_field, funct3, rs1_field, rs2_field, funct7, upper_field, imm_i, imm_s, imm_b, imm_j}
use Rattle.rv_code.specs.Table.{word_of, IsInstr}
use Rattle.rv_code.specs.Decode.{instr_at, instr_of}
use Rattle.rv_code.proofs.Fields.{HasFields, signed_of_12, signed_of_13, signed_of_21, r_fields, i_word, i_fields, i_bits, s_fields, s_bits, b_fields, b_bits, u_fields, u_bits, j_fields, j_bits}

at_fields : (w op rd f3 rs1 rs2 f7 : ℕ) → HasFields w op rd f3 rs1 rs2 f7
    → instr_of w ≡ instr_at w op rd f3 rs1 rs2 f7
at_fields w op rd f3 rs1 rs2 f7 has =
    ap (λ n. instr_at w n (rd_field w) (funct3 w) (rs1_field w) (rs2_field w) (funct7 w)) has.of_opcode
    ∙ ap (λ n. instr_at w op n (funct3 w) (rs1_field w) (rs2_field w) (funct7 w)) has.of_rd
    ∙ ap (λ n. instr_at w op rd n (rs1_field w) (rs2_field w) (funct7 w)) has.of_funct3
    ∙ ap (λ n. instr_at w op rd f3 n (rs2_field w) (funct7 w)) has.of_rs1
    ∙ ap (λ n. instr_at w op rd f3 rs1 n (funct7 w)) has.of_rs2
    ∙ ap (λ n. instr_at w op rd f3 rs1 rs2 n) has.of_funct7

of_r : (op f3 f7 rd rs1 rs2 : ℕ) → op < 128 → f3 < 8 → f7 < 128
    → IsInRange (R op f3 f7 rd rs1 rs2)
    → instr_of (word_in (R op f3 f7 rd rs1 rs2))
    ≡ instr_at (word_in (R op f3 f7 rd rs1 rs2)) op rd f3 rs1 rs2 f7
of_r op f3 f7 rd rs1 rs2 c f g h =
    at_fields _ op rd f3 rs1 rs2 f7 (r_fields op f3 f7 rd rs1 rs2 c f g h.0 h.1 h.2)

-- An instruction of a format with an immediate is a function of the immediate.

of_i : (op f3 rd rs1 : ℕ) (imm : ℤ) (make : ℤ → Option Instr) → op < 128 → f3 < 8
    → IsInRange (I op f3 rd rs1 imm)
    → ((w : ℕ) → instr_at w op rd f3 rs1 (rs2_field w) (funct7 w) ≡ make (imm_i w))
    → instr_of (word_in (I op f3 rd rs1 imm)) ≡ make imm
of_i op f3 rd rs1 imm make c f h is =
    let bits = imm_bits 12 imm in
    let w = i_word op f3 rd rs1 bits in
    let small : bits < 2 ^ 12 = omega arith in
    let same : imm_i w ≡ imm = ap (signed_of 12) (i_bits op f3 rd rs1 bits c f h.0 h.1 small) ∙ signed_of_12 imm h.2 h.3 in
    at_fields w op rd f3 rs1 (rs2_field w) (funct7 w) (i_fields op f3 rd rs1 bits c f h.0 h.1)
    ∙ is w ∙ ap make same

of_s : (op f3 rs1 rs2 : ℕ) (imm : ℤ) (make : ℤ → Option Instr) → op < 128 → f3 < 8
    → IsInRange (S op f3 rs1 rs2 imm)
    → ((w : ℕ) → instr_at w op (rd_field w) f3 rs1 rs2 (funct7 w) ≡ make (imm_s w))
    → instr_of (word_in (S op f3 rs1 rs2 imm)) ≡ make imm
of_s op f3 rs1 rs2 imm make c f h is =
    let bits = imm_bits 12 imm in
    let w = s_word op f3 rs1 rs2 bits in
    let small : bits < 2 ^ 12 = omega arith in
    let same : imm_s w ≡ imm = ap (signed_of 12) (s_bits op f3 rs1 rs2 bits c f h.0 h.1 small) ∙ signed_of_12 imm h.2 h.3 in
    at_fields w op (rd_field w) f3 rs1 rs2 (funct7 w) (s_fields op f3 rs1 rs2 bits c f h.0 h.1)
    ∙ is w ∙ ap make same

of_b : (op f3 rs1 rs2 : ℕ) (imm : ℤ) (make : ℤ → Option Instr) → op < 128 → f3 < 8
    → IsInRange (B op f3 rs1 rs2 imm)
    → ((w : ℕ) → instr_at w op (rd_field w) f3 rs1 rs2 (funct7 w) ≡ make (imm_b w))
    → instr_of (word_in (B op f3 rs1 rs2 imm)) ≡ make imm
of_b op f3 rs1 rs2 imm make c f h is =
    let bits = imm_bits 13 imm in
    let w = b_word op f3 rs1 rs2 bits in
    let small : bits < 2 ^ 13 = omega arith in
    let even : bits % 2 ≡ 0 = omega (arith, h.4) in
    let same : imm_b w ≡ imm = ap (signed_of 13) (b_bits op f3 rs1 rs2 bits c f h.0 h.1 small even) ∙ signed_of_13 imm h.2 h.3 in
    at_fields w op (rd_field w) f3 rs1 rs2 (funct7 w) (b_fields op f3 rs1 rs2 bits c f h.0 h.1)
    ∙ is w ∙ ap make same

of_u : (op rd upper : ℕ) (make : ℕ → Option Instr) → op < 128 → IsInRange (U op rd upper)
    → ((w : ℕ) → instr_at w op rd (funct3 w) (rs1_field w) (rs2_field w) (funct7 w) ≡ make (upper_field w))
    → instr_of (word_in (U op rd upper)) ≡ make upper
of_u op rd upper make c h is =
    let w = upper * 2 ^ 12 + rd * 2 ^ 7 + op in
    at_fields w op rd (funct3 w) (rs1_field w) (rs2_field w) (funct7 w) (u_fields op rd upper c h.0)
    ∙ is w ∙ ap make (u_bits op rd upper c h.0 h.1)

of_j : (op rd : ℕ) (imm : ℤ) (make : ℤ → Option Instr) → op < 128 → IsInRange (J op rd imm)
    → ((w : ℕ) → instr_at w op rd (funct3 w) (rs1_field w) (rs2_field w) (funct7 w) ≡ make (imm_j w))
    → instr_of (word_in (J op rd imm)) ≡ make imm
of_j op rd imm make c h is =
    let bits = imm_bits 21 imm in
    let w = j_word op rd bits in
    let small : bits < 2 ^ 21 = omega arith in
    let even : bits % 2 ≡ 0 = omega (arith, h.3) in
    let same : imm_j w ≡ imm = ap (signed_of 21) (j_bits op rd bits c h.0 small even) ∙ signed_of_21 imm h.1 h.2 in
    at_fields w op rd (funct3 w) (rs1_field w) (rs2_field w) (funct7 w) (j_fields op rd bits c h.0)
    ∙ is w ∙ ap make same

pub instr_of-word_of : (i : Instr) → IsInstr i → instr_of (word_of i) ≡ Some i
instr_of-word_of (Addi rd rs1 imm) h = of_i 19 0 rd rs1 imm (λ z. Some (Addi rd rs1 z)) (omega arith) (omega arith) h (λ w. refl)
instr_of-word_of (Slti rd rs1 imm) h = of_i 19 2 rd rs1 imm (λ z. Some (Slti rd rs1 z)) (omega arith) (omega arith) h (λ w. refl)
instr_of-word_of (Sltiu rd rs1 imm) h = of_i 19 3 rd rs1 imm (λ z. Some (Sltiu rd rs1 z)) (omega arith) (omega arith) h (λ w. refl)
instr_of-word_of (Xori rd rs1 imm) h = of_i 19 4 rd rs1 imm (λ z. Some (Xori rd rs1 z)) (omega arith) (omega arith) h (λ w. refl)
instr_of-word_of (Ori rd rs1 imm) h = of_i 19 6 rd rs1 imm (λ z. Some (Ori rd rs1 z)) (omega arith) (omega arith) h (λ w. refl)
instr_of-word_of (Andi rd rs1 imm) h = of_i 19 7 rd rs1 imm (λ z. Some (Andi rd rs1 z)) (omega arith) (omega arith) h (λ w. refl)
instr_of-word_of (Slli rd rs1 amount) h = of_r 19 1 0 rd rs1 amount (omega arith) (omega arith) (omega arith) h
instr_of-word_of (Srli rd rs1 amount) h = of_r 19 5 0 rd rs1 amount (omega arith) (omega arith) (omega arith) h
instr_of-word_of (Srai rd rs1 amount) h = of_r 19 5 32 rd rs1 amount (omega arith) (omega arith) (omega arith) h
instr_of-word_of (Lui rd upper) h = of_u 55 rd upper (λ z. Some (Lui rd z)) (omega arith) h (λ w. refl)
instr_of-word_of (Auipc rd upper) h = of_u 23 rd upper (λ z. Some (Auipc rd z)) (omega arith) h (λ w. refl)
instr_of-word_of (Add rd rs1 rs2) h = of_r 51 0 0 rd rs1 rs2 (omega arith) (omega arith) (omega arith) h
instr_of-word_of (Sub rd rs1 rs2) h = of_r 51 0 32 rd rs1 rs2 (omega arith) (omega arith) (omega arith) h
instr_of-word_of (Sll rd rs1 rs2) h = of_r 51 1 0 rd rs1 rs2 (omega arith) (omega arith) (omega arith) h
instr_of-word_of (Slt rd rs1 rs2) h = of_r 51 2 0 rd rs1 rs2 (omega arith) (omega arith) (omega arith) h
instr_of-word_of (Sltu rd rs1 rs2) h = of_r 51 3 0 rd rs1 rs2 (omega arith) (omega arith) (omega arith) h
instr_of-word_of (Xor rd rs1 rs2) h = of_r 51 4 0 rd rs1 rs2 (omega arith) (omega arith) (omega arith) h
instr_of-word_of (Srl rd rs1 rs2) h = of_r 51 5 0 rd rs1 rs2 (omega arith) (omega arith) (omega arith) h
instr_of-word_of (Sra rd rs1 rs2) h = of_r 51 5 32 rd rs1 rs2 (omega arith) (omega arith) (omega arith) h
instr_of-word_of (Or rd rs1 rs2) h = of_r 51 6 0 rd rs1 rs2 (omega arith) (omega arith) (omega arith) h
instr_of-word_of (And rd rs1 rs2) h = of_r 51 7 0 rd rs1 rs2 (omega arith) (omega arith) (omega arith) h
instr_of-word_of (Mul rd rs1 rs2) h = of_r 51 0 1 rd rs1 rs2 (omega arith) (omega arith) (omega arith) h
instr_of-word_of (Mulh rd rs1 rs2) h = of_r 51 1 1 rd rs1 rs2 (omega arith) (omega arith) (omega arith) h
instr_of-word_of (Mulhsu rd rs1 rs2) h = of_r 51 2 1 rd rs1 rs2 (omega arith) (omega arith) (omega arith) h
instr_of-word_of (Mulhu rd rs1 rs2) h = of_r 51 3 1 rd rs1 rs2 (omega arith) (omega arith) (omega arith) h
instr_of-word_of (Div rd rs1 rs2) h = of_r 51 4 1 rd rs1 rs2 (omega arith) (omega arith) (omega arith) h
instr_of-word_of (Divu rd rs1 rs2) h = of_r 51 5 1 rd rs1 rs2 (omega arith) (omega arith) (omega arith) h
instr_of-word_of (Rem rd rs1 rs2) h = of_r 51 6 1 rd rs1 rs2 (omega arith) (omega arith) (omega arith) h
instr_of-word_of (Remu rd rs1 rs2) h = of_r 51 7 1 rd rs1 rs2 (omega arith) (omega arith) (omega arith) h
instr_of-word_of (Jal rd imm) h = of_j 111 rd imm (λ z. Some (Jal rd z)) (omega arith) h (λ w. refl)
instr_of-word_of (Jalr rd rs1 imm) h = of_i 103 0 rd rs1 imm (λ z. Some (Jalr rd rs1 z)) (omega arith) (omega arith) h (λ w. refl)
instr_of-word_of (Beq rs1 rs2 imm) h = of_b 99 0 rs1 rs2 imm (λ z. Some (Beq rs1 rs2 z)) (omega arith) (omega arith) h (λ w. refl)
instr_of-word_of (Bne rs1 rs2 imm) h = of_b 99 1 rs1 rs2 imm (λ z. Some (Bne rs1 rs2 z)) (omega arith) (omega arith) h (λ w. refl)
instr_of-word_of (Blt rs1 rs2 imm) h = of_b 99 4 rs1 rs2 imm (λ z. Some (Blt rs1 rs2 z)) (omega arith) (omega arith) h (λ w. refl)
instr_of-word_of (Bge rs1 rs2 imm) h = of_b 99 5 rs1 rs2 imm (λ z. Some (Bge rs1 rs2 z)) (omega arith) (omega arith) h (λ w. refl)
instr_of-word_of (Bltu rs1 rs2 imm) h = of_b 99 6 rs1 rs2 imm (λ z. Some (Bltu rs1 rs2 z)) (omega arith) (omega arith) h (λ w. refl)
instr_of-word_of (Bgeu rs1 rs2 imm) h = of_b 99 7 rs1 rs2 imm (λ z. Some (Bgeu rs1 rs2 z)) (omega arith) (omega arith) h (λ w. refl)
instr_of-word_of (Lb rd rs1 imm) h = of_i 3 0 rd rs1 imm (λ z. Some (Lb rd rs1 z)) (omega arith) (omega arith) h (λ w. refl)
instr_of-word_of (Lh rd rs1 imm) h = of_i 3 1 rd rs1 imm (λ z. Some (Lh rd rs1 z)) (omega arith) (omega arith) h (λ w. refl)
instr_of-word_of (Lw rd rs1 imm) h = of_i 3 2 rd rs1 imm (λ z. Some (Lw rd rs1 z)) (omega arith) (omega arith) h (λ w. refl)
instr_of-word_of (Lbu rd rs1 imm) h = of_i 3 4 rd rs1 imm (λ z. Some (Lbu rd rs1 z)) (omega arith) (omega arith) h (λ w. refl)
instr_of-word_of (Lhu rd rs1 imm) h = of_i 3 5 rd rs1 imm (λ z. Some (Lhu rd rs1 z)) (omega arith) (omega arith) h (λ w. refl)
instr_of-word_of (Sb rs1 rs2 imm) h = of_s 35 0 rs1 rs2 imm (λ z. Some (Sb rs1 rs2 z)) (omega arith) (omega arith) h (λ w. refl)
instr_of-word_of (Sh rs1 rs2 imm) h = of_s 35 1 rs1 rs2 imm (λ z. Some (Sh rs1 rs2 z)) (omega arith) (omega arith) h (λ w. refl)
instr_of-word_of (Sw rs1 rs2 imm) h = of_s 35 2 rs1 rs2 imm (λ z. Some (Sw rs1 rs2 z)) (omega arith) (omega arith) h (λ w. refl)
instr_of-word_of (Fence rd rs1 imm) h = of_i 15 0 rd rs1 imm (λ z. Some (Fence rd rs1 z)) (omega arith) (omega arith) h (λ w. refl)
instr_of-word_of Ecall h = refl
instr_of-word_of Ebreak h = refl
