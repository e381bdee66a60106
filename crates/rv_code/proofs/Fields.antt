-- The fields of the words of each format, read back.
use Rattle.std.proofs.Common.{◌≡◌, ℕ, ◌+◌, ◌*◌, ◌/◌, ◌%◌, ◌^◌, ◌<◌, ◌≤◌, refl, ◌∙◌, ap, arith}
use Rattle.std.specs.Prelude.{ℤ, pos, negsuc, ◌≤ℤ◌}
use Rattle.std.proofs.lemmas.Grind.{common_steps}
use Rattle.std.proofs.lemmas.Int.{ints}
use Rattle.bop_bits.specs.Bits.{field_of, signed_of}
use Rattle.rv_code.specs.Format.{R, I, Shift, S, B, U, J, word_in, s_word, b_word, j_word, imm_bits, opcode, rd_field, funct3, rs1_field, rs2_field, funct7, upper_field, imm_i, imm_s, imm_b, imm_j}

-- an immediate from its lowest bits
pub signed_of_12 : (imm : ℤ) → negsuc 2047 ≤ℤ imm → imm ≤ℤ pos 2047
    → signed_of 12 (imm_bits 12 imm) ≡ imm
signed_of_12 imm low high = grind (arith, common_steps, ints)

pub signed_of_13 : (imm : ℤ) → negsuc 4095 ≤ℤ imm → imm ≤ℤ pos 4094
    → signed_of 13 (imm_bits 13 imm) ≡ imm
signed_of_13 imm low high = grind (arith, common_steps, ints)

pub signed_of_21 : (imm : ℤ) → negsuc 1048575 ≤ℤ imm → imm ≤ℤ pos 1048574
    → signed_of 21 (imm_bits 21 imm) ≡ imm
signed_of_21 imm low high = grind (arith, common_steps, ints)

-- the fields of a word that are read first
pub record HasFields (word op rd f3 rs1 rs2 f7 : ℕ) : Type 0 where
  pub of_opcode : opcode word ≡ op
  pub of_rd : rd_field word ≡ rd
  pub of_funct3 : funct3 word ≡ f3
  pub of_rs1 : rs1_field word ≡ rs1
  pub of_rs2 : rs2_field word ≡ rs2
  pub of_funct7 : funct7 word ≡ f7

-- R, and shifts
pub r_fields : (op f3 f7 rd rs1 rs2 : ℕ) → op < 128 → f3 < 8 → f7 < 128
    → rd < 32 → rs1 < 32 → rs2 < 32
    → HasFields (word_in (R op f3 f7 rd rs1 rs2)) op rd f3 rs1 rs2 f7
r_fields op f3 f7 rd rs1 rs2 c f g d a b = record {
  of_opcode = omega arith;
  of_rd = omega arith;
  of_funct3 = omega arith;
  of_rs1 = omega arith;
  of_rs2 = omega arith;
  of_funct7 = omega arith;
}

abbrev pub i_word : (op f3 rd rs1 bits : ℕ) → ℕ
i_word op f3 rd rs1 bits = bits * 2 ^ 20 + rs1 * 2 ^ 15 + f3 * 2 ^ 12 + rd * 2 ^ 7 + op

pub i_fields : (op f3 rd rs1 bits : ℕ) → op < 128 → f3 < 8 → rd < 32 → rs1 < 32
    → HasFields (i_word op f3 rd rs1 bits) op rd f3 rs1 (rs2_field (i_word op f3 rd rs1 bits))
    (funct7 (i_word op f3 rd rs1 bits))
i_fields op f3 rd rs1 bits c f d a = record {
  of_opcode = omega arith;
  of_rd = omega arith;
  of_funct3 = omega arith;
  of_rs1 = omega arith;
  of_rs2 = refl;
  of_funct7 = refl;
}

pub i_bits : (op f3 rd rs1 bits : ℕ) → op < 128 → f3 < 8 → rd < 32 → rs1 < 32 → bits < 2 ^ 12
    → field_of 20 12 (i_word op f3 rd rs1 bits) ≡ bits
i_bits op f3 rd rs1 bits c f d a small = omega arith

pub s_fields : (op f3 rs1 rs2 bits : ℕ) → op < 128 → f3 < 8 → rs1 < 32 → rs2 < 32
    → HasFields (s_word op f3 rs1 rs2 bits) op (rd_field (s_word op f3 rs1 rs2 bits)) f3 rs1 rs2
    (funct7 (s_word op f3 rs1 rs2 bits))
s_fields op f3 rs1 rs2 bits c f a b = record {
  of_opcode = omega arith;
  of_rd = refl;
  of_funct3 = omega arith;
  of_rs1 = omega arith;
  of_rs2 = omega arith;
  of_funct7 = refl;
}

pub s_bits : (op f3 rs1 rs2 bits : ℕ) → op < 128 → f3 < 8 → rs1 < 32 → rs2 < 32 → bits < 2 ^ 12
    → field_of 25 7 (s_word op f3 rs1 rs2 bits) * 2 ^ 5 + field_of 7 5 (s_word op f3 rs1 rs2 bits) ≡ bits
s_bits op f3 rs1 rs2 bits c f a b small = omega arith

pub b_fields : (op f3 rs1 rs2 bits : ℕ) → op < 128 → f3 < 8 → rs1 < 32 → rs2 < 32
    → HasFields (b_word op f3 rs1 rs2 bits) op (rd_field (b_word op f3 rs1 rs2 bits)) f3 rs1 rs2
    (funct7 (b_word op f3 rs1 rs2 bits))
b_fields op f3 rs1 rs2 bits c f a b = record {
  of_opcode = omega arith;
  of_rd = refl;
  of_funct3 = omega arith;
  of_rs1 = omega arith;
  of_rs2 = omega arith;
  of_funct7 = refl;
}

-- the bits of the immediate, one group at a time
pub b_bits : (op f3 rs1 rs2 bits : ℕ) → op < 128 → f3 < 8 → rs1 < 32 → rs2 < 32
    → bits < 2 ^ 13 → bits % 2 ≡ 0
    → field_of 31 1 (b_word op f3 rs1 rs2 bits) * 2 ^ 12
    + field_of 7 1 (b_word op f3 rs1 rs2 bits) * 2 ^ 11
    + field_of 25 6 (b_word op f3 rs1 rs2 bits) * 2 ^ 5
    + field_of 8 4 (b_word op f3 rs1 rs2 bits) * 2 ^ 1 ≡ bits
b_bits op f3 rs1 rs2 bits c f a b small even =
    let w = b_word op f3 rs1 rs2 bits in
    let top : field_of 31 1 w ≡ field_of 12 1 bits = omega arith in
    let second : field_of 7 1 w ≡ field_of 11 1 bits = omega arith in
    let third : field_of 25 6 w ≡ field_of 5 6 bits = omega arith in
    let last : field_of 8 4 w ≡ field_of 1 4 bits = omega arith in
    omega (arith, top, second, third, last)

pub u_fields : (op rd upper : ℕ) → op < 128 → rd < 32
    → HasFields (upper * 2 ^ 12 + rd * 2 ^ 7 + op) op rd
    (funct3 (upper * 2 ^ 12 + rd * 2 ^ 7 + op)) (rs1_field (upper * 2 ^ 12 + rd * 2 ^ 7 + op))
    (rs2_field (upper * 2 ^ 12 + rd * 2 ^ 7 + op)) (funct7 (upper * 2 ^ 12 + rd * 2 ^ 7 + op))
u_fields op rd upper c d = record {
  of_opcode = omega arith;
  of_rd = omega arith;
  of_funct3 = refl;
  of_rs1 = refl;
  of_rs2 = refl;
  of_funct7 = refl;
}

pub u_bits : (op rd upper : ℕ) → op < 128 → rd < 32 → upper < 2 ^ 20
    → upper_field (upper * 2 ^ 12 + rd * 2 ^ 7 + op) ≡ upper
u_bits op rd upper c d small = omega arith

pub j_fields : (op rd bits : ℕ) → op < 128 → rd < 32
    → HasFields (j_word op rd bits) op rd
    (funct3 (j_word op rd bits)) (rs1_field (j_word op rd bits))
    (rs2_field (j_word op rd bits)) (funct7 (j_word op rd bits))
j_fields op rd bits c d = record {
  of_opcode = omega arith;
  of_rd = omega arith;
  of_funct3 = refl;
  of_rs1 = refl;
  of_rs2 = refl;
  of_funct7 = refl;
}

pub j_bits : (op rd bits : ℕ) → op < 128 → rd < 32 → bits < 2 ^ 21 → bits % 2 ≡ 0
    → field_of 31 1 (j_word op rd bits) * 2 ^ 20 + field_of 12 8 (j_word op rd bits) * 2 ^ 12
    + field_of 20 1 (j_word op rd bits) * 2 ^ 11 + field_of 21 10 (j_word op rd bits) * 2 ^ 1
    ≡ bits
j_bits op rd bits c d small even =
    let w = j_word op rd bits in
    let top : field_of 31 1 w ≡ field_of 20 1 bits = omega arith in
    let second : field_of 12 8 w ≡ field_of 12 8 bits = omega arith in
    let third : field_of 20 1 w ≡ field_of 11 1 bits = omega arith in
    let last : field_of 21 10 w ≡ field_of 1 10 bits = omega arith in
    omega (arith, top, second, third, last)
