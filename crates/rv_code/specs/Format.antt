-- The formats of words (RV32I 2.1, chapter 2.2 has the formats, 2.3 the immediates).
use Rattle.std.specs.Prelude.{ℕ, ◌+◌, ◌*◌, ◌/◌, ◌%◌, ◌^◌, ◌<◌, ◌≡◌, ℤ, pos, negsuc, ◌≤ℤ◌}
use Rattle.std.specs.Int.{w32, cast_unsigned}
use Rattle.bop_bits.specs.Bits.{field_of, signed_of}

-- a format with its fields
pub data Format : Type 0 where
  R : (opcode funct3 funct7 rd rs1 rs2 : ℕ) → Format
  I : (opcode funct3 rd rs1 : ℕ) (imm : ℤ) → Format
  -- the I format of a shift, whose immediate is an amount below 7 bits
  Shift : (opcode funct3 funct7 rd rs1 amount : ℕ) → Format
  S : (opcode funct3 rs1 rs2 : ℕ) (imm : ℤ) → Format
  B : (opcode funct3 rs1 rs2 : ℕ) (imm : ℤ) → Format
  U : (opcode rd upper : ℕ) → Format
  J : (opcode rd : ℕ) (imm : ℤ) → Format
  -- a word without fields
  Whole : (whole : ℕ) → Format

-- the lowest bits of an immediate in two's complement
abbrev pub imm_bits : (len : ℕ) (imm : ℤ) → ℕ
imm_bits len imm = cast_unsigned w32 imm % 2 ^ len

-- the upper and lower bits of an immediate that is in two parts or more
abbrev pub s_word : (opcode funct3 rs1 rs2 bits : ℕ) → ℕ
s_word opcode funct3 rs1 rs2 bits =
    field_of 5 7 bits * 2 ^ 25 + rs2 * 2 ^ 20 + rs1 * 2 ^ 15 + funct3 * 2 ^ 12
    + field_of 0 5 bits * 2 ^ 7 + opcode

abbrev pub b_word : (opcode funct3 rs1 rs2 bits : ℕ) → ℕ
b_word opcode funct3 rs1 rs2 bits =
    field_of 12 1 bits * 2 ^ 31 + field_of 5 6 bits * 2 ^ 25 + rs2 * 2 ^ 20 + rs1 * 2 ^ 15
    + funct3 * 2 ^ 12 + field_of 1 4 bits * 2 ^ 8 + field_of 11 1 bits * 2 ^ 7 + opcode

abbrev pub j_word : (opcode rd bits : ℕ) → ℕ
j_word opcode rd bits =
    field_of 20 1 bits * 2 ^ 31 + field_of 1 10 bits * 2 ^ 21 + field_of 11 1 bits * 2 ^ 20
    + field_of 12 8 bits * 2 ^ 12 + rd * 2 ^ 7 + opcode

-- the word of a format
abbrev pub word_in : Format → ℕ
word_in (R opcode funct3 funct7 rd rs1 rs2) =
    funct7 * 2 ^ 25 + rs2 * 2 ^ 20 + rs1 * 2 ^ 15 + funct3 * 2 ^ 12 + rd * 2 ^ 7 + opcode
word_in (I opcode funct3 rd rs1 imm) =
    imm_bits 12 imm * 2 ^ 20 + rs1 * 2 ^ 15 + funct3 * 2 ^ 12 + rd * 2 ^ 7 + opcode
word_in (Shift opcode funct3 funct7 rd rs1 amount) =
    funct7 * 2 ^ 25 + amount * 2 ^ 20 + rs1 * 2 ^ 15 + funct3 * 2 ^ 12 + rd * 2 ^ 7 + opcode
word_in (S opcode funct3 rs1 rs2 imm) = s_word opcode funct3 rs1 rs2 (imm_bits 12 imm)
word_in (B opcode funct3 rs1 rs2 imm) = b_word opcode funct3 rs1 rs2 (imm_bits 13 imm)
word_in (U opcode rd upper) = upper * 2 ^ 12 + rd * 2 ^ 7 + opcode
word_in (J opcode rd imm) = j_word opcode rd (imm_bits 21 imm)
word_in (Whole whole) = whole

-- an immediate that is even
abbrev pub IsEven : ℤ → Type 0
IsEven imm = imm_bits 1 imm ≡ 0

-- the fields that an instruction names are in range
abbrev pub IsInRange : Format → Type 0
IsInRange (R opcode funct3 funct7 rd rs1 rs2) = (rd < 32) × (rs1 < 32) × (rs2 < 32)
IsInRange (I opcode funct3 rd rs1 imm) =
    (rd < 32) × (rs1 < 32) × (negsuc 2047 ≤ℤ imm) × (imm ≤ℤ pos 2047)
IsInRange (Shift opcode funct3 funct7 rd rs1 amount) = (rd < 32) × (rs1 < 32) × (amount < 32)
IsInRange (S opcode funct3 rs1 rs2 imm) =
    (rs1 < 32) × (rs2 < 32) × (negsuc 2047 ≤ℤ imm) × (imm ≤ℤ pos 2047)
IsInRange (B opcode funct3 rs1 rs2 imm) =
    (rs1 < 32) × (rs2 < 32) × (negsuc 4095 ≤ℤ imm) × (imm ≤ℤ pos 4094) × IsEven imm
IsInRange (U opcode rd upper) = (rd < 32) × (upper < 2 ^ 20)
IsInRange (J opcode rd imm) =
    (rd < 32) × (negsuc 1048575 ≤ℤ imm) × (imm ≤ℤ pos 1048574) × IsEven imm
IsInRange (Whole whole) = Unit {0}

-- the registers rs1 and rs2, register 0 where a format has none
abbrev pub rs1_in : Format → ℕ
rs1_in (R opcode funct3 funct7 rd rs1 rs2) = rs1
rs1_in (I opcode funct3 rd rs1 imm) = rs1
rs1_in (Shift opcode funct3 funct7 rd rs1 amount) = rs1
rs1_in (S opcode funct3 rs1 rs2 imm) = rs1
rs1_in (B opcode funct3 rs1 rs2 imm) = rs1
rs1_in (U opcode rd upper) = 0
rs1_in (J opcode rd imm) = 0
rs1_in (Whole whole) = 0

abbrev pub rs2_in : Format → ℕ
rs2_in (R opcode funct3 funct7 rd rs1 rs2) = rs2
rs2_in (I opcode funct3 rd rs1 imm) = 0
rs2_in (Shift opcode funct3 funct7 rd rs1 amount) = 0
rs2_in (S opcode funct3 rs1 rs2 imm) = rs2
rs2_in (B opcode funct3 rs1 rs2 imm) = rs2
rs2_in (U opcode rd upper) = 0
rs2_in (J opcode rd imm) = 0
rs2_in (Whole whole) = 0

-- The fields of a word.

abbrev pub opcode : ℕ → ℕ
opcode word = field_of 0 7 word

abbrev pub rd_field : ℕ → ℕ
rd_field word = field_of 7 5 word

abbrev pub funct3 : ℕ → ℕ
funct3 word = field_of 12 3 word

abbrev pub rs1_field : ℕ → ℕ
rs1_field word = field_of 15 5 word

abbrev pub rs2_field : ℕ → ℕ
rs2_field word = field_of 20 5 word

abbrev pub funct7 : ℕ → ℕ
funct7 word = field_of 25 7 word

abbrev pub upper_field : ℕ → ℕ
upper_field word = field_of 12 20 word

abbrev pub imm_i : ℕ → ℤ
imm_i word = signed_of 12 (field_of 20 12 word)

abbrev pub imm_s : ℕ → ℤ
imm_s word = signed_of 12 (field_of 25 7 word * 2 ^ 5 + field_of 7 5 word)

abbrev pub imm_b : ℕ → ℤ
imm_b word =
    signed_of 13 (field_of 31 1 word * 2 ^ 12 + field_of 7 1 word * 2 ^ 11
    + field_of 25 6 word * 2 ^ 5 + field_of 8 4 word * 2 ^ 1)

abbrev pub imm_j : ℕ → ℤ
imm_j word =
    signed_of 21 (field_of 31 1 word * 2 ^ 20 + field_of 12 8 word * 2 ^ 12
    + field_of 20 1 word * 2 ^ 11 + field_of 21 10 word * 2 ^ 1)
