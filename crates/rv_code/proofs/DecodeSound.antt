-- The word of the instruction that a word is read as is that word, and its fields are in range.
use Rattle.std.proofs.Common.{◌≡◌, ℕ, ◌+◌, ◌*◌, ◌/◌, ◌%◌, ◌^◌, ◌<◌, ◌≤◌, refl, sym, ◌∙◌, ap, subst, arith, Some, None, Option, Bool, true, false}
use Rattle.std.specs.Prelude.{ℤ, pos, negsuc, ◌≤ℤ◌, ◌==◌, ◌&&◌, ◌||◌, if◌then◌else◌, IfSome}
use Rattle.std.proofs.lemmas.Grind.{common_steps}
use Rattle.std.proofs.lemmas.Bool.Decides.{nat_tests}
use Rattle.std.proofs.lemmas.Int.{ints}
use Rattle.bop_bits.specs.Bits.{field_of, signed_of}
use Rattle.rv_code.specs.declared.instr.Instr.{Instr}
use Rattle.rv_code.specs.declared.instr.Instr.TheVariants.{Lui, Auipc, Jal, Jalr, Beq, Bne, Blt, Bge, Bltu, Bgeu, Lb, Lh, Lw, Lbu, Lhu, Sb, Sh, Sw, Addi, Slti, Sltiu, Xori, Ori, Andi, Slli, Srli, Srai, Add, Sub, Sll, Slt, Sltu, Xor, Srl, Sra, Or, And, Mul, Mulh, Mulhsu, Mulhu, Div, Divu, Rem, Remu, Fence, Ecall, Ebreak}
use Rattle.rv_code.specs.Format.{Format, R, I, Shift, S, B, U, J, Whole, word_in, IsInRange, s_word, b_word, j_word, imm_bits, IsEven, opcode, rd_field, funct3, rs1_field, rs2_field, funct7, upper_field, imm_i, imm_s, imm_b, imm_j}
use Rattle.rv_code.specs.Table.{format_of, word_of, IsInstr}
use Rattle.rv_code.specs.Decode.{branch_of, load_of, store_of, immediate_of, shift_of, register_of, only_of, whole_of, instr_at, instr_of}

-- this instruction, if any, has the word, and its fields are in range
abbrev pub IsSound : ℕ → Option Instr → Type 0
IsSound word found = IfSome found (λ i. IsInstr i × (word_of i ≡ word))

either : (word : ℕ) (b : Bool) (x y : Option Instr) → (b ≡ true → IsSound word x)
    → IsSound word y → IsSound word (if b then x else y)
either word true x y f g = f refl
either word false x y f g = g

same_number : (m n : ℕ) → (m == n) ≡ true → m ≡ n
same_number m n e = grind (arith, nat_tests)

first_same : (m n k l : ℕ) → ((m == n) && (k == l)) ≡ true → m ≡ n
first_same m n k l e = grind (arith, nat_tests)

second_same : (m n k l : ℕ) → ((m == n) && (k == l)) ≡ true → k ≡ l
second_same m n k l e = grind (arith, nat_tests)

-- a row of a group by funct3, and of one by funct3 and funct7, where the word is given by its fields
row : (word f3 n : ℕ) (g : ℕ → ℕ) → (f3 == n) ≡ true → word ≡ g f3 → g n ≡ word
row word f3 n g e is = sym (is ∙ ap g (same_number f3 n e))

row_2 : (word f3 n f7 m : ℕ) (g : ℕ → ℕ → ℕ) → ((f3 == n) && (f7 == m)) ≡ true
    → word ≡ g f3 f7 → g n m ≡ word
row_2 word f3 n f7 m g e is =
    sym (is ∙ ap (λ x. g x f7) (first_same f3 n f7 m e) ∙ ap (g n) (second_same f3 n f7 m e))

register_of-sound : (word : ℕ) (f3 f7 rd rs1 rs2 : ℕ)
    → IsInRange (R 51 0 0 rd rs1 rs2)
    → word ≡ word_in (R 51 f3 f7 rd rs1 rs2) → IsSound word (register_of f3 f7 rd rs1 rs2)
register_of-sound word f3 f7 rd rs1 rs2 h is =
    either word _ (Some (Add rd rs1 rs2)) _ (λ e. (h, row_2 word f3 0 f7 0 (λ x y. word_in (R 51 x y rd rs1 rs2)) e is))
    (either word _ (Some (Sub rd rs1 rs2)) _ (λ e. (h, row_2 word f3 0 f7 32 (λ x y. word_in (R 51 x y rd rs1 rs2)) e is))
    (either word _ (Some (Sll rd rs1 rs2)) _ (λ e. (h, row_2 word f3 1 f7 0 (λ x y. word_in (R 51 x y rd rs1 rs2)) e is))
    (either word _ (Some (Slt rd rs1 rs2)) _ (λ e. (h, row_2 word f3 2 f7 0 (λ x y. word_in (R 51 x y rd rs1 rs2)) e is))
    (either word _ (Some (Sltu rd rs1 rs2)) _ (λ e. (h, row_2 word f3 3 f7 0 (λ x y. word_in (R 51 x y rd rs1 rs2)) e is))
    (either word _ (Some (Xor rd rs1 rs2)) _ (λ e. (h, row_2 word f3 4 f7 0 (λ x y. word_in (R 51 x y rd rs1 rs2)) e is))
    (either word _ (Some (Srl rd rs1 rs2)) _ (λ e. (h, row_2 word f3 5 f7 0 (λ x y. word_in (R 51 x y rd rs1 rs2)) e is))
    (either word _ (Some (Sra rd rs1 rs2)) _ (λ e. (h, row_2 word f3 5 f7 32 (λ x y. word_in (R 51 x y rd rs1 rs2)) e is))
    (either word _ (Some (Or rd rs1 rs2)) _ (λ e. (h, row_2 word f3 6 f7 0 (λ x y. word_in (R 51 x y rd rs1 rs2)) e is))
    (either word _ (Some (And rd rs1 rs2)) _ (λ e. (h, row_2 word f3 7 f7 0 (λ x y. word_in (R 51 x y rd rs1 rs2)) e is))
    (either word _ (Some (Mul rd rs1 rs2)) _ (λ e. (h, row_2 word f3 0 f7 1 (λ x y. word_in (R 51 x y rd rs1 rs2)) e is))
    (either word _ (Some (Mulh rd rs1 rs2)) _ (λ e. (h, row_2 word f3 1 f7 1 (λ x y. word_in (R 51 x y rd rs1 rs2)) e is))
    (either word _ (Some (Mulhsu rd rs1 rs2)) _ (λ e. (h, row_2 word f3 2 f7 1 (λ x y. word_in (R 51 x y rd rs1 rs2)) e is))
    (either word _ (Some (Mulhu rd rs1 rs2)) _ (λ e. (h, row_2 word f3 3 f7 1 (λ x y. word_in (R 51 x y rd rs1 rs2)) e is))
    (either word _ (Some (Div rd rs1 rs2)) _ (λ e. (h, row_2 word f3 4 f7 1 (λ x y. word_in (R 51 x y rd rs1 rs2)) e is))
    (either word _ (Some (Divu rd rs1 rs2)) _ (λ e. (h, row_2 word f3 5 f7 1 (λ x y. word_in (R 51 x y rd rs1 rs2)) e is))
    (either word _ (Some (Rem rd rs1 rs2)) _ (λ e. (h, row_2 word f3 6 f7 1 (λ x y. word_in (R 51 x y rd rs1 rs2)) e is))
    (either word _ (Some (Remu rd rs1 rs2)) _ (λ e. (h, row_2 word f3 7 f7 1 (λ x y. word_in (R 51 x y rd rs1 rs2)) e is))
    tt)))))))))))))))))

shift_of-sound : (word : ℕ) (f3 f7 rd rs1 amount : ℕ)
    → IsInRange (Shift 19 0 0 rd rs1 amount)
    → word ≡ word_in (Shift 19 f3 f7 rd rs1 amount) → IsSound word (shift_of f3 f7 rd rs1 amount)
shift_of-sound word f3 f7 rd rs1 amount h is =
    either word _ (Some (Slli rd rs1 amount)) _ (λ e. (h, row_2 word f3 1 f7 0 (λ x y. word_in (Shift 19 x y rd rs1 amount)) e is))
    (either word _ (Some (Srli rd rs1 amount)) _ (λ e. (h, row_2 word f3 5 f7 0 (λ x y. word_in (Shift 19 x y rd rs1 amount)) e is))
    (either word _ (Some (Srai rd rs1 amount)) _ (λ e. (h, row_2 word f3 5 f7 32 (λ x y. word_in (Shift 19 x y rd rs1 amount)) e is))
    tt))

immediate_of-sound : (word : ℕ) (f3 rd rs1 : ℕ) (imm : ℤ)
    → IsInRange (I 19 0 rd rs1 imm)
    → word ≡ word_in (I 19 f3 rd rs1 imm) → IsSound word (immediate_of f3 rd rs1 imm)
immediate_of-sound word f3 rd rs1 imm h is =
    either word _ (Some (Addi rd rs1 imm)) _ (λ e. (h, row word f3 0 (λ x. word_in (I 19 x rd rs1 imm)) e is))
    (either word _ (Some (Slti rd rs1 imm)) _ (λ e. (h, row word f3 2 (λ x. word_in (I 19 x rd rs1 imm)) e is))
    (either word _ (Some (Sltiu rd rs1 imm)) _ (λ e. (h, row word f3 3 (λ x. word_in (I 19 x rd rs1 imm)) e is))
    (either word _ (Some (Xori rd rs1 imm)) _ (λ e. (h, row word f3 4 (λ x. word_in (I 19 x rd rs1 imm)) e is))
    (either word _ (Some (Ori rd rs1 imm)) _ (λ e. (h, row word f3 6 (λ x. word_in (I 19 x rd rs1 imm)) e is))
    (either word _ (Some (Andi rd rs1 imm)) _ (λ e. (h, row word f3 7 (λ x. word_in (I 19 x rd rs1 imm)) e is))
    tt)))))

load_of-sound : (word : ℕ) (f3 rd rs1 : ℕ) (imm : ℤ)
    → IsInRange (I 3 0 rd rs1 imm)
    → word ≡ word_in (I 3 f3 rd rs1 imm) → IsSound word (load_of f3 rd rs1 imm)
load_of-sound word f3 rd rs1 imm h is =
    either word _ (Some (Lb rd rs1 imm)) _ (λ e. (h, row word f3 0 (λ x. word_in (I 3 x rd rs1 imm)) e is))
    (either word _ (Some (Lh rd rs1 imm)) _ (λ e. (h, row word f3 1 (λ x. word_in (I 3 x rd rs1 imm)) e is))
    (either word _ (Some (Lw rd rs1 imm)) _ (λ e. (h, row word f3 2 (λ x. word_in (I 3 x rd rs1 imm)) e is))
    (either word _ (Some (Lbu rd rs1 imm)) _ (λ e. (h, row word f3 4 (λ x. word_in (I 3 x rd rs1 imm)) e is))
    (either word _ (Some (Lhu rd rs1 imm)) _ (λ e. (h, row word f3 5 (λ x. word_in (I 3 x rd rs1 imm)) e is))
    tt))))

store_of-sound : (word : ℕ) (f3 rs1 rs2 : ℕ) (imm : ℤ)
    → IsInRange (S 35 0 rs1 rs2 imm)
    → word ≡ word_in (S 35 f3 rs1 rs2 imm) → IsSound word (store_of f3 rs1 rs2 imm)
store_of-sound word f3 rs1 rs2 imm h is =
    either word _ (Some (Sb rs1 rs2 imm)) _ (λ e. (h, row word f3 0 (λ x. word_in (S 35 x rs1 rs2 imm)) e is))
    (either word _ (Some (Sh rs1 rs2 imm)) _ (λ e. (h, row word f3 1 (λ x. word_in (S 35 x rs1 rs2 imm)) e is))
    (either word _ (Some (Sw rs1 rs2 imm)) _ (λ e. (h, row word f3 2 (λ x. word_in (S 35 x rs1 rs2 imm)) e is))
    tt))

branch_of-sound : (word : ℕ) (f3 rs1 rs2 : ℕ) (imm : ℤ)
    → IsInRange (B 99 0 rs1 rs2 imm)
    → word ≡ word_in (B 99 f3 rs1 rs2 imm) → IsSound word (branch_of f3 rs1 rs2 imm)
branch_of-sound word f3 rs1 rs2 imm h is =
    either word _ (Some (Beq rs1 rs2 imm)) _ (λ e. (h, row word f3 0 (λ x. word_in (B 99 x rs1 rs2 imm)) e is))
    (either word _ (Some (Bne rs1 rs2 imm)) _ (λ e. (h, row word f3 1 (λ x. word_in (B 99 x rs1 rs2 imm)) e is))
    (either word _ (Some (Blt rs1 rs2 imm)) _ (λ e. (h, row word f3 4 (λ x. word_in (B 99 x rs1 rs2 imm)) e is))
    (either word _ (Some (Bge rs1 rs2 imm)) _ (λ e. (h, row word f3 5 (λ x. word_in (B 99 x rs1 rs2 imm)) e is))
    (either word _ (Some (Bltu rs1 rs2 imm)) _ (λ e. (h, row word f3 6 (λ x. word_in (B 99 x rs1 rs2 imm)) e is))
    (either word _ (Some (Bgeu rs1 rs2 imm)) _ (λ e. (h, row word f3 7 (λ x. word_in (B 99 x rs1 rs2 imm)) e is))
    tt)))))

-- Immediates, read from their bits.

pub bits_of_12 : (n : ℕ) → n < 2 ^ 12 → imm_bits 12 (signed_of 12 n) ≡ n
bits_of_12 n small = grind (arith, common_steps, ints)

pub bits_of_13 : (n : ℕ) → n < 2 ^ 13 → imm_bits 13 (signed_of 13 n) ≡ n
bits_of_13 n small = grind (arith, common_steps, ints)

pub bits_of_21 : (n : ℕ) → n < 2 ^ 21 → imm_bits 21 (signed_of 21 n) ≡ n
bits_of_21 n small = grind (arith, common_steps, ints)

range_12 : (n : ℕ) → n < 2 ^ 12
    → (negsuc 2047 ≤ℤ signed_of 12 n) × (signed_of 12 n ≤ℤ pos 2047)
range_12 n small = (grind (arith, common_steps, ints), grind (arith, common_steps, ints))

range_13 : (n : ℕ) → n < 2 ^ 13 → n % 2 ≡ 0
    → (negsuc 4095 ≤ℤ signed_of 13 n) × (signed_of 13 n ≤ℤ pos 4094) × IsEven (signed_of 13 n)
range_13 n small even = (grind (arith, common_steps, ints), grind (arith, common_steps, ints), grind (arith, common_steps, ints))

range_21 : (n : ℕ) → n < 2 ^ 21 → n % 2 ≡ 0
    → (negsuc 1048575 ≤ℤ signed_of 21 n) × (signed_of 21 n ≤ℤ pos 1048574) × IsEven (signed_of 21 n)
range_21 n small even = (grind (arith, common_steps, ints), grind (arith, common_steps, ints), grind (arith, common_steps, ints))

-- A word is made of its fields.
module _ (word op : ℕ) (small : word < 2 ^ 32) (e : (opcode word == op) ≡ true) where
  is_op : opcode word ≡ op
  is_op = same_number (opcode word) op e

  of_r : word ≡ word_in (R op (funct3 word) (funct7 word) (rd_field word) (rs1_field word) (rs2_field word))
  of_r = let is = is_op in omega arith

  r_range : IsInRange (R op 0 0 (rd_field word) (rs1_field word) (rs2_field word))
  r_range = (omega arith, omega arith, omega arith)

  of_i : word ≡ word_in (I op (funct3 word) (rd_field word) (rs1_field word) (imm_i word))
  of_i = let is = is_op in let bits = bits_of_12 (field_of 20 12 word) (omega arith) in omega (arith, bits)

  i_range : IsInRange (I op 0 (rd_field word) (rs1_field word) (imm_i word))
  i_range = let r = range_12 (field_of 20 12 word) (omega arith) in (omega arith, omega arith, r.0, r.1)

  of_s : word ≡ word_in (S op (funct3 word) (rs1_field word) (rs2_field word) (imm_s word))
  of_s =
      let is = is_op in
      let n = field_of 25 7 word * 2 ^ 5 + field_of 7 5 word in
      let bits = bits_of_12 n (omega arith) in
      let made : word ≡ s_word op (funct3 word) (rs1_field word) (rs2_field word) n = omega arith in
      made ∙ ap (s_word op (funct3 word) (rs1_field word) (rs2_field word)) (sym bits)

  s_range : IsInRange (S op 0 (rs1_field word) (rs2_field word) (imm_s word))
  s_range = let r = range_12 (field_of 25 7 word * 2 ^ 5 + field_of 7 5 word) (omega arith) in (omega arith, omega arith, r.0, r.1)

  of_b : word ≡ word_in (B op (funct3 word) (rs1_field word) (rs2_field word) (imm_b word))
  of_b =
      let is = is_op in
      let n = field_of 31 1 word * 2 ^ 12 + field_of 7 1 word * 2 ^ 11 + field_of 25 6 word * 2 ^ 5 + field_of 8 4 word * 2 ^ 1 in
      let bits = bits_of_13 n (omega arith) in
      let top : field_of 12 1 n ≡ field_of 31 1 word = omega arith in
      let second : field_of 11 1 n ≡ field_of 7 1 word = omega arith in
      let third : field_of 5 6 n ≡ field_of 25 6 word = omega arith in
      let last : field_of 1 4 n ≡ field_of 8 4 word = omega arith in
      let made : word ≡ b_word op (funct3 word) (rs1_field word) (rs2_field word) n = rw (top, second, third, last) (omega arith) in
      made ∙ ap (b_word op (funct3 word) (rs1_field word) (rs2_field word)) (sym bits)

  b_range : IsInRange (B op 0 (rs1_field word) (rs2_field word) (imm_b word))
  b_range =
      let n = field_of 31 1 word * 2 ^ 12 + field_of 7 1 word * 2 ^ 11 + field_of 25 6 word * 2 ^ 5 + field_of 8 4 word * 2 ^ 1 in
      let r = range_13 n (omega arith) (omega arith) in (omega arith, omega arith, r.0, r.1, r.2)

  of_u : word ≡ word_in (U op (rd_field word) (upper_field word))
  of_u = let is = is_op in omega arith

  u_range : IsInRange (U op (rd_field word) (upper_field word))
  u_range = (omega arith, omega arith)

  of_j : word ≡ word_in (J op (rd_field word) (imm_j word))
  of_j =
      let is = is_op in
      let n = field_of 31 1 word * 2 ^ 20 + field_of 12 8 word * 2 ^ 12 + field_of 20 1 word * 2 ^ 11 + field_of 21 10 word * 2 ^ 1 in
      let bits = bits_of_21 n (omega arith) in
      let top : field_of 20 1 n ≡ field_of 31 1 word = omega arith in
      let second : field_of 12 8 n ≡ field_of 12 8 word = omega arith in
      let third : field_of 11 1 n ≡ field_of 20 1 word = omega arith in
      let last : field_of 1 10 n ≡ field_of 21 10 word = omega arith in
      let made : word ≡ j_word op (rd_field word) n = rw (top, second, third, last) (omega arith) in
      made ∙ ap (j_word op (rd_field word)) (sym bits)

  j_range : IsInRange (J op (rd_field word) (imm_j word))
  j_range =
      let n = field_of 31 1 word * 2 ^ 20 + field_of 12 8 word * 2 ^ 12 + field_of 20 1 word * 2 ^ 11 + field_of 21 10 word * 2 ^ 1 in
      let r = range_21 n (omega arith) (omega arith) in (omega arith, r.0, r.1, r.2)

only_of-sound : (word f3 op rd rs1 : ℕ) (imm : ℤ) (i : Instr) → format_of i ≡ I op 0 rd rs1 imm
    → IsInRange (I op 0 rd rs1 imm)
    → word ≡ word_in (I op f3 rd rs1 imm) → IsSound word (only_of f3 i)
only_of-sound word f3 op rd rs1 imm i form h is =
    either word (f3 == 0) (Some i) None
    (λ e. (subst IsInRange (sym form) h, ap word_in form ∙ row word f3 0 (λ x. word_in (I op x rd rs1 imm)) e is)) tt

whole_of-sound : (word : ℕ) → IsSound word (whole_of word)
whole_of-sound word =
    either word (word == 115) (Some Ecall) _ (λ e. (tt, sym (same_number word 115 e)))
    (either word (word == 1048691) (Some Ebreak) _ (λ e. (tt, sym (same_number word 1048691 e))) tt)

pub instr_of-sound : (word : ℕ) → word < 2 ^ 32 → IsSound word (instr_of word)
instr_of-sound word small =
    let op = opcode word in
    let rd = rd_field word in
    let f3 = funct3 word in
    let rs1 = rs1_field word in
    let rs2 = rs2_field word in
    let f7 = funct7 word in
    either word (op == 55) _ _ (λ e. (u_range word 55 small e, sym (of_u word 55 small e)))
    (either word (op == 23) _ _ (λ e. (u_range word 23 small e, sym (of_u word 23 small e)))
    (either word (op == 111) _ _ (λ e. (j_range word 111 small e, sym (of_j word 111 small e)))
    (either word (op == 103) _ _ (λ e. only_of-sound word f3 103 rd rs1 (imm_i word) (Jalr rd rs1 (imm_i word)) refl (i_range word 103 small e) (of_i word 103 small e))
    (either word (op == 99) _ _ (λ e. branch_of-sound word f3 rs1 rs2 (imm_b word) (b_range word 99 small e) (of_b word 99 small e))
    (either word (op == 3) _ _ (λ e. load_of-sound word f3 rd rs1 (imm_i word) (i_range word 3 small e) (of_i word 3 small e))
    (either word (op == 35) _ _ (λ e. store_of-sound word f3 rs1 rs2 (imm_s word) (s_range word 35 small e) (of_s word 35 small e))
    (either word (op == 19) _ _ (λ e. either word ((f3 == 1) || (f3 == 5)) _ _
    (λ _. shift_of-sound word f3 f7 rd rs1 rs2 (r_range word 19 small e) (of_r word 19 small e))
    (immediate_of-sound word f3 rd rs1 (imm_i word) (i_range word 19 small e) (of_i word 19 small e)))
    (either word (op == 51) _ _ (λ e. register_of-sound word f3 f7 rd rs1 rs2 (r_range word 51 small e) (of_r word 51 small e))
    (either word (op == 15) _ _ (λ e. only_of-sound word f3 15 rd rs1 (imm_i word) (Fence rd rs1 (imm_i word)) refl (i_range word 15 small e) (of_i word 15 small e))
    (whole_of-sound word))))))))))
