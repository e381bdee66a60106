-- What the instructions of an operator compute is what the operator gives.
use Rattle.std.proofs.Common.{◌≡◌, ℕ, ◌-◌, ◌*◌, ◌/◌, ◌%◌, ◌^◌, ◌<◌, List, [], ◌∷◌, refl, ap, ◌∙◌, arith, Ok, ◌+◌}
use Rattle.std.specs.Prelude.{Bool, true, false, not, ◌&&◌, ◌||◌, ◌==◌, nat_lt, if◌then◌else◌, ℤ, pos, neg_ℤ, ◌+ℤ◌, ◌-ℤ◌, ◌*ℤ◌, int_lt, int_div, int_rem, bit_and, bit_or}
use Rattle.std.specs.Int.{w32, cast_unsigned, cast_signed, int_shr}
use Rattle.std.proofs.lemmas.Grind.{common_steps}
use Rattle.std.proofs.lemmas.Int.{ints}
use Rattle.std.proofs.lemmas.Bool.Decides.{nat_tests}
use Rattle.rv_code.specs.declared.instr.Instr.{Instr}
use Rattle.rv_code.specs.declared.instr.Instr.TheVariants as instr
use Rattle.rv_code.specs.Word.{sum, difference, word, truth as bit}
use Rattle.c_tree.specs.declared.operator.Binary.{Binary}
use Rattle.c_tree.specs.declared.operator.Binary.TheVariants as binary
use Rattle.c_tree.specs.declared.operator.Unary.{Unary}
use Rattle.c_tree.specs.declared.operator.Unary.TheVariants as unary
use Rattle.c_tree.specs.Ty.{Ty}
use Rattle.c_tree.specs.Ty as ty
use Rattle.c_tree.specs.Arithmetic.{signed, truth, fits_int, binary_word, unary_word, converted}
use Rattle.low_expr.specs.Operators.{word_code, unary_code, cast_code}
use Rattle.low_expr.proofs.SignedProducts.{times_signed}
use Rattle.low_expr.proofs.ArithmeticWords.{fitted_is, else_is, then_is, given_is, binary_fits, unary_fits, flip_is}
use Rattle.low_expr.proofs.PlainCode.{Env, with_env}
use Rattle.low_expr.proofs.CodePiecesLemmas.{Takes, takes_none}
use Rattle.low_expr.proofs.Deciding.{Computes}
use Rattle.std.proofs.lemmas.Nat.{and_mask}

pub bit_is : (b : Bool) → bit b ≡ truth b
bit_is true = refl
bit_is false = refl

not_bit : (b : Bool) → bit (nat_lt (bit b) (word (pos 1))) ≡ truth (not b)
not_bit true = refl
not_bit false = refl

pub above_zero : (x o : ℕ) → o ≡ 0 → nat_lt o x ≡ not (x == 0)
above_zero x o z = decided (x == 0) refl
  where
    decided : (b : Bool) → (x == 0) ≡ b → nat_lt o x ≡ not b
    decided true e = grind (arith, nat_tests)
    decided false e = grind (arith, nat_tests)

is_nought : (x : ℕ) → bit (nat_lt x (word (pos 1))) ≡ truth (x == 0)
is_nought x = decided (x == 0) refl
  where
    decided : (b : Bool) → (x == 0) ≡ b → bit (nat_lt x (word (pos 1))) ≡ truth b
    decided true e = grind (arith, nat_tests)
    decided false e = grind (arith, nat_tests)

or_bits : (a b : Bool) → bit_or (bit a) (bit b) ≡ truth (a || b)
or_bits true true = refl
or_bits true false = refl
or_bits false true = refl
or_bits false false = refl

and_bits : (a b : Bool) → bit_and (bit a) (bit b) ≡ truth (a && b)
and_bits true true = refl
and_bits true false = refl
and_bits false true = refl
and_bits false false = refl

or_is : (x y o : ℕ) → o ≡ 0
    → bit_or (bit (nat_lt o x)) (bit (nat_lt o y)) ≡ truth (not (x == 0) || not (y == 0))
or_is x y o z =
    ap (λ a. bit_or (bit a) (bit (nat_lt o y))) (above_zero x o z)
    ∙ ap (λ b. bit_or (bit (not (x == 0))) (bit b)) (above_zero y o z)
    ∙ or_bits (not (x == 0)) (not (y == 0))

and_is : (x y o : ℕ) → o ≡ 0
    → bit_and (bit (nat_lt o x)) (bit (nat_lt o y)) ≡ truth (not (x == 0) && not (y == 0))
and_is x y o z =
    ap (λ a. bit_and (bit a) (bit (nat_lt o y))) (above_zero x o z)
    ∙ ap (λ b. bit_and (bit (not (x == 0))) (bit b)) (above_zero y o z)
    ∙ and_bits (not (x == 0)) (not (y == 0))

sum_signed : (x y : ℕ) → x < 2 ^ 32 → y < 2 ^ 32 → fits_int (signed x +ℤ signed y) ≡ true
    → sum x y ≡ cast_unsigned w32 (signed x +ℤ signed y)
sum_signed x y hx hy f = grind (arith, common_steps, ints)

difference_signed : (x y : ℕ) → x < 2 ^ 32 → y < 2 ^ 32 → fits_int (signed x -ℤ signed y) ≡ true
    → difference x y ≡ cast_unsigned w32 (signed x -ℤ signed y)
difference_signed x y hx hy f = grind (arith, common_steps, ints)

negative_signed : (x : ℕ) → x < 2 ^ 32 → fits_int (neg_ℤ (signed x)) ≡ true
    → difference 0 x ≡ cast_unsigned w32 (neg_ℤ (signed x))
negative_signed x hx f = grind (arith, common_steps, ints)

equal_is : (x y : ℕ) → x < 2 ^ 32 → y < 2 ^ 32
    → bit (nat_lt (difference x y) (word (pos 1))) ≡ truth (x == y)
equal_is x y hx hy = decided (x == y) refl
  where
    decided : (b : Bool) → (x == y) ≡ b → bit (nat_lt (difference x y) (word (pos 1))) ≡ truth b
    decided true e = grind (arith, nat_tests, common_steps)
    decided false e = grind (arith, nat_tests, common_steps)

unequal_is : (x y : ℕ) → x < 2 ^ 32 → y < 2 ^ 32
    → bit (nat_lt 0 (difference x y)) ≡ truth (not (x == y))
unequal_is x y hx hy = decided (x == y) refl
  where
    decided : (b : Bool) → (x == y) ≡ b → bit (nat_lt 0 (difference x y)) ≡ truth (not b)
    decided true e = grind (arith, nat_tests, common_steps)
    decided false e = grind (arith, nat_tests, common_steps)

-- a quotient that fits doesn't wrap
pub quotient_is : (z : ℤ) → fits_int z ≡ true
    → word (cast_signed w32 (cast_unsigned w32 z)) ≡ cast_unsigned w32 z
quotient_is z f = grind (arith, common_steps, ints)

small_product : (w : ℕ) → nat_lt w (2 ^ 31) ≡ true → w % 2 ^ 32 ≡ w
small_product w e = grind (arith, nat_tests)

module _ (m : List ℕ) (i : ℕ) (env : Env) where
  -- one instruction into register 5, and two
  pub single : (x : Instr) (v w : ℕ) → v < 2 ^ 32
      → Takes m i (x ∷ []) env (with_env 5 w env) → w ≡ v → Computes m i (x ∷ []) env v
  single x v w fits t e = record {
    left = with_env 5 w env;
    takes = t;
    value = e;
    fits = fits;
    zero_still = refl;
    stack_still = refl;
    address_still = refl;
    old_still = refl;
  }

  pair : (x y : Instr) (v u w : ℕ) → v < 2 ^ 32
      → Takes m i (x ∷ y ∷ []) env (with_env 5 w (with_env 5 u env)) → w ≡ v
      → Computes m i (x ∷ y ∷ []) env v
  pair x y v u w fits t e = record {
    left = with_env 5 w (with_env 5 u env);
    takes = t;
    value = e;
    fits = fits;
    zero_still = refl;
    stack_still = refl;
    address_still = refl;
    old_still = refl;
  }

  -- the truths of registers 5 and 6, and an instruction on them
  truths : (x : Instr) (v w : ℕ) → v < 2 ^ 32
      → (let env1 = with_env 5 (bit (nat_lt (env 0) (env 5))) env in
      let env2 = with_env 6 (bit (nat_lt (env 0) (env 6))) env1 in
      Takes m (i + 1 + 1) (x ∷ []) env2 (with_env 5 w env2)) → w ≡ v
      → Computes m i (instr.Sltu 5 0 5 ∷ instr.Sltu 6 0 6 ∷ x ∷ []) env v
  truths x v w fits t e =
      let env1 = with_env 5 (bit (nat_lt (env 0) (env 5))) env in
      let env2 = with_env 6 (bit (nat_lt (env 0) (env 6))) env1 in
      record {
        left = with_env 5 w env2;
        takes = (((omega arith, omega arith), ((omega arith, omega arith), t.0)), t.1);
        value = e;
        fits = fits;
        zero_still = refl;
        stack_still = refl;
        address_still = refl;
        old_still = refl;
      }

  none : (v : ℕ) → v < 2 ^ 32 → env 5 ≡ v → Computes m i [] env v
  none v fits e = record {
    left = env;
    takes = takes_none m i env;
    value = e;
    fits = fits;
    zero_still = refl;
    stack_still = refl;
    address_still = refl;
    old_still = refl;
  }

  pub five : (0 < 5) × (5 < 32)
  five = (omega arith, omega arith)

  zero_not : (y : ℕ) → (y == 0) ≡ false → (d : ℕ) (w : ℕ) → (if y == 0 then d else w) ≡ w
  zero_not y e d w = ap (λ b. if b then d else w) e

  small_amount : (y : ℕ) → nat_lt y 32 ≡ true → y % 32 ≡ y
  small_amount y e = grind (arith, nat_tests)

  -- the operands are in registers 5 and 6
  word_is : (op : Binary) (u : Bool) (v : ℕ) → v < 2 ^ 32 → env 0 ≡ 0 → env 5 < 2 ^ 32
      → env 6 < 2 ^ 32 → binary_word op u (env 5) (env 6) ≡ Ok v
      → Computes m i (word_code op u) env v
  word_is binary.BitOr u v f z hx hy e = single _ v _ f ((five, tt), refl) (given_is _ v e)
  word_is binary.BitXor u v f z hx hy e = single _ v _ f ((five, tt), refl) (given_is _ v e)
  word_is binary.BitAnd u v f z hx hy e = single _ v _ f ((five, tt), refl) (given_is _ v e)
  word_is binary.Equal u v f z hx hy e =
      pair _ _ v _ _ f ((five, (five, tt)), refl) (equal_is (env 5) (env 6) hx hy ∙ given_is _ v e)
  word_is binary.Unequal u v f z hx hy e =
      pair _ _ v _ _ f ((five, (five, tt)), refl)
      (ap (λ a. bit (nat_lt a (difference (env 5) (env 6)))) z ∙ unequal_is (env 5)
      (env 6) hx hy ∙ given_is _ v e)
  word_is binary.Less true v f z hx hy e =
      single _ v _ f ((five, tt), refl) (bit_is (nat_lt (env 5) (env 6)) ∙ given_is _ v e)
  word_is binary.Less false v f z hx hy e =
      single _ v _ f ((five, tt), refl)
      (bit_is (int_lt (signed (env 5)) (signed (env 6))) ∙ given_is _ v e)
  word_is binary.Greater true v f z hx hy e =
      single _ v _ f ((five, tt), refl) (bit_is (nat_lt (env 6) (env 5)) ∙ given_is _ v e)
  word_is binary.Greater false v f z hx hy e =
      single _ v _ f ((five, tt), refl)
      (bit_is (int_lt (signed (env 6)) (signed (env 5))) ∙ given_is _ v e)
  word_is binary.LessEqual true v f z hx hy e =
      pair _ _ v _ _ f ((five, (five, tt)), refl)
      (not_bit (nat_lt (env 6) (env 5)) ∙ given_is _ v e)
  word_is binary.LessEqual false v f z hx hy e =
      pair _ _ v _ _ f ((five, (five, tt)), refl)
      (not_bit (int_lt (signed (env 6)) (signed (env 5))) ∙ given_is _ v e)
  word_is binary.GreaterEqual true v f z hx hy e =
      pair _ _ v _ _ f ((five, (five, tt)), refl)
      (not_bit (nat_lt (env 5) (env 6)) ∙ given_is _ v e)
  word_is binary.GreaterEqual false v f z hx hy e =
      pair _ _ v _ _ f ((five, (five, tt)), refl)
      (not_bit (int_lt (signed (env 5)) (signed (env 6))) ∙ given_is _ v e)
  word_is binary.Plus true v f z hx hy e = single _ v _ f ((five, tt), refl) (given_is _ v e)
  word_is binary.Plus false v f z hx hy e =
      let p = fitted_is (fits_int (signed (env 5) +ℤ signed (env 6))) _ v _ e in
      single _ v _ f ((five, tt), refl) (sum_signed (env 5) (env 6) hx hy p.0 ∙ p.1)
  word_is binary.Minus true v f z hx hy e = single _ v _ f ((five, tt), refl) (given_is _ v e)
  word_is binary.Minus false v f z hx hy e =
      let p = fitted_is (fits_int (signed (env 5) -ℤ signed (env 6))) _ v _ e in
      single _ v _ f ((five, tt), refl) (difference_signed (env 5) (env 6) hx hy p.0 ∙ p.1)
  word_is binary.Divide true v f z hx hy e =
      let p = else_is (env 6 == 0) _ _ v e in
      single _ v _ f ((five, tt), refl)
      (zero_not (env 6) p.0 (2 ^ 32 - 1) (env 5 / env 6) ∙ given_is _ v p.1)
  word_is binary.Divide false v f z hx hy e =
      let p = else_is (env 6 == 0) _ _ v e in
      let z = int_div (signed (env 5)) (signed (env 6)) in
      let q = fitted_is (fits_int z) _ v _ p.1 in
      single _ v _ f ((five, tt), refl)
      (zero_not (env 6) p.0 (2 ^ 32 - 1)
      (word (cast_signed w32 (cast_unsigned w32 z))) ∙ quotient_is z q.0 ∙ q.1)
  word_is binary.Rest true v f z hx hy e =
      let p = else_is (env 6 == 0) _ _ v e in
      single _ v _ f ((five, tt), refl)
      (zero_not (env 6) p.0 (env 5) (env 5 % env 6) ∙ given_is _ v p.1)
  word_is binary.Rest false v f z hx hy e =
      let p = else_is (env 6 == 0) _ _ v e in
      let q = fitted_is (fits_int (int_div (signed (env 5)) (signed (env 6)))) _ v _ p.1 in
      single _ v _ f ((five, tt), refl)
      (zero_not (env 6) p.0 (env 5) (word (int_rem (signed (env 5)) (signed (env 6)))) ∙ q.1)
  word_is binary.Right true v f z hx hy e =
      let p = then_is (nat_lt (env 6) 32) _ _ v e in
      single _ v _ f ((five, tt), refl)
      (ap (λ a. env 5 / 2 ^ a) (small_amount (env 6) p.0) ∙ given_is _ v p.1)
  word_is binary.Right false v f z hx hy e =
      let p = then_is (nat_lt (env 6) 32) _ _ v e in
      single _ v _ f ((five, tt), refl)
      (ap (λ a. word (int_shr (signed (env 5)) a)) (small_amount (env 6) p.0) ∙ given_is _ v p.1)
  word_is binary.Left true v f z hx hy e =
      let p = then_is (nat_lt (env 6) 32) _ _ v e in
      single _ v _ f ((five, tt), refl)
      (ap (λ a. env 5 * 2 ^ a % 2 ^ 32) (small_amount (env 6) p.0) ∙ given_is _ v p.1)
  word_is binary.Left false v f z hx hy e =
      let p = then_is (nat_lt (env 6) 32) _ _ v e in
      let q = fitted_is (nat_lt (env 5 * 2 ^ env 6) (2 ^ 31)) _ v _ p.1 in
      let fits : env 5 * 2 ^ env 6 % 2 ^ 32 ≡ env 5 * 2 ^ env 6 = small_product (env 5 * 2 ^ env 6) q.0 in
      single _ v _ f ((five, tt), refl)
      (ap (λ a. env 5 * 2 ^ a % 2 ^ 32) (small_amount (env 6) p.0) ∙ fits ∙ q.1)
  word_is binary.Times true v f z hx hy e = single _ v _ f ((five, tt), refl) (given_is _ v e)
  word_is binary.Times false v f z hx hy e =
      let p = fitted_is (fits_int (signed (env 5) *ℤ signed (env 6))) _ v _ e in
      single _ v _ f ((five, tt), refl) (times_signed (env 5) (env 6) hx hy p.0 ∙ p.1)
  word_is binary.Or u v f z hx hy e =
      truths (instr.Or 5 5 6) v _ f (((omega arith, omega arith), tt), refl)
      (or_is (env 5) (env 6) (env 0) z ∙ given_is _ v e)
  word_is binary.And u v f z hx hy e =
      truths (instr.And 5 5 6) v _ f (((omega arith, omega arith), tt), refl)
      (and_is (env 5) (env 6) (env 0) z ∙ given_is _ v e)

  pub word_computes : (op : Binary) (u : Bool) (v : ℕ) → env 0 ≡ 0 → env 5 < 2 ^ 32
      → env 6 < 2 ^ 32 → binary_word op u (env 5) (env 6) ≡ Ok v
      → Computes m i (word_code op u) env v
  word_computes op u v z hx hy e =
      word_is op u v (binary_fits op u (env 5) (env 6) v hx hy e) z hx hy e

  -- the operand is in register 5
  unary_is : (op : Unary) (u : Bool) (v : ℕ) → v < 2 ^ 32 → env 0 ≡ 0 → env 5 < 2 ^ 32
      → unary_word op u (env 5) ≡ Ok v → Computes m i (unary_code op) env v
  unary_is unary.Plus u v f z hx e = none v f (given_is _ v e)
  unary_is unary.Minus true v f z hx e =
      let zero_less : difference 0 (env 5) ≡ (2 ^ 32 - env 5) % 2 ^ 32 = omega arith in
      single _ v _ f ((five, tt), refl)
      (ap (λ a. difference a (env 5)) z ∙ zero_less ∙ given_is _ v e)
  unary_is unary.Minus false v f z hx e =
      let p = fitted_is (fits_int (neg_ℤ (signed (env 5)))) _ v _ e in
      single _ v _ f ((five, tt), refl)
      (ap (λ a. difference a (env 5)) z ∙ negative_signed (env 5) hx p.0 ∙ p.1)
  unary_is unary.Not u v f z hx e =
      single _ v _ f ((five, tt), refl) (is_nought (env 5) ∙ given_is _ v e)
  unary_is unary.Flip u v f z hx e =
      single _ v _ f ((five, tt), refl) (flip_is (env 5) hx ∙ given_is _ v e)
  unary_is unary.At u v f z hx e = none v f (given_is _ v e)
  unary_is unary.Address u v f z hx e = none v f (given_is _ v e)

  pub unary_computes : (op : Unary) (u : Bool) (v : ℕ) → env 0 ≡ 0 → env 5 < 2 ^ 32
      → unary_word op u (env 5) ≡ Ok v → Computes m i (unary_code op) env v
  unary_computes op u v z hx e = unary_is op u v (unary_fits op u (env 5) v hx e) z hx e

  same_word : (x : ℕ) → x < 2 ^ 32 → x ≡ x % 2 ^ 32
  same_word x h = omega arith

  pub cast_computes : (to : Ty) → env 5 < 2 ^ 32
      → Computes m i (cast_code to) env (converted to (env 5))
  cast_computes ty.Char hx = single _ _ _ (omega arith) ((five, tt), refl) (and_mask (env 5) 8)
  cast_computes to hx = none _ (omega arith) (same_word (env 5) hx)
