-- What operators do is decided, and their code computes it.
use Rattle.std.proofs.Common.{◌≡◌, ◌≢◌, ℕ, ◌+◌, ◌^◌, ◌<◌, ◌≤◌, List, [], ◌∷◌, ◌++◌, refl, sym, ap, ◌∙◌, subst, arith, Ok, Err, inl, inr, length}
use Rattle.std.specs.Prelude.{Bool, true, false, not, ◌==◌, ◌&&◌, ◌||◌, if◌then◌else◌, ℤ, pos, neg_ℤ, nat_abs, ◌+ℤ◌, ◌-ℤ◌, ◌*ℤ◌, int_div}
use Rattle.std.specs.Int.{w32, cast_unsigned}
use Rattle.bop_bits.specs.declared.map.TheConstants.{STACK_TO}
use Rattle.rv_code.specs.declared.instr.Instr.{Instr}
use Rattle.rv_code.specs.declared.instr.Instr.TheVariants as instr
use Rattle.rv_code.specs.Word.{sum as sum_of, difference as difference_of, product, signed_quotient}
use Rattle.c_tree.specs.declared.operator.Binary.{Binary}
use Rattle.c_tree.specs.declared.operator.Unary.{Unary}
use Rattle.c_tree.specs.declared.operator.Group.{Group}
use Rattle.c_tree.specs.declared.operator.Group.TheVariants as by
use Rattle.c_tree.specs.declared.place.Place.{Place}
use Rattle.c_tree.specs.declared.undefined.Undefined.TheVariants.{Pointer as NotAlong}
use Rattle.c_tree.specs.Arithmetic.{Outcome, binary_word, unary_word}
use Rattle.c_tree.specs.Groups.{group, is_shift, is_order}
use Rattle.c_semantics.specs.declared.kind.Operand.{Operand}
use Rattle.c_semantics.specs.declared.kind.Operand.TheVariants.{Signed, Unsigned, Pointer}
use Rattle.c_semantics.specs.Run.{Store, Run, pure, ◌>>◌, undefined}
use Rattle.c_semantics.specs.Pointers.{are_along, along, moved, distance}
use Rattle.c_semantics.specs.Eval.{outcome, is_unsigned, amount, arithmetic, compared, sum, difference, other_act, group_act, binary_act}
use Rattle.low_expr.specs.CodePieces.{constant}
use Rattle.low_expr.specs.Operators.{word_code, arithmetic_code, scaled, sum_code, difference_code, other_code, group_code, binary_code, unary_code}
use Rattle.low_expr.specs.Agreement.{Framed}
use Rattle.low_expr.specs.Readiness.{OperandFits}
use Rattle.low_expr.proofs.PlainCode.{Env, with_env, eq_false}
use Rattle.low_expr.proofs.CodePiecesLemmas.{Takes, takes_append, constant_takes}
use Rattle.low_expr.proofs.ArithmeticWords.{small_word, fits_mag}
use Rattle.low_expr.proofs.PointerArithmetic.{IsAddress, along_inside, plus_moves, minus_moves, elements_are, elements_fit}
use Rattle.low_expr.proofs.OperatorsLemmas.{word_computes, unary_computes}
use Rattle.low_expr.proofs.Deciding.{Decided, Computes}

outcome_decided : (o : Outcome) (at : Place) (store : Store) (P : ℕ → Type 0)
    → ((v : ℕ) → o ≡ Ok v → P v) → Decided (outcome o at) store P
outcome_decided (Ok v) at store P h = inr (v, (λ n. refl), h v refl)
outcome_decided (Err act) at store P h = inl (λ n. tt)

along_decided : (y z : ℤ) (v : ℕ) (at : Place) (store : Store) (P : ℕ → Type 0)
    → (are_along y z store.live ≡ true → P v) → Decided (along y z v at) store P
along_decided y z v at store P h = decided (are_along y z store.live) refl
  where
    decided : (b : Bool) → are_along y z store.live ≡ b
        → Decided (λ s n. (if b then pure v else undefined NotAlong at) store n) store P
    decided true e = inr (v, (λ n. refl), h e)
    decided false e = inl (λ n. tt)

module _ (m : List ℕ) (i : ℕ) (env : Env) (store : Store) (frame slots : ℕ)
    (f : Framed frame slots store) (zero : env 0 ≡ 0) (hx : env 5 < 2 ^ 32)
    (hy : env 6 < 2 ^ 32) where
  arithmetic_decided : (op : Binary) (c d : Operand) (at : Place)
      → Decided (arithmetic op c d (env 5) (env 6) at) store
      (Computes m i (arithmetic_code op c d) env)
  arithmetic_decided op c d at =
      let u = is_unsigned c || (not (is_shift (group op)) && is_unsigned d) in
      outcome_decided (binary_word op u (env 5) (env 6)) at store
      (Computes m i (word_code op u) env)
      (λ v e. word_computes m i env op u v zero hx hy e)

  words_decided : (op : Binary) (at : Place)
      → Decided (outcome (binary_word op true (env 5) (env 6)) at) store
      (Computes m i (word_code op true) env)
  words_decided op at =
      outcome_decided (binary_word op true (env 5) (env 6)) at store
      (Computes m i (word_code op true) env)
      (λ v e. word_computes m i env op true v zero hx hy e)

  compared_decided : (op : Binary) (at : Place)
      → Decided (compared op (env 5) (env 6) at) store (Computes m i (word_code op true) env)
  compared_decided op at = by_order (is_order (group op))
    where
      y : ℤ
      y = pos (env 5)

      z : ℤ
      z = pos (env 6)

      rest : Run ℕ
      rest = outcome (binary_word op true (env 5) (env 6)) at

      by_along : (b : Bool)
          → Decided (λ s n. ((if b then pure (env 5) else undefined NotAlong at) >> rest) s n)
          store (Computes m i (word_code op true) env)
      by_along true = words_decided op at
      by_along false = inl (λ n. tt)

      by_order : (b : Bool)
          → Decided (if b then along y z (env 5) at >> rest else rest) store
          (Computes m i (word_code op true) env)
      by_order true = by_along (are_along y z store.live)
      by_order false = words_decided op at

  -- elements as bytes
  scale : (size rd : ℕ) → 0 < rd → rd < 28 → size < 2 ^ 32
      → Takes m i (scaled size rd) env (with_env rd (product (env rd) size) (with_env 28 size env))
  scale size rd positive small fits =
      let first = constant_takes m i 28 size env zero (omega arith) (omega arith) fits in
      let e1 : with_env 28 size env rd ≡ env rd = ap (λ b. if b then size else env rd) (not_28 rd small) in
      let e : product (with_env 28 size env rd) (with_env 28 size env 28) ≡ product (env rd) size = ap (λ a. product a size) e1 in
      takes_append m (constant 28 size) (instr.Mul rd rd 28 ∷ []) i env (with_env 28 size env)
      (with_env rd (product (env rd) size) (with_env 28 size env)) first
      (((positive, omega arith), tt), ap (λ a. with_env rd a (with_env 28 size env)) e)
    where
      not_28 : (rd : ℕ) → rd < 28 → (rd == 28) ≡ false
      not_28 rd h = let ne : rd ≢ 28 = omega arith in eq_false rd 28 ne

  -- the pointer in register 5 and the elements in register 6
  scaled_computes : (last : Instr) (size v w : ℕ) → size < 2 ^ 31 → v < 2 ^ 32
      → (let env1 = with_env 6 (product (env 6) size) (with_env 28 size env) in
      Takes m (i + length (scaled size 6)) (last ∷ []) env1 (with_env 5 w env1)) → w ≡ v
      → Computes m i (scaled size 6 ++ last ∷ []) env v
  scaled_computes last size v w fits small t e =
      let env1 = with_env 6 (product (env 6) size) (with_env 28 size env) in
      record {
        left = with_env 5 w env1;
        takes = takes_append m (scaled size 6) (last ∷ []) i env env1 (with_env 5 w env1)
            (scale size 6 (omega arith) (omega arith) (omega arith)) t;
        value = e;
        fits = small;
        zero_still = refl;
        stack_still = refl;
        address_still = refl;
        old_still = refl;
      }

  plus_computes : (size v : ℕ) → size < 2 ^ 31 → v < 2 ^ 32
      → sum_of (env 5) (product (env 6) size) ≡ v
      → Computes m i (scaled size 6 ++ instr.Add 5 5 6 ∷ []) env v
  plus_computes size v fits small e = scaled_computes (instr.Add 5 5 6) size v _ fits small (((omega arith, omega arith), tt), refl) e

  minus_computes : (size v : ℕ) → size < 2 ^ 31 → v < 2 ^ 32
      → difference_of (env 5) (product (env 6) size) ≡ v
      → Computes m i (scaled size 6 ++ instr.Sub 5 5 6 ∷ []) env v
  minus_computes size v fits small e = scaled_computes (instr.Sub 5 5 6) size v _ fits small (((omega arith, omega arith), tt), refl) e

  -- the elements in register 5 and the pointer in register 6
  turned_computes : (size v : ℕ) → size < 2 ^ 31 → v < 2 ^ 32
      → sum_of (env 6) (product (env 5) size) ≡ v
      → Computes m i (scaled size 5 ++ instr.Add 5 5 6 ∷ []) env v
  turned_computes size v fits small e =
      let t = product (env 5) size in
      let env1 = with_env 5 (product (env 5) size) (with_env 28 size env) in
      let swap : sum_of (product (env 5) size) (env 6) ≡ sum_of (env 6) (product (env 5) size) = swapped (product (env 5) size) (env 6) in
      record {
        left = with_env 5 (sum_of (product (env 5) size) (env 6)) env1;
        takes = takes_append m (scaled size 5) (instr.Add 5 5 6 ∷ []) i env env1
            (with_env 5 (sum_of (product (env 5) size) (env 6)) env1)
            (scale size 5 (omega arith) (omega arith) (omega arith))
            (((omega arith, omega arith), tt), refl);
        value = swap ∙ e;
        fits = small;
        zero_still = refl;
        stack_still = refl;
        address_still = refl;
        old_still = refl;
      }
    where
      swapped : (a b : ℕ) → sum_of a b ≡ sum_of b a
      swapped a b = omega arith

  -- two pointers
  distance_computes : (size v : ℕ) → size < 2 ^ 31 → v < 2 ^ 32
      → signed_quotient (difference_of (env 5) (env 6)) size ≡ v
      → Computes m i (instr.Sub 5 5 6 ∷ (constant 28 size ++ (instr.Div 5 5 28 ∷ []))) env v
  distance_computes size v fits small e =
      let env1 = with_env 5 (difference_of (env 5) (env 6)) env in
      let env2 = with_env 28 size env1 in
      let env3 = with_env 5 (signed_quotient (difference_of (env 5) (env 6)) size) env2 in
      let rest = takes_append m (constant 28 size) (instr.Div 5 5 28 ∷ []) (i + 1) env1 env2 env3 (constant_takes m (i + 1) 28 size env1 zero (omega arith) (omega arith) (omega arith)) (((omega arith, omega arith), tt), refl) in
      record {
        left = env3;
        takes = (((omega arith, omega arith), rest.0), rest.1);
        value = e;
        fits = small;
        zero_still = refl;
        stack_still = refl;
        address_still = refl;
        old_still = refl;
      }

  -- an address along the object of another
  moved_decided : (xs : List Instr) (p : ℕ) (z : ℤ) (at : Place)
      → ((n : ℕ) → n < 2 ^ 32 → pos p +ℤ z ≡ pos n → Computes m i xs env n)
      → Decided (along (pos p) (pos p +ℤ z) (nat_abs (pos p +ℤ z)) at) store (Computes m i xs env)
  moved_decided xs p z at h =
      along_decided (pos p) (pos p +ℤ z) (nat_abs (pos p +ℤ z)) at store (Computes m i xs env)
      (λ e.
      let a = along_inside store.live (pos p) (pos p +ℤ z) f.inside e in
      let high = a.1.high in
      subst (Computes m i xs env) (sym (ap nat_abs a.1.is)) (h a.1.at (omega arith) a.1.is))

  plus_decided : (size : ℕ) (d : Operand) (at : Place) → size < 2 ^ 31
      → Decided (moved size (amount d (env 6)) (env 5) at) store
      (Computes m i (scaled size 6 ++ instr.Add 5 5 6 ∷ []) env)
  plus_decided size d at fits =
      moved_decided (scaled size 6 ++ instr.Add 5 5 6 ∷ []) (env 5)
      (amount d (env 6) *ℤ pos size) at
      (λ n small e. plus_computes size n fits small
      (plus_moves d (env 5) (env 6) size n hy e small))

  turned_decided : (size : ℕ) (c : Operand) (at : Place) → size < 2 ^ 31
      → Decided (moved size (amount c (env 5)) (env 6) at) store
      (Computes m i (scaled size 5 ++ instr.Add 5 5 6 ∷ []) env)
  turned_decided size c at fits =
      moved_decided (scaled size 5 ++ instr.Add 5 5 6 ∷ []) (env 6)
      (amount c (env 5) *ℤ pos size) at
      (λ n small e. turned_computes size n fits small
      (plus_moves c (env 6) (env 5) size n hx e small))

  minus_decided : (size : ℕ) (d : Operand) (at : Place) → size < 2 ^ 31
      → Decided (moved size (neg_ℤ (amount d (env 6))) (env 5) at) store
      (Computes m i (scaled size 6 ++ instr.Sub 5 5 6 ∷ []) env)
  minus_decided size d at fits =
      moved_decided (scaled size 6 ++ instr.Sub 5 5 6 ∷ []) (env 5)
      (neg_ℤ (amount d (env 6)) *ℤ pos size) at
      (λ n small e. minus_computes size n fits small
      (minus_moves d (env 5) (env 6) size n hx hy e small))

  distance_decided : (size : ℕ) (at : Place) → 0 < size → size < 2 ^ 31
      → Decided (distance size (env 5) (env 6) at) store
      (Computes m i (instr.Sub 5 5 6 ∷ (constant 28 size ++ (instr.Div 5 5 28 ∷ []))) env)
  distance_decided size at positive fits =
      let z = int_div (pos (env 5) -ℤ pos (env 6)) (pos size) in
      along_decided (pos (env 5)) (pos (env 6)) (cast_unsigned w32 z) at store
      (Computes m i (instr.Sub 5 5 6 ∷ (constant 28 size ++ (instr.Div 5 5 28 ∷ []))) env)
      (λ e.
      let a = along_inside store.live (pos (env 5)) (pos (env 6)) f.inside e in
      let hp = is_at (env 5) a.0 in
      let hq = is_at (env 6) a.1 in
      distance_computes size (cast_unsigned w32 z) fits
      (small_word z (fits_mag z (elements_fit (env 5) (env 6) size hp hq)))
      (elements_are (env 5) (env 6) size hp hq positive fits))
    where
      is_at : (x : ℕ) → IsAddress (pos x) → x ≤ STACK_TO
      is_at x a = let h = a.high in let e : x ≡ a.at = ap nat_abs a.is in omega arith

  sum_decided : (op : Binary) (c d : Operand) (at : Place) → OperandFits c → OperandFits d
      → Decided (sum op c d (env 5) (env 6) at) store (Computes m i (sum_code op c d) env)
  sum_decided op (Pointer size) d at hc hd = plus_decided size d at hc.1
  sum_decided op Signed (Pointer size) at hc hd = turned_decided size Signed at hd.1
  sum_decided op Unsigned (Pointer size) at hc hd = turned_decided size Unsigned at hd.1
  sum_decided op Signed Signed at hc hd = arithmetic_decided op Signed Signed at
  sum_decided op Signed Unsigned at hc hd = arithmetic_decided op Signed Unsigned at
  sum_decided op Unsigned Signed at hc hd = arithmetic_decided op Unsigned Signed at
  sum_decided op Unsigned Unsigned at hc hd = arithmetic_decided op Unsigned Unsigned at

  difference_decided : (op : Binary) (c d : Operand) (at : Place) → OperandFits c → OperandFits d
      → Decided (difference op c d (env 5) (env 6) at) store
      (Computes m i (difference_code op c d) env)
  difference_decided op (Pointer size) (Pointer other) at hc hd = distance_decided size at hc.0 hc.1
  difference_decided op (Pointer size) Signed at hc hd = minus_decided size Signed at hc.1
  difference_decided op (Pointer size) Unsigned at hc hd = minus_decided size Unsigned at hc.1
  difference_decided op Signed d at hc hd = arithmetic_decided op Signed d at
  difference_decided op Unsigned d at hc hd = arithmetic_decided op Unsigned d at

  other_decided : (op : Binary) (c d : Operand) (at : Place)
      → Decided (other_act op c d (env 5) (env 6) at) store (Computes m i (other_code op c d) env)
  other_decided op (Pointer size) d at = compared_decided op at
  other_decided op Signed d at = arithmetic_decided op Signed d at
  other_decided op Unsigned d at = arithmetic_decided op Unsigned d at

  group_decided : (g : Group) (op : Binary) (c d : Operand) (at : Place) → OperandFits c
      → OperandFits d
      → Decided (group_act g op c d (env 5) (env 6) at) store
      (Computes m i (group_code g op c d) env)
  group_decided by.Sum op c d at hc hd = sum_decided op c d at hc hd
  group_decided by.Difference op c d at hc hd = difference_decided op c d at hc hd
  group_decided g op c d at hc hd = other_decided op c d at

  -- an operator between two values, in registers 5 and 6
  pub binary_decided : (op : Binary) (c d : Operand) (at : Place) → OperandFits c → OperandFits d
      → Decided (binary_act op c d (env 5) (env 6) at) store (Computes m i (binary_code op c d) env)
  binary_decided op c d at hc hd = group_decided (group op) op c d at hc hd

-- an operator on one value, in register 5
pub unary_decided : (m : List ℕ) (i : ℕ) (env : Env) (store : Store) → env 0 ≡ 0
    → env 5 < 2 ^ 32 → (op : Unary) (u : Bool) (at : Place)
    → Decided (outcome (unary_word op u (env 5)) at) store (Computes m i (unary_code op) env)
unary_decided m i env store zero hx op u at =
    outcome_decided (unary_word op u (env 5)) at store (Computes m i (unary_code op) env)
    (λ v e. unary_computes m i env op u v zero hx e)
