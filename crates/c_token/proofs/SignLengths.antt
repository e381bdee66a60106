-- The longest sign at the front.
use Rattle.std.proofs.Common.{List, [], arith, length, take, true, ℕ, ◌++◌, ◌<◌, ◌∷◌, ◌≡◌, ◌≤◌}
use Rattle.std.proofs.lemmas.Bool.{cond-true, cond_both}
use Rattle.c_token.specs.private.SignForms.{has_form, one, sign_len, three, two}
use Rattle.c_token.proofs.TokenLists.{false_true}

-- no sign at the front is longer than the longest
one_longest : (a : ℕ) → has_form (a ∷ []) ≡ true → one a ≡ 1
one_longest a h = cond-true _ _ _ h

two_least : (a b : ℕ) → has_form (a ∷ []) ≡ true → 1 ≤ two a b
two_least a b h = let P : ℕ → Type 0 = λ n. 1 ≤ n in cond_both (has_form (a ∷ b ∷ [])) 2 (one a) P (λ _. omega arith) (λ _. omega (arith, one_longest a h))

three_least : (a b c n : ℕ) → n ≤ two a b → two a b ≤ 3 → n ≤ three a b c
three_least a b c n le most = let P : ℕ → Type 0 = λ m. n ≤ m in cond_both (has_form (a ∷ b ∷ c ∷ [])) 3 (two a b) P (λ _. omega (arith, le, most)) (λ _. le)

one_most : (a : ℕ) → one a ≤ 1
one_most a = let P : ℕ → Type 0 = λ n. n ≤ 1 in cond_both (has_form (a ∷ [])) 1 0 P (λ _. omega arith) (λ _. omega arith)

two_most : (a b : ℕ) → two a b ≤ 2
two_most a b = let P : ℕ → Type 0 = λ n. n ≤ 2 in cond_both (has_form (a ∷ b ∷ [])) 2 (one a) P (λ _. omega arith) (λ _. omega (arith, one_most a))

pub sign_longest : (bytes behind : List ℕ) → has_form bytes ≡ true
    → length bytes ≤ sign_len (bytes ++ behind)
sign_longest [] behind h = false_true h
sign_longest (a ∷ []) [] h = omega (arith, one_longest a h)
sign_longest (a ∷ []) (b ∷ []) h = two_least a b h
sign_longest (a ∷ []) (b ∷ c ∷ xs) h = three_least a b c 1 (two_least a b h) (omega (arith, two_most a b))
sign_longest (a ∷ b ∷ []) [] h = let e : two a b ≡ 2 = cond-true _ _ _ h in omega (arith, e)
sign_longest (a ∷ b ∷ []) (c ∷ xs) h = let e : two a b ≡ 2 = cond-true _ _ _ h in three_least a b c 2 (omega (arith, e)) (omega (arith, two_most a b))
sign_longest (a ∷ b ∷ c ∷ []) behind h = let e : three a b c ≡ 3 = cond-true _ _ _ h in omega (arith, e)
sign_longest (a ∷ b ∷ c ∷ d ∷ xs) behind h = false_true h

-- the longest one is a sign
one_is : (a : ℕ) (xs : List ℕ) → 0 < one a → has_form (take (one a) (a ∷ xs)) ≡ true
one_is a xs = let P : ℕ → Type 0 = λ n. 0 < n → has_form (take n (a ∷ xs)) ≡ true in cond_both (has_form (a ∷ [])) 1 0 P (λ e _. e) (λ _ h. absurd (omega (arith, h)))

two_is : (a b : ℕ) (xs : List ℕ) → 0 < two a b → has_form (take (two a b) (a ∷ b ∷ xs)) ≡ true
two_is a b xs = let P : ℕ → Type 0 = λ n. 0 < n → has_form (take n (a ∷ b ∷ xs)) ≡ true in cond_both (has_form (a ∷ b ∷ [])) 2 (one a) P (λ e _. e) (λ _ h. one_is a (b ∷ xs) h)

three_is : (a b c : ℕ) (xs : List ℕ) → 0 < three a b c
    → has_form (take (three a b c) (a ∷ b ∷ c ∷ xs)) ≡ true
three_is a b c xs = let P : ℕ → Type 0 = λ n. 0 < n → has_form (take n (a ∷ b ∷ c ∷ xs)) ≡ true in cond_both (has_form (a ∷ b ∷ c ∷ [])) 3 (two a b) P (λ e _. e) (λ _ h. two_is a b (c ∷ xs) h)

pub sign_is : (rest : List ℕ) → 0 < sign_len rest → has_form (take (sign_len rest) rest) ≡ true
sign_is [] h = absurd (omega (arith, h))
sign_is (a ∷ []) h = one_is a [] h
sign_is (a ∷ b ∷ []) h = two_is a b [] h
sign_is (a ∷ b ∷ c ∷ xs) h = three_is a b c xs h

three_most : (a b c : ℕ) → three a b c ≤ 3
three_most a b c = let P : ℕ → Type 0 = λ n. n ≤ 3 in cond_both (has_form (a ∷ b ∷ c ∷ [])) 3 (two a b) P (λ _. omega arith) (λ _. omega (arith, two_most a b))

pub sign_fits : (rest : List ℕ) → sign_len rest ≤ length rest
sign_fits [] = omega arith
sign_fits (a ∷ []) = one_most a
sign_fits (a ∷ b ∷ []) = two_most a b
sign_fits (a ∷ b ∷ c ∷ xs) = omega (arith, three_most a b c)
