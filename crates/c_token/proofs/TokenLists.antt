-- Lists, a byte at a time.
use Rattle.std.proofs.Common.{List, [], add-one, ap, append_assoc, ap₂, arith, drop, drop-cons, eqb-true, false, get_or, length, length-drop, refl, suc, sym, take, take_all, true, true≢false, zero, ℕ, ◌++◌, ◌+◌, ◌-◌, ◌<◌, ◌∙◌, ◌∷◌, ◌≡◌, ◌≤◌}
use Rattle.std.proofs.lemmas.List.{take_more}
use Rattle.std.specs.Prelude.{nat_eq}
use Rattle.c_token.specs.Bytes.{first}

pub false_true : {P : Type 0} → false ≡ true → P
false_true h = absurd (true≢false (sym h))

pub drop_step : (xs : List ℕ) (i : ℕ) → i < length xs → drop i xs ≡ get_or xs i 0 ∷ drop (i + 1) xs
drop_step xs i h = rw (add-one, drop-cons xs i 0)

pub take_two : (xs : List ℕ) (i a b : ℕ) → i + 1 < length xs → get_or xs i 0 ≡ a
    → get_or xs (i + 1) 0 ≡ b → take (i + 2) xs ≡ take i xs ++ a ∷ b ∷ []
take_two xs i a b lt x y =
    let e : i + 2 ≡ (i + 1) + 1 = omega arith in
    ap (λ n. take n xs) e ∙ take_more xs (i + 1) 0 lt ∙ ap₂ (λ u v. u ++ v ∷ []) (take_more xs i 0 (omega arith)) y ∙ append_assoc (take i xs) (get_or xs i 0 ∷ []) (b ∷ []) ∙ ap (λ u. take i xs ++ u ∷ b ∷ []) x

-- a part from an index on
pub back : (xs : List ℕ) (n : ℕ) → take (length xs - n) (drop n xs) ≡ drop n xs
back xs n = take_all (length xs - n) (drop n xs) (omega (arith, length-drop n xs))

pub uncons : (rest : List ℕ) → 0 < length rest → rest ≡ first rest ∷ drop 1 rest
uncons [] h = absurd (omega (arith, h))
uncons (x ∷ xs) h = refl

pub first_front : (bytes behind : List ℕ) → 0 < length bytes → first (bytes ++ behind) ≡ first bytes
first_front [] behind h = absurd (omega arith)
first_front (b ∷ bytes) behind h = refl

pub some_first : (bytes : List ℕ) (n : ℕ) → nat_eq (first bytes) (suc n) ≡ true → 0 < length bytes
some_first [] n h = let e : 0 ≡ suc n = eqb-true 0 (suc n) h in absurd (omega arith)
some_first (b ∷ bytes) n h = omega arith

pub take_one : (rest : List ℕ) → 0 < length rest → take 1 rest ≡ first rest ∷ []
take_one [] some = absurd (omega (arith, some))
take_one (b ∷ rest) some = refl

pub first_take : (n : ℕ) (rest : List ℕ) → 0 < n → first (take n rest) ≡ first rest
first_take zero rest h = absurd (omega arith)
first_take (suc n) [] h = refl
first_take (suc n) (x ∷ xs) h = refl

pub no_length : (xs : List ℕ) → length xs ≤ 0 → xs ≡ []
no_length [] h = refl
no_length (x ∷ xs) h = absurd (omega (arith, h))
