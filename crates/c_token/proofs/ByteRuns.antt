-- The longest front of bytes that pass.
use Rattle.std.proofs.Common.{Bool, List, [], ap, ap₂, arith, drop, drop_at, false, inl, inr, length, one-add, refl, sym, take, take_at, true, ℕ, ⊎_elim, ◌++◌, ◌+◌, ◌<◌, ◌∙◌, ◌∷◌, ◌≡◌, ◌⊎◌}
use Rattle.std.proofs.lemmas.Bool.{and_parts, cases_Bool, cond-false, cond-true}
use Rattle.std.proofs.lemmas.List.Sums.{prefix_len-le-length}
use Rattle.std.specs.List.{list_all, prefix_len}
use Rattle.c_token.specs.Bytes.{first, is_blank, is_word}
use Rattle.c_token.specs.Comments.{EndsLine, is_in_line}
use Rattle.c_token.specs.Directives.{AreBlanks}
use Rattle.c_token.proofs.TokenLists.{false_true}

pub ruleset runs = (prefix_len-le-length)

-- the longest front of bytes that pass
pub run_all : (p : ℕ → Bool) (xs : List ℕ) → list_all p (take (prefix_len p xs) xs) ≡ true
run_all p [] = refl
run_all p (x ∷ xs) = ⊎_elim (λ (e : p x ≡ true). rw (e, one-add, e) (run_all p xs)) (λ (e : p x ≡ false). rw e refl) (cases_Bool (p x))

pub run_ends : (p : ℕ → Bool) (xs : List ℕ)
    → (drop (prefix_len p xs) xs ≡ []) ⊎ (p (first (drop (prefix_len p xs) xs)) ≡ false)
run_ends p [] = inl refl
run_ends p (x ∷ xs) = ⊎_elim (λ (e : p x ≡ true). rw (e, one-add) (run_ends p xs)) (λ (e : p x ≡ false). rw e (inr e)) (cases_Bool (p x))

pub run_stops : (p : ℕ → Bool) → p 0 ≡ false → (xs : List ℕ)
    → p (first (drop (prefix_len p xs) xs)) ≡ false
run_stops p none xs = ⊎_elim (λ e. ap (λ l. p (first l)) e ∙ none) (λ e. e) (run_ends p xs)

stops_at : (p : ℕ → Bool) (behind : List ℕ) → p (first behind) ≡ false → prefix_len p behind ≡ 0
stops_at p [] h = refl
stops_at p (y ∷ ys) h = cond-false _ _ _ h

pub run_is : (p : ℕ → Bool) (bytes behind : List ℕ) → list_all p bytes ≡ true
    → p (first behind) ≡ false → prefix_len p (bytes ++ behind) ≡ length bytes
run_is p [] behind all stops = stops_at p behind stops
run_is p (x ∷ xs) behind all stops =
    let parts = and_parts (p x) (list_all p xs) all in
    let e : prefix_len p (x ∷ (xs ++ behind)) ≡ 1 + prefix_len p (xs ++ behind) = cond-true _ _ _ parts.0 in
    omega (arith, e, run_is p xs behind parts.1 stops)

pub first_passes : (p : ℕ → Bool) (more : List ℕ) → 0 < length more → list_all p more ≡ true
    → p (first more) ≡ true
first_passes p [] some h = absurd (omega arith)
first_passes p (x ∷ xs) some h = (and_parts (p x) (list_all p xs) h).0

pub run_some : (rest : List ℕ) → is_word (first rest) ≡ true → 0 < prefix_len is_word rest
run_some [] h = false_true h
run_some (x ∷ xs) h = let e : prefix_len is_word (x ∷ xs) ≡ 1 + prefix_len is_word xs = cond-true _ _ _ h in omega (arith, e)

-- a line is the longest run of bytes up to its end
pub line_is : (bytes behind : List ℕ) → list_all is_in_line bytes ≡ true → EndsLine behind
    → prefix_len is_in_line (bytes ++ behind) ≡ length bytes
line_is [] [] all ends = refl
line_is [] (y ∷ ys) all ends = ⊎_elim (λ e. absurd (omega (arith, ap length e))) (λ (e : y ≡ 10). ap (λ x. prefix_len is_in_line (x ∷ ys)) e) ends
line_is (x ∷ xs) behind all ends =
    let parts = and_parts (is_in_line x) (list_all is_in_line xs) all in
    let e : prefix_len is_in_line (x ∷ (xs ++ behind)) ≡ 1 + prefix_len is_in_line (xs ++ behind) = cond-true _ _ _ parts.0 in
    omega (arith, e, line_is xs behind parts.1 ends)

pub line_taken : (rest bytes behind : List ℕ) → rest ≡ bytes ++ behind
    → list_all is_in_line bytes ≡ true → EndsLine behind
    → bytes ≡ take (prefix_len is_in_line rest) rest
line_taken rest bytes behind splits all ends =
    let e : prefix_len is_in_line rest ≡ length bytes = ap (prefix_len is_in_line) splits ∙ line_is bytes behind all ends in
    sym (ap₂ (λ n l. take n l) e splits ∙ take_at bytes behind (length bytes) refl)

pub some_len : (rest : List ℕ) → first rest ≡ 35 → 0 < prefix_len is_in_line rest
some_len [] h = absurd (omega (arith, h))
some_len (x ∷ xs) h = let e : prefix_len is_in_line (x ∷ xs) ≡ 1 + prefix_len is_in_line xs = cond-true _ _ _ (ap is_in_line h) in omega (arith, e)

pub blanks_gone : (blanks x : List ℕ) → AreBlanks blanks → is_blank (first x) ≡ false
    → drop (prefix_len is_blank (blanks ++ x)) (blanks ++ x) ≡ x
blanks_gone blanks x all stops = ap (λ n. drop n (blanks ++ x)) (run_is is_blank blanks x all stops) ∙ drop_at blanks x (length blanks) refl
