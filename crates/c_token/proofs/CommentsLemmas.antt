-- Comments at the front of a text.
use Rattle.std.proofs.Common.{List, [], ap, append_assoc, ap₂, arith, drop, eqb-true, false, get_or, get_or-take, inl, inr, length, length-take-le, one-add, refl, subst, suc, sym, take, true, ℕ, ⊎_elim, ◌++◌, ◌+◌, ◌-◌, ◌<◌, ◌∙◌, ◌∷◌, ◌≡◌, ◌≤◌, ◌⊎◌}
use Rattle.std.proofs.lemmas.Bool.{and_parts, both_ways, not-false, or_cases, or_right}
use Rattle.std.proofs.lemmas.List.Sums.{prefix_len-le-length}
use Rattle.std.specs.List.{prefix_len}
use Rattle.std.specs.Prelude.{nat_eq, ◌&&◌, ◌||◌}
use Rattle.c_token.specs.private.Lines.{IsClosed}
use Rattle.c_token.specs.Bytes.{first}
use Rattle.c_token.specs.Comments.{IsComment, has_close, is_in_line, opens_comment}
use Rattle.c_token.specs.private.Fronts.{Takes, TakesNone}
use Rattle.c_token.proofs.TokenLists.{false_true}
use Rattle.c_token.proofs.ByteRuns.{run_all, run_ends}
use Rattle.c_token.specs.Comments.IsComment.{block, line}

-- no `*/` among the first bytes
pub no_close : (xs : List ℕ)
    → ((k : ℕ) → k + 1 < length xs
    → (nat_eq (get_or xs k 0) 42 && nat_eq (get_or xs (k + 1) 0) 47) ≡ false) → has_close xs ≡ false
no_close [] h = refl
no_close (a ∷ []) h = elim (nat_eq a 42) as (λ t. (t && false || false) ≡ false) [ true ↦ refl | false ↦ refl ]
no_close (a ∷ b ∷ xs) h =
    let here : (nat_eq a 42 && nat_eq b 47) ≡ false = h 0 (omega arith) in
    rw here (no_close (b ∷ xs) (λ k lt. let e : suc k + 1 ≡ suc (k + 1) = omega arith in subst (λ j. (nat_eq (get_or (b ∷ xs) k 0) 42 && nat_eq (get_or (a ∷ b ∷ xs) j 0) 47) ≡ false) e (h (suc k) (omega arith))))

pub no_close_front : (xs : List ℕ) (i : ℕ) → i ≤ length xs
    → ((k : ℕ) → k < i → (nat_eq (get_or xs k 0) 42 && nat_eq (get_or xs (k + 1) 0) 47) ≡ false)
    → has_close (take i xs) ≡ false
no_close_front xs i le h =
    no_close (take i xs) (λ k lt.
    let in_front : k + 1 < i = omega (arith, length-take-le i xs le) in
    let a : get_or (take i xs) k 0 ≡ get_or xs k 0 = get_or-take i xs k 0 (omega arith) in
    let b : get_or (take i xs) (k + 1) 0 ≡ get_or xs (k + 1) 0 = get_or-take i xs (k + 1) 0 in_front in
    rw (a, b) (h k (omega arith)))

pub opened : (rest : List ℕ) → opens_comment rest ≡ true
    → (2 ≤ length rest) × (get_or rest 0 0 ≡ 47) × ((get_or rest 1 0 ≡ 42) ⊎ (get_or rest 1 0 ≡ 47))
opened [] h = cc
opened (a ∷ []) h = cc
opened (a ∷ b ∷ xs) h =
    let parts = and_parts (nat_eq a 47) (nat_eq b 42 || nat_eq b 47) h in
    (omega arith, eqb-true a 47 parts.0, ⊎_elim (λ e. inl (eqb-true b 42 e)) (λ e. inr (eqb-true b 47 e)) (or_cases (nat_eq b 42) (nat_eq b 47) parts.1))

pub ruleset comments = (opened)

pub closes : (xs ys : List ℕ) → has_close (xs ++ 42 ∷ 47 ∷ ys) ≡ true
closes [] ys = refl
closes (x ∷ xs) ys = or_right _ _ (closes xs ys)

pub block_found : (rest : List ℕ) (n : ℕ) → opens_comment rest ≡ true → get_or rest 1 0 ≡ 42
    → IsClosed (drop 2 rest) n → Takes IsComment rest (n + 2)
block_found [] n h star closed = false_true h
block_found (a ∷ []) n h star closed = false_true h
block_found (a ∷ b ∷ xs) n h star closed =
    let slash : a ≡ 47 = (opened (a ∷ b ∷ xs) h).1 in
    let e : n + 2 ≡ suc (suc n) = omega arith in
    subst (Takes IsComment (a ∷ b ∷ xs)) (sym e) (omega arith, omega (arith, closed.1), block (take (n - 2) xs) (cc (closed.2, star, slash)) closed.3)

pub block_open : (rest : List ℕ) → opens_comment rest ≡ true → get_or rest 1 0 ≡ 42
    → has_close (drop 2 rest) ≡ false → TakesNone IsComment rest
block_open [] h star none bytes behind splits comment = false_true h
block_open (a ∷ []) h star none bytes behind splits comment = false_true h
block_open (a ∷ b ∷ xs) h star none bytes behind splits comment =
    elim comment [
      | block inside parts unclosed ↦
          let e : xs ≡ (inside ++ 42 ∷ 47 ∷ []) ++ behind = ap (drop 2) (splits ∙ ap (λ l. l ++ behind) parts) in
          let f : has_close xs ≡ true = ap has_close (e ∙ append_assoc inside (42 ∷ 47 ∷ []) behind) ∙ closes inside behind in
          cc (none, f)
      | line inside parts all ends ↦
          let e : b ≡ 47 = ap (λ l. get_or l 1 0) (splits ∙ ap (λ l. l ++ behind) parts) in
          absurd (omega (arith, star, e))
    ]

pub line_found : (rest : List ℕ) (n : ℕ) → opens_comment rest ≡ true → (get_or rest 1 0 ≡ 42 → ⊥)
    → n ≡ prefix_len is_in_line rest → Takes IsComment rest n
line_found [] n h other is = false_true h
line_found (a ∷ []) n h other is = false_true h
line_found (a ∷ b ∷ xs) n h other is =
    let slash : a ≡ 47 = (opened (a ∷ b ∷ xs) h).1 in
    let second : b ≡ 47 = ⊎_elim (λ e. absurd (other e)) (λ e. e) (opened (a ∷ b ∷ xs) h).2 in
    let m : ℕ = prefix_len is_in_line xs in
    let e : n ≡ suc (suc m) = is ∙ ap₂ (λ u v. prefix_len is_in_line (u ∷ v ∷ xs)) slash second ∙ one-add _ ∙ ap suc (one-add _) in
    subst (Takes IsComment (a ∷ b ∷ xs)) (sym e) (
      omega arith,
      omega (arith, prefix_len-le-length is_in_line xs),
      line (take m xs) (cc (slash, second)) (run_all is_in_line xs) (⊎_elim (λ e. inl e) (λ e. inr (eqb-true _ _ (not-false _ e))) (run_ends is_in_line xs)),
    )

-- no comment is there where none opens
pub no_comment : (rest : List ℕ) → opens_comment rest ≡ false → TakesNone IsComment rest
no_comment rest opens bytes behind splits c =
    elim c [
      | block inside parts unclosed ↦ both_ways _ opens (ap opens_comment (splits ∙ ap (λ l. l ++ behind) parts))
      | line inside parts all ends ↦ both_ways _ opens (ap opens_comment (splits ∙ ap (λ l. l ++ behind) parts))
    ]

pub opens_none : (rest : List ℕ) → first rest ≡ 35 → opens_comment rest ≡ false
opens_none [] h = refl
opens_none (a ∷ []) h = refl
opens_none (a ∷ b ∷ xs) h = ap (λ x. nat_eq x 47 && (nat_eq b 42 || nat_eq b 47)) h
