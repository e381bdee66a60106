-- Character constants at the front of a text.
use Rattle.std.proofs.Common.{List, None, Option, Some, [], ap, append_assoc, ap₂, arith, drop, eq-eqb, eqb-true, get_or, le-leb, length, length-append, refl, suc, sym, take, take_at, true, ℕ, ◌++◌, ◌+◌, ◌-◌, ◌<◌, ◌∙◌, ◌∷◌, ◌≡◌, ◌≤◌}
use Rattle.std.proofs.lemmas.Bool.{and_from, and_parts, cond-true, leb-true, or_right}
use Rattle.std.proofs.lemmas.List.{get_or_at, take_more}
use Rattle.std.specs.Char.{is_ascii_digit}
use Rattle.std.specs.Prelude.{Err, Ok, nat_eq, nat_le}
use Rattle.c_token.specs.Bytes.{first}
use Rattle.c_token.specs.private.Fronts.{Takes, TakesNone}
use Rattle.c_token.specs.private.Lexemes.{IsLexeme}
use Rattle.c_token.specs.private.Quotes.{IsCharacter, character_in, has_quotes, quoted}
use Rattle.c_token.specs.private.SignForms.{three}
use Rattle.c_token.proofs.ConstantWords.{constant_digit}
use Rattle.c_token.proofs.Escapes.{is_quoted}
use Rattle.c_token.proofs.Families.{family, quote_family, some_bytes}
use Rattle.c_token.proofs.TokenLists.{false_true, first_front}
use Rattle.c_token.proofs.QuotesLemmas.{one_quote, quoted_length, some_is_none, some_then}
use Rattle.c_token.specs.declared.lexeme.Lexeme.TheVariants as l
use Rattle.c_token.specs.declared.lexeme.BadToken.TheVariants as bad
use Rattle.c_token.specs.Spelling.Spells.{character}

pub character_found : (rest : List ℕ) (v n : ℕ) → Takes (IsCharacter v) rest n
    → IsLexeme rest (Ok (l.Character v, n))
character_found rest v n is =
    let front : List ℕ = take n rest in
    let inside : List ℕ = is.2.inside in
    let head : nat_eq (first front) 39 ≡ true = ap (λ l. nat_eq (first l) 39) is.2.parts in (
      is.0,
      is.1,
      record {
        spelled = character inside v is.2.parts (is_quoted inside v is.2.value_is);
        longest = λ more behind kind splits some spells.
            let e : front ++ more ≡ 39 ∷ ((inside ++ 39 ∷ []) ++ more) = ap (λ l. l ++ more) is.2.parts in
            let q = quote_family (front ++ more) kind (family (front ++ more) kind spells) (ap (λ l. nat_eq (first l) 39) e) in
            let f : (inside ++ 39 ∷ []) ++ more ≡ q.1 ++ 39 ∷ [] = ap (drop 1) (sym e ∙ q.2) in
            let none : more ≡ [] = one_quote inside q.1 more v q.0 is.2.value_is q.3 (sym (append_assoc inside (39 ∷ []) more) ∙ f) in
            omega (arith, some, ap length none);
        apart = λ digit. false_true (ap (λ l. is_ascii_digit (first l)) (sym is.2.parts) ∙ digit);
      },
    )

pub character_fails : (rest : List ℕ) → nat_eq (first rest) 39 ≡ true
    → ((v : ℕ) → TakesNone (IsCharacter v) rest) → IsLexeme rest (Err bad.Character)
character_fails rest begins none = (
  λ bytes behind splits s.
      let f = family bytes s.kind s.spelled in
      let head : first rest ≡ first bytes = ap first splits ∙ first_front bytes behind (some_bytes bytes s.kind f) in
      let q = quote_family bytes s.kind f (ap (λ b. nat_eq b 39) (sym head) ∙ begins) in
      none q.0 bytes behind splits (record { inside = q.1; parts = q.2; value_is = q.3 }),
  (
    or_right (is_ascii_digit (first rest)) (nat_eq (first rest) 39) begins,
    λ large.
        let d = constant_digit large.bytes large.constant large.spelled in
        let head : first rest ≡ first large.bytes = ap first large.splits ∙ first_front large.bytes large.behind d.0 in
        false_true (ap is_ascii_digit (sym (eqb-true (first rest) 39 begins)) ∙ ap is_ascii_digit head ∙ d.1),
  ),
)

enclosed : (rest : List ℕ) (n : ℕ) → 3 ≤ n → n ≤ length rest → get_or rest 0 0 ≡ 39
    → get_or rest (n - 1) 0 ≡ 39 → take n rest ≡ 39 ∷ take (n - 2) (drop 1 rest) ++ 39 ∷ []
enclosed [] n three le a b = absurd (omega (arith, three, le))
enclosed (x ∷ xs) n three le a b =
    let m : ℕ = n - 2 in
    let e : n ≡ suc (m + 1) = omega arith in
    let f : n - 1 ≡ suc m = omega arith in
    let last : get_or xs m 0 ≡ 39 = ap (λ i. get_or (x ∷ xs) i 0) (sym f) ∙ b in
    ap (λ i. take i (x ∷ xs)) e ∙ ap₂ (λ u l. u ∷ l) a (take_more xs m 0 (omega (arith, three, le)) ∙ ap (λ u. take m xs ++ u ∷ []) last)

pub in_some : (rest : List ℕ) (n v : ℕ) → 3 ≤ n → Some v ≡ character_in rest n
    → Takes (IsCharacter v) rest n
in_some rest n v three h =
    let t : has_quotes rest n ≡ true = some_then (has_quotes rest n) _ v (sym h) in
    let p = and_parts (nat_le n (length rest)) _ t in
    let q = and_parts (nat_eq (get_or rest 0 0) 39) (nat_eq (get_or rest (n - 1) 0) 39) p.1 in
    let le : n ≤ length rest = leb-true n (length rest) p.0 in (
      omega arith,
      le,
      record {
        inside = take (n - 2) (drop 1 rest);
        parts = enclosed rest n three le (eqb-true _ 39 q.0) (eqb-true _ 39 q.1);
        value_is = sym (cond-true _ _ _ t) ∙ sym h;
      },
    )

pub in_from : (rest : List ℕ) (n : ℕ) → 3 ≤ n → n ≤ length rest → get_or rest 0 0 ≡ 39
    → get_or rest (n - 1) 0 ≡ 39 → (r : Option ℕ) → r ≡ quoted (take (n - 1 - 1) (drop 1 rest))
    → r ≡ character_in rest n
in_from rest n three le a b r h =
    let e : n - 1 - 1 ≡ n - 2 = omega arith in
    h ∙ ap (λ i. quoted (take i (drop 1 rest))) e ∙ sym (cond-true _ _ _ (and_from (nat_le n (length rest)) _ (le-leb n (length rest) le) (and_from (nat_eq (get_or rest 0 0) 39) _ (eq-eqb _ 39 a) (eq-eqb _ 39 b))))

in_back : (inside behind : List ℕ)
    → character_in ((39 ∷ inside ++ 39 ∷ []) ++ behind) (length inside + 2) ≡ quoted inside
in_back inside behind =
    let rest : List ℕ = (inside ++ 39 ∷ []) ++ behind in
    let n : ℕ = length inside in
    let flat : rest ≡ inside ++ 39 ∷ behind = append_assoc inside (39 ∷ []) behind in
    let le : n + 2 ≤ length (39 ∷ rest) = omega (arith, length-append (inside ++ 39 ∷ []) behind, length-append inside (39 ∷ [])) in
    let e : n + 2 - 1 ≡ suc n = omega arith in
    let f : n + 2 - 2 ≡ n = omega arith in
    let last : get_or (39 ∷ rest) (n + 2 - 1) 0 ≡ 39 = ap (λ i. get_or (39 ∷ rest) i 0) e ∙ ap (λ l. get_or l n 0) flat ∙ get_or_at inside 39 behind 0 n refl in
    cond-true _ _ _ (and_from (nat_le (n + 2) (length (39 ∷ rest))) _ (le-leb (n + 2) (length (39 ∷ rest)) le) (and_from true _ refl (eq-eqb _ 39 last)))
    ∙ ap₂ (λ i l. quoted (take i l)) f flat ∙ ap quoted (take_at inside (39 ∷ behind) n refl)

pub none_in : (rest : List ℕ) → ((k : ℕ) → 3 ≤ k → k < 7 → character_in rest k ≡ None) → (v : ℕ)
    → TakesNone (IsCharacter v) rest
none_in rest h v bytes behind splits is =
    let n = quoted_length is.inside v is.value_is in
    let e : rest ≡ (39 ∷ is.inside ++ 39 ∷ []) ++ behind = splits ∙ ap (λ l. l ++ behind) is.parts in
    some_is_none v (sym is.value_is ∙ sym (in_back is.inside behind) ∙ sym (ap (λ l. character_in l (length is.inside + 2)) e) ∙ h (length is.inside + 2) (omega (arith, n.0)) (omega (arith, n.1)))
