-- Signs at the front of a text.
use Rattle.std.proofs.Common.{List, ap, append_assoc, arith, false, length, length-append, length-take-le, subst, sym, take, take-append-drop, true, ℕ, ◌++◌, ◌<◌, ◌∙◌, ◌≡◌, ◌≤◌}
use Rattle.std.proofs.lemmas.Bool.{both_ways, or_from}
use Rattle.std.specs.Char.{is_ascii_digit}
use Rattle.std.specs.Prelude.{Err, Ok, nat_eq}
use Rattle.c_token.specs.Bytes.{first, is_word}
use Rattle.c_token.specs.private.Lexemes.{IsLexeme}
use Rattle.c_token.specs.private.SignForms.{sign_len}
use Rattle.c_token.specs.Signs.{is_sign}
use Rattle.c_token.proofs.Digits.{digit_word, no_digit}
use Rattle.c_token.proofs.Families.{family, mark_family, some_bytes}
use Rattle.c_token.proofs.TokenLists.{first_front, first_take}
use Rattle.c_token.proofs.SignLengths.{sign_fits, sign_is, sign_longest}
use Rattle.c_token.proofs.SignsLemmas.{form_listed, listed_form}
use Rattle.c_token.specs.declared.lexeme.Lexeme.TheVariants as l
use Rattle.c_token.specs.declared.lexeme.BadToken.TheVariants as bad
use Rattle.c_token.specs.Spelling.Spells.{sign}

pub sign_found : (rest : List ℕ) → is_word (first rest) ≡ false → nat_eq (first rest) 39 ≡ false
    → 0 < sign_len rest → IsLexeme rest (Ok (l.Sign, sign_len rest))
sign_found rest plain no_quote some =
    let n : ℕ = sign_len rest in
    let front : List ℕ = take n rest in
    let length_front : length front ≡ n = length-take-le n rest (sign_fits rest) in (
      some,
      sign_fits rest,
      record {
        spelled = sign (form_listed front (sign_is rest some));
        longest = λ more behind kind splits more_some spells.
            let head : first (front ++ more) ≡ first rest = first_front front more (omega (arith, length_front, some)) ∙ first_take n rest some in
            let s : is_sign (front ++ more) ≡ true = mark_family (front ++ more) kind (family (front ++ more) kind spells) (ap is_word head ∙ plain) (ap (λ b. nat_eq b 39) head ∙ no_quote) in
            let e : (front ++ more) ++ behind ≡ rest = append_assoc front more behind ∙ ap (λ l. front ++ l) (sym splits) ∙ take-append-drop n rest in
            let le : length (front ++ more) ≤ n = subst (λ l. length (front ++ more) ≤ sign_len l) e (sign_longest (front ++ more) behind (listed_form (front ++ more) s)) in
            omega (arith, le, length-append front more, length_front, more_some);
        apart = λ digit. absurd (both_ways _ (ap is_word (first_take n rest some) ∙ plain) (digit_word (first front) digit));
      },
    )

pub sign_fails : (rest : List ℕ) → is_word (first rest) ≡ false → nat_eq (first rest) 39 ≡ false
    → sign_len rest ≡ 0 → IsLexeme rest (Err bad.Byte)
sign_fails rest plain no_quote none = (
  λ bytes behind splits s.
      let f = family bytes s.kind s.spelled in
      let some = some_bytes bytes s.kind f in
      let head : first rest ≡ first bytes = ap first splits ∙ first_front bytes behind some in
      let s2 : is_sign bytes ≡ true = mark_family bytes s.kind f (ap is_word (sym head) ∙ plain) (ap (λ b. nat_eq b 39) (sym head) ∙ no_quote) in
      omega (arith, subst (λ l. length bytes ≤ sign_len l) (sym splits) (sign_longest bytes behind (listed_form bytes s2)), none, some),
  or_from (is_ascii_digit (first rest)) _ (no_digit (first rest) plain) no_quote,
)

pub sign_found_at : (rest : List ℕ) (n : ℕ) → n ≡ sign_len rest → is_word (first rest) ≡ false
    → nat_eq (first rest) 39 ≡ false → (n ≡ 0 → ⊥) → IsLexeme rest (Ok (l.Sign, n))
sign_found_at rest n len plain no_quote some = subst (λ m. IsLexeme rest (Ok (l.Sign, m))) (sym len) (sign_found rest plain no_quote (omega (arith, len, some)))
