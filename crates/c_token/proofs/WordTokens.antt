-- Tokens that begin with a letter, a digit or `_`.
use Rattle.std.proofs.Common.{List, Some, ap, ap₂, arith, drop, false, length, length-take-le, lt-ltb, refl, subst, sym, take, take-append-drop, take_at, true, ℕ, ◌++◌, ◌<◌, ◌∙◌, ◌≡◌, ◌≤◌}
use Rattle.std.proofs.lemmas.Bool.{and_from, and_parts, both_ways, cond_both, not_from_false, or_left}
use Rattle.std.proofs.lemmas.List.Folds.{list_all-append}
use Rattle.std.proofs.lemmas.List.Sums.{prefix_len-le-length}
use Rattle.std.specs.Char.{is_ascii_digit}
use Rattle.std.specs.List.{list_all, prefix_len}
use Rattle.std.specs.Prelude.{Err, Ok, nat_lt}
use Rattle.c_token.specs.Bytes.{first, is_word}
use Rattle.c_token.specs.private.Fronts.{Takes}
use Rattle.c_token.specs.Integers.{Constant, IsConstant, number_of}
use Rattle.c_token.specs.private.Lexemes.{IsLexeme, IsSpelledApart, IsToken, kind_of}
use Rattle.c_token.specs.private.Numbers.{IsNumber}
use Rattle.c_token.specs.Spelling.{IsLongest, Spells, StandsApart}
use Rattle.c_token.specs.ReservedWords.{is_reserved, is_word_spelled}
use Rattle.c_token.specs.declared.number.Number.{Number}
use Rattle.c_token.specs.declared.number.NumberFault.{NumberFault}
use Rattle.c_token.proofs.ConstantWords.{constant_digit, constant_words}
use Rattle.c_token.proofs.ConstantTokens.{same_number, some_none}
use Rattle.c_token.proofs.Digits.{digit_word, no_digit}
use Rattle.c_token.proofs.Families.{digit_family, family, family_words, some_bytes}
use Rattle.c_token.proofs.TokenLists.{first_front, first_take}
use Rattle.c_token.proofs.ByteRuns.{first_passes, run_all, run_is, run_some, run_stops}
use Rattle.c_token.specs.declared.token.Kind.TheVariants as k
use Rattle.c_token.specs.declared.lexeme.Lexeme.TheVariants as l
use Rattle.c_token.specs.declared.lexeme.BadToken.TheVariants as bad
use Rattle.c_token.specs.Spelling.Spells.{name, reserved, number}
use Rattle.c_token.specs.declared.number.NumberFault.TheVariants.{Malformed, Large}

pub run_longest : (rest : List ℕ) → is_word (first rest) ≡ true
    → IsLongest (take (prefix_len is_word rest) rest) (drop (prefix_len is_word rest) rest)
run_longest rest begins more behind kind splits some spells =
    let n : ℕ = prefix_len is_word rest in
    let front : List ℕ = take n rest in
    let has : 0 < n = run_some rest begins in
    let length_front : length front ≡ n = length-take-le n rest (prefix_len-le-length is_word rest) in
    let head : first (front ++ more) ≡ first rest = first_front front more (omega (arith, length_front)) ∙ first_take n rest has in
    let all : list_all is_word (front ++ more) ≡ true = family_words (front ++ more) kind (family (front ++ more) kind spells) (ap is_word head ∙ begins) in
    let more_all : list_all is_word more ≡ true = (and_parts (list_all is_word front) (list_all is_word more) (sym (list_all-append is_word front more) ∙ all)).1 in
    let stops : is_word (first more) ≡ false = ap is_word (sym (first_front more behind some)) ∙ ap (λ l. is_word (first l)) (sym splits) ∙ run_stops is_word refl rest in
    both_ways _ stops (first_passes is_word more some more_all)

pub word_found : (rest : List ℕ) → is_word (first rest) ≡ true
    → is_ascii_digit (first rest) ≡ false
    → Takes (IsToken (kind_of l.Word (take (prefix_len is_word rest) rest))) rest
    (prefix_len is_word rest)
word_found rest begins no_digit =
    let n : ℕ = prefix_len is_word rest in
    let front : List ℕ = take n rest in
    let has : 0 < n = run_some rest begins in
    let le : n ≤ length rest = prefix_len-le-length is_word rest in
    let spelled : is_word_spelled front ≡ true =
    and_from (nat_lt 0 (length front)) _ (lt-ltb 0 (length front) (omega (arith, has, length-take-le n rest le)))
    (and_from (list_all is_word front) _ (run_all is_word rest) (not_from_false (is_ascii_digit (first front)) (ap is_ascii_digit (first_take n rest has) ∙ no_digit))) in (
      has,
      le,
      record {
        spelled = cond_both (is_reserved front) (k.Reserved front) (k.Name front) (Spells front) (λ e. reserved e) (λ e. name spelled e);
        longest = run_longest rest begins;
        apart = λ _. run_stops is_word refl rest;
      },
    )

pub number_found : (rest : List ℕ) (n : Number) → is_ascii_digit (first rest) ≡ true
    → IsNumber (take (prefix_len is_word rest) rest) (Ok n)
    → IsLexeme rest (Ok (l.Number n, prefix_len is_word rest))
number_found rest n begins is = (
  run_some rest (digit_word (first rest) begins),
  prefix_len-le-length is_word rest,
  record {
    spelled = number is.0 n is.1 is.2;
    longest = run_longest rest (digit_word (first rest) begins);
    apart = λ _. run_stops is_word refl rest;
  },
)

-- a constant that stands apart is the whole run
run_taken : (rest bytes behind : List ℕ) (c : Constant) → rest ≡ bytes ++ behind
    → IsConstant bytes c → StandsApart bytes behind
    → IsConstant (take (prefix_len is_word rest) rest) c
run_taken rest bytes behind c splits k apart =
    let e : prefix_len is_word rest ≡ length bytes = ap (prefix_len is_word) splits ∙ run_is is_word bytes behind (constant_words bytes c k) (apart (constant_digit bytes c k).1) in
    let f : take (prefix_len is_word rest) rest ≡ bytes = ap₂ (λ n l. take n l) e splits ∙ take_at bytes behind (length bytes) refl in
    subst (λ w. IsConstant w c) (sym f) k

spelled_number : (rest : List ℕ) → is_ascii_digit (first rest) ≡ true → (bytes behind : List ℕ)
    → rest ≡ bytes ++ behind → IsSpelledApart bytes behind
    → (c : Constant) × (n : Number) × IsConstant (take (prefix_len is_word rest) rest) c × (number_of c ≡ Some n)
spelled_number rest begins bytes behind splits s =
    let f = family bytes s.kind s.spelled in
    let head : first rest ≡ first bytes = ap first splits ∙ first_front bytes behind (some_bytes bytes s.kind f) in
    let d = digit_family bytes s.kind f (ap is_ascii_digit (sym head) ∙ begins) in
    (d.0, d.1, run_taken rest bytes behind d.0 splits d.2 s.apart, d.3)

pub number_fails : (rest : List ℕ) (e : NumberFault) → is_ascii_digit (first rest) ≡ true
    → IsNumber (take (prefix_len is_word rest) rest) (Err e) → IsLexeme rest (Err (bad.Number e))
number_fails rest Large begins is = (
  λ bytes behind splits s. let d = spelled_number rest begins bytes behind splits s in some_none d.1 _ d.3 (same_number _ _ _ d.2 is.1 ∙ is.2),
  record {
    bytes = take (prefix_len is_word rest) rest;
    behind = drop (prefix_len is_word rest) rest;
    constant = is.0;
    splits = sym (take-append-drop (prefix_len is_word rest) rest);
    spelled = is.1;
    apart = λ _. run_stops is_word refl rest;
    too_large = is.2;
  },
)
number_fails rest Malformed begins is = (
  λ bytes behind splits s. let d = spelled_number rest begins bytes behind splits s in is d.0 d.2,
  (
    or_left (is_ascii_digit (first rest)) _ begins,
    λ large. is large.constant (run_taken rest large.bytes large.behind large.constant large.splits large.spelled large.apart),
  ),
)

module _ (rest : List ℕ) (n : ℕ) (len : n ≡ prefix_len is_word rest) where
  pub word_found_at : is_word (first rest) ≡ true → is_ascii_digit (first rest) ≡ false
      → IsLexeme rest (Ok (l.Word, n))
  word_found_at begins no_digit = subst (λ m. IsLexeme rest (Ok (l.Word, m))) (sym len) (word_found rest begins no_digit)

  pub number_found_at : (x : Number) → is_ascii_digit (first rest) ≡ true
      → IsNumber (take n rest) (Ok x) → IsLexeme rest (Ok (l.Number x, n))
  number_found_at x begins is = subst (λ m. IsLexeme rest (Ok (l.Number x, m))) (sym len) (number_found rest x begins (subst (λ m. IsNumber (take m rest) (Ok x)) len is))

  pub number_fails_at : (e : NumberFault) → is_ascii_digit (first rest) ≡ true
      → IsNumber (take n rest) (Err e) → IsLexeme rest (Err (bad.Number e))
  number_fails_at e begins is = number_fails rest e begins (subst (λ m. IsNumber (take m rest) (Err e)) len is)
