-- What a token is, by its first byte.
use Rattle.std.proofs.Common.{List, Some, [], ap, arith, eqb-true, false, length, length-append, ltb-true, sym, true, ℕ, ⊎_elim, ◌++◌, ◌<◌, ◌∙◌, ◌∷◌, ◌≡◌}
use Rattle.std.proofs.lemmas.Bool.{and_left, and_parts, both_ways, leb-true, lt-leb, ne_eqb, not-true, or_cases, or_from}
use Rattle.std.specs.Char.{is_ascii_alphanumeric, is_ascii_digit}
use Rattle.std.specs.Int.{is_in_range}
use Rattle.std.specs.List.{list_all}
use Rattle.std.specs.Prelude.{nat_eq, nat_le, nat_lt, ◌||◌}
use Rattle.c_token.specs.Bytes.{first, is_separator, is_word}
use Rattle.c_token.specs.Integers.{Constant, IsConstant, number_of}
use Rattle.c_token.specs.private.Quotes.{quoted}
use Rattle.c_token.specs.Signs.{is_sign}
use Rattle.c_token.specs.Spelling.{Spells}
use Rattle.c_token.specs.ReservedWords.{is_word_spelled}
use Rattle.c_token.specs.declared.number.Number.{Number}
use Rattle.c_token.specs.declared.token.Kind.{Kind}
use Rattle.c_token.proofs.ConstantWords.{constant_digit, constant_words}
use Rattle.c_token.proofs.Digits.{digit_word}
use Rattle.c_token.proofs.Escapes.{quoted_of}
use Rattle.c_token.proofs.TokenLists.{false_true}
use Rattle.c_token.proofs.ByteRuns.{first_passes}
use Rattle.c_token.proofs.SignsLemmas.{mark_apart, mark_is, mark_no_hash, sign_mark}
use Rattle.c_token.proofs.ReservedWordsLemmas.{reserved_spelled, word_first}
use Rattle.c_token.specs.Spelling.Spells.{name, reserved, number, character, sign}

-- what a token's first byte tells
pub data Family (bytes : List ℕ) : Kind → Type 0 where
  word : {kind : Kind} → is_word_spelled bytes ≡ true → Family bytes kind
  constant : {kind : Kind} (c : Constant) (n : Number) → IsConstant bytes c → number_of c ≡ Some n
      → Family bytes kind
  quote : {kind : Kind} (inside : List ℕ) (v : ℕ) → bytes ≡ 39 ∷ inside ++ 39 ∷ []
      → quoted inside ≡ Some v → Family bytes kind
  mark : {kind : Kind} → is_sign bytes ≡ true → Family bytes kind

pub family : (bytes : List ℕ) (kind : Kind) → Spells bytes kind → Family bytes kind
family bytes kind (name w r) = word w
family bytes kind (reserved r) = word (reserved_spelled bytes r)
family bytes kind (number c n k t) = constant c n k t
family bytes kind (character inside v parts q) = quote inside v parts (quoted_of inside v q)
family bytes kind (sign s) = mark s

pub family_words : (bytes : List ℕ) (kind : Kind) → Family bytes kind
    → is_word (first bytes) ≡ true → list_all is_word bytes ≡ true
family_words bytes kind (word w) h = (and_parts (list_all is_word bytes) _ (and_parts (nat_lt 0 (length bytes)) _ w).1).0
family_words bytes kind (constant c n k t) h = constant_words bytes c k
family_words bytes kind (quote inside v parts q) h = false_true (ap (λ l. is_word (first l)) (sym parts) ∙ h)
family_words bytes kind (mark s) h = absurd (both_ways _ (mark_is (first bytes) (sign_mark bytes s)).0 h)

pub some_bytes : (bytes : List ℕ) (kind : Kind) → Family bytes kind → 0 < length bytes
some_bytes bytes kind (word w) = ltb-true 0 (length bytes) (and_parts (nat_lt 0 (length bytes)) _ w).0
some_bytes bytes kind (constant c n k t) = (constant_digit bytes c k).0
some_bytes bytes kind (quote inside v parts q) = omega (arith, ap length parts, length-append (39 ∷ inside) (39 ∷ []))
some_bytes [] kind (mark s) = false_true s
some_bytes (b ∷ bytes) kind (mark s) = omega arith

pub digit_family : (bytes : List ℕ) (kind : Kind) → Family bytes kind
    → is_ascii_digit (first bytes) ≡ true
    → (c : Constant) × (n : Number) × IsConstant bytes c × (number_of c ≡ Some n)
digit_family bytes kind (word w) h = absurd (both_ways _ (not-true (is_ascii_digit (first bytes)) (and_parts (list_all is_word bytes) _ (and_parts (nat_lt 0 (length bytes)) _ w).1).1) h)
digit_family bytes kind (constant c n k t) h = (c, n, k, t)
digit_family bytes kind (quote inside v parts q) h = false_true (ap (λ l. is_ascii_digit (first l)) (sym parts) ∙ h)
digit_family bytes kind (mark s) h = absurd (both_ways _ (mark_is (first bytes) (sign_mark bytes s)).0 (digit_word (first bytes) h))

pub mark_family : (bytes : List ℕ) (kind : Kind) → Family bytes kind
    → is_word (first bytes) ≡ false → nat_eq (first bytes) 39 ≡ false → is_sign bytes ≡ true
mark_family bytes kind (word w) plain no_quote =
    let some = ltb-true 0 (length bytes) (and_parts (nat_lt 0 (length bytes)) _ w).0 in
    absurd (both_ways _ plain (first_passes is_word bytes some (and_parts (list_all is_word bytes) _ (and_parts (nat_lt 0 (length bytes)) _ w).1).0))
mark_family bytes kind (constant c n k t) plain no_quote = absurd (both_ways _ plain (digit_word (first bytes) (constant_digit bytes c k).1))
mark_family bytes kind (quote inside v parts q) plain no_quote = absurd (both_ways _ no_quote (ap (λ l. nat_eq (first l) 39) parts))
mark_family bytes kind (mark s) plain no_quote = s

pub quote_family : (bytes : List ℕ) (kind : Kind) → Family bytes kind
    → nat_eq (first bytes) 39 ≡ true
    → (v : ℕ) × (inside : List ℕ) × (bytes ≡ 39 ∷ inside ++ 39 ∷ []) × (quoted inside ≡ Some v)
quote_family bytes kind (word w) h =
    let some = ltb-true 0 (length bytes) (and_parts (nat_lt 0 (length bytes)) _ w).0 in
    let passes = first_passes is_word bytes some (and_parts (list_all is_word bytes) _ (and_parts (nat_lt 0 (length bytes)) _ w).1).0 in
    false_true (ap is_word (sym (eqb-true (first bytes) 39 h)) ∙ passes)
quote_family bytes kind (constant c n k t) h = false_true (ap is_ascii_digit (sym (eqb-true (first bytes) 39 h)) ∙ (constant_digit bytes c k).1)
quote_family bytes kind (quote inside v parts q) h = (v, inside, parts, q)
quote_family bytes kind (mark s) h = absurd (both_ways _ (mark_is (first bytes) (sign_mark bytes s)).1 h)

pub no_hash : (bytes : List ℕ) (kind : Kind) → Family bytes kind → first bytes ≡ 35 → ⊥
no_hash bytes kind (word w) h =
    let some = ltb-true 0 (length bytes) (and_parts (nat_lt 0 (length bytes)) _ w).0 in
    false_true (ap is_word (sym h) ∙ first_passes is_word bytes some (and_parts (list_all is_word bytes) _ (and_parts (nat_lt 0 (length bytes)) _ w).1).0)
no_hash bytes kind (constant c n k t) h = false_true (ap is_word (sym h) ∙ digit_word (first bytes) (constant_digit bytes c k).1)
no_hash bytes kind (quote inside v parts q) h = omega (arith, h, ap first parts)
no_hash bytes kind (mark s) h = both_ways _ (mark_no_hash (first bytes) (sign_mark bytes s)) (ap (λ b. nat_eq b 35) h)

range_no_word : (b : ℕ) → b < 48 → is_word b ≡ false
range_no_word b lt =
    or_from (is_ascii_alphanumeric b) (nat_eq b 95)
    (or_from (is_in_range 48 57 b || is_in_range 65 90 b) (is_in_range 97 122 b)
    (or_from (is_in_range 48 57 b) (is_in_range 65 90 b) (and_left (nat_le 48 b) (nat_le b 57) (lt-leb 48 b lt)) (and_left (nat_le 65 b) (nat_le b 90) (lt-leb 65 b (omega arith))))
    (and_left (nat_le 97 b) (nat_le b 122) (lt-leb 97 b (omega arith))))
    (ne_eqb b 95 (λ e. omega (arith, e, lt)))

separator_no_word : (b : ℕ) → is_separator b ≡ true → is_word b ≡ false
separator_no_word b h =
    ⊎_elim (λ e. ap is_word (eqb-true b 32 e)) (λ e. let p = and_parts (nat_le 9 b) (nat_le b 13) e in range_no_word b (omega (arith, leb-true b 13 p.1)))
    (or_cases (nat_eq b 32) (is_in_range 9 13 b) h)

pub token_no_separator : (a : List ℕ) (x : Kind) → Family a x → is_separator (first a) ≡ true → ⊥
token_no_separator a x (word w) h = both_ways _ (separator_no_word (first a) h) (word_first a w)
token_no_separator a x (constant c n q t) h = both_ways _ (separator_no_word (first a) h) (digit_word (first a) (constant_digit a c q).1)
token_no_separator a x (quote i v p q) h = false_true (ap (λ l. is_separator (first l)) (sym p) ∙ h)
token_no_separator a x (mark s) h = mark_apart (first a) (sign_mark a s) h
