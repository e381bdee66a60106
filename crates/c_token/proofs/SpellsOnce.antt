-- Bytes are spelled as one kind.
use Rattle.std.proofs.Common.{List, Some, [], ap, cond, drop, length, refl, sym, take, true, ℕ, ◌++◌, ◌-◌, ◌∙◌, ◌∷◌, ◌≡◌}
use Rattle.std.proofs.lemmas.Bool.{and_parts, both_ways, cond-false, cond-true, not-true}
use Rattle.std.specs.Char.{is_ascii_digit}
use Rattle.std.specs.List.{list_all}
use Rattle.std.specs.Prelude.{nat_eq, nat_lt}
use Rattle.c_token.specs.Bytes.{first, is_word}
use Rattle.c_token.specs.Integers.{Constant, IsConstant, number_kind, number_of}
use Rattle.c_token.specs.private.Quotes.{quoted}
use Rattle.c_token.specs.Signs.{is_sign, padded}
use Rattle.c_token.specs.Spelling.{Spells}
use Rattle.c_token.specs.ReservedWords.{is_reserved, is_word_spelled}
use Rattle.c_token.specs.declared.number.Number.{Number}
use Rattle.c_token.specs.declared.token.Kind.{Kind}
use Rattle.c_token.proofs.ConstantWords.{constant_digit}
use Rattle.c_token.proofs.ConstantTokens.{front-append, same_number, same_value}
use Rattle.c_token.proofs.Digits.{digit_word}
use Rattle.c_token.proofs.Escapes.{quoted_of, same_byte}
use Rattle.c_token.proofs.TokenLists.{false_true}
use Rattle.c_token.proofs.SignsLemmas.{mark_is, sign_mark}
use Rattle.c_token.proofs.ReservedWordsLemmas.{reserved_spelled, word_first}
use Rattle.c_token.specs.declared.token.Kind.TheVariants as k
use Rattle.c_token.specs.Spelling.Spells.{name, reserved, number, character, sign}

word_kind : (a : List ℕ) (x : Kind) → Spells a x → is_word_spelled a ≡ true
    → x ≡ cond (is_reserved a) (k.Reserved a) (k.Name a)
word_kind a x (name w r) h = sym (cond-false _ _ _ r)
word_kind a x (reserved r) h = sym (cond-true _ _ _ r)
word_kind a x (number c n q t) h = absurd (both_ways _ (not-true (is_ascii_digit (first a)) (and_parts (list_all is_word a) _ (and_parts (nat_lt 0 (length a)) _ h).1).1) (constant_digit a c q).1)
word_kind a x (character i v p q) h = false_true (ap (λ l. is_word (first l)) (sym p) ∙ word_first a h)
word_kind a x (sign s) h = absurd (both_ways _ (mark_is (first a) (sign_mark a s)).0 (word_first a h))

number_kind_is : (a : List ℕ) (x : Kind) (c : Constant) (n : Number) → Spells a x → IsConstant a c
    → number_of c ≡ Some n → x ≡ number_kind n
number_kind_is a x c n (name w r) q t = absurd (both_ways _ (not-true (is_ascii_digit (first a)) (and_parts (list_all is_word a) _ (and_parts (nat_lt 0 (length a)) _ w).1).1) (constant_digit a c q).1)
number_kind_is a x c n (reserved r) q t = absurd (both_ways _ (not-true (is_ascii_digit (first a)) (and_parts (list_all is_word a) _ (and_parts (nat_lt 0 (length a)) _ (reserved_spelled a r)).1).1) (constant_digit a c q).1)
number_kind_is a x c n (number d m p u) q t = ap number_kind (same_value m n (sym u ∙ same_number a d c p q ∙ t))
number_kind_is a x c n (character i v p z) q t = false_true (ap (λ l. is_ascii_digit (first l)) (sym p) ∙ (constant_digit a c q).1)
number_kind_is a x c n (sign s) q t = absurd (both_ways _ (mark_is (first a) (sign_mark a s)).0 (digit_word (first a) (constant_digit a c q).1))

inside_once : (i j : List ℕ) → 39 ∷ i ++ 39 ∷ [] ≡ 39 ∷ j ++ 39 ∷ [] → i ≡ j
inside_once i j e = let f : i ++ 39 ∷ [] ≡ j ++ 39 ∷ [] = ap (drop 1) e in sym (front-append i 39) ∙ ap (λ l. take (length l - 1) l) f ∙ front-append j 39

character_kind : (a : List ℕ) (x : Kind) (i : List ℕ) (v : ℕ) → Spells a x → a ≡ 39 ∷ i ++ 39 ∷ []
    → quoted i ≡ Some v → x ≡ k.Character v
character_kind a x i v (name w r) p q = false_true (ap (λ l. is_word (first l)) (sym p) ∙ word_first a w)
character_kind a x i v (reserved r) p q = false_true (ap (λ l. is_word (first l)) (sym p) ∙ word_first a (reserved_spelled a r))
character_kind a x i v (number c n y t) p q = false_true (ap (λ l. is_ascii_digit (first l)) (sym p) ∙ (constant_digit a c y).1)
character_kind a x i v (character j w y z) p q = ap k.Character (same_byte w v (sym (quoted_of j w z) ∙ ap quoted (inside_once j i (sym y ∙ p)) ∙ q))
character_kind a x i v (sign s) p q = absurd (both_ways _ (mark_is (first a) (sign_mark a s)).1 (ap (λ l. nat_eq (first l) 39) p))

sign_kind : (a : List ℕ) (x : Kind) → Spells a x → is_sign a ≡ true → x ≡ k.Sign (padded a)
sign_kind a x (name w r) h = absurd (both_ways _ (mark_is (first a) (sign_mark a h)).0 (word_first a w))
sign_kind a x (reserved r) h = absurd (both_ways _ (mark_is (first a) (sign_mark a h)).0 (word_first a (reserved_spelled a r)))
sign_kind a x (number c n y t) h = absurd (both_ways _ (mark_is (first a) (sign_mark a h)).0 (digit_word (first a) (constant_digit a c y).1))
sign_kind a x (character j w y z) h = absurd (both_ways _ (mark_is (first a) (sign_mark a h)).1 (ap (λ l. nat_eq (first l) 39) y))
sign_kind a x (sign s) h = refl

pub spells_once : (a : List ℕ) (x y : Kind) → Spells a x → Spells a y → x ≡ y
spells_once a x y (name w r) q = sym (word_kind a y q w ∙ cond-false _ _ _ r)
spells_once a x y (reserved r) q = sym (word_kind a y q (reserved_spelled a r) ∙ cond-true _ _ _ r)
spells_once a x y (number c n p t) q = sym (number_kind_is a y c n q p t)
spells_once a x y (character i v p z) q = sym (character_kind a y i v q p (quoted_of i v z))
spells_once a x y (sign s) q = sym (sign_kind a y q s)
