-- What stands between quotes has one value, and holds no quote but behind `\`.
use Rattle.std.proofs.Common.{Bool, List, None, Option, Some, [], ap, arith, drop, false, get_or, length, length-append, refl, sym, true, ℕ, ◌++◌, ◌∙◌, ◌∷◌, ◌≡◌, ◌≤◌}
use Rattle.std.proofs.lemmas.Bool.{and_parts, and_right, both_ways, cond-false, not-false, not-true, or_parts}
use Rattle.std.specs.Int.{is_in_range}
use Rattle.std.specs.Prelude.{if◌then◌else◌, nat_eq, not, ◌&&◌, ◌||◌}
use Rattle.c_token.specs.Bytes.{first, is_digit}
use Rattle.c_token.specs.private.Quotes.{quoted, two_digits}
use Rattle.c_token.proofs.TokenLists.{no_length}

pub some_is_none : (v : ℕ) → ◌≡◌ {A = Option ℕ} (Some v) None → ⊥
some_is_none v h = cc

-- no character constant begins a longer one: no quote stands behind the second byte
pub no_none : (v : ℕ) {P : Type 0} → ◌≡◌ {A = Option ℕ} None (Some v) → P
no_none v h = absurd (some_is_none v (sym h))

if_both : (t : Bool) (x y : Option ℕ) → x ≡ None → y ≡ None → (if t then x else y) ≡ None
if_both true x y e f = e
if_both false x y e f = f

pub some_then : (t : Bool) (x : Option ℕ) (w : ℕ) → (if t then x else None) ≡ Some w → t ≡ true
some_then true x w e = refl
some_then false x w e = no_none w e

pub some_else : (t : Bool) (x : Option ℕ) (w : ℕ) → (if t then None else x) ≡ Some w → t ≡ false
some_else true x w e = no_none w e
some_else false x w e = refl

two_none : (base a b : ℕ) → is_digit base b ≡ false → two_digits base a b ≡ None
two_none base a b h = cond-false _ _ _ (and_right (is_digit base a) (is_digit base b) h)

three_none : (b c d : ℕ) (x : Option ℕ) → (is_digit 8 c && is_digit 8 d) ≡ false
    → (if is_digit 8 b && (is_digit 8 c && is_digit 8 d) then x else None) ≡ None
three_none b c d x h = cond-false _ _ _ (and_right (is_digit 8 b) (is_digit 8 c && is_digit 8 d) h)

-- a quote stands in an escape as its second byte alone
third_of_three : (a b : ℕ) → quoted (a ∷ b ∷ 39 ∷ []) ≡ None
third_of_three a b = if_both (not (nat_eq a 92)) None _ refl (if_both (nat_eq b 120) _ _ refl (two_none 8 b 39 refl))

third_of_four : (a b d : ℕ) → quoted (a ∷ b ∷ 39 ∷ d ∷ []) ≡ None
third_of_four a b d = if_both (not (nat_eq a 92)) None _ refl (if_both (nat_eq b 120) _ _ refl (three_none b 39 d _ refl))

fourth_of_four : (a b c : ℕ) → quoted (a ∷ b ∷ c ∷ 39 ∷ []) ≡ None
fourth_of_four a b c = if_both (not (nat_eq a 92)) None _ refl (if_both (nat_eq b 120) _ _ (two_none 16 c 39 refl) (three_none b c 39 _ (and_right (is_digit 8 c) false refl)))

long_escape : (a b : ℕ) (xs : List ℕ) (w : ℕ) → quoted (a ∷ b ∷ xs) ≡ Some w → nat_eq a 92 ≡ true
long_escape a b [] w h = some_then (nat_eq a 92) _ w h
long_escape a b (c ∷ []) w h = not-false _ (some_else (not (nat_eq a 92)) _ w h)
long_escape a b (c ∷ d ∷ []) w h = not-false _ (some_else (not (nat_eq a 92)) _ w h)
long_escape a b (c ∷ d ∷ e ∷ xs) w h = no_none w h

short_plain : (a w : ℕ) → quoted (a ∷ []) ≡ Some w → nat_eq a 92 ≡ false
short_plain a w h =
    let t = some_then (is_in_range 32 126 a && not (nat_eq a 39 || nat_eq a 92)) (Some a) w h in
    (or_parts (nat_eq a 39) (nat_eq a 92) (not-true _ (and_parts (is_in_range 32 126 a) (not (nat_eq a 39 || nat_eq a 92)) t).1)).1

pub quoted_length : (xs : List ℕ) (w : ℕ) → quoted xs ≡ Some w → (1 ≤ length xs) × (length xs ≤ 4)
quoted_length [] w h = no_none w h
quoted_length (a ∷ []) w h = (omega arith, omega arith)
quoted_length (a ∷ b ∷ []) w h = (omega arith, omega arith)
quoted_length (a ∷ b ∷ c ∷ []) w h = (omega arith, omega arith)
quoted_length (a ∷ b ∷ c ∷ d ∷ []) w h = (omega arith, omega arith)
quoted_length (a ∷ b ∷ c ∷ d ∷ e ∷ xs) w h = no_none w h

at_none : (xs ys : List ℕ) (w : ℕ) {P : Type 0} → xs ≡ ys → quoted ys ≡ None → quoted xs ≡ Some w
    → P
at_none xs ys w e n h = no_none w (sym n ∙ sym (ap quoted e) ∙ h)

two_quote : (a b c : ℕ) (more ys : List ℕ) (w : ℕ) → quoted (b ∷ c ∷ ys) ≡ Some w
    → a ∷ 39 ∷ more ≡ (b ∷ c ∷ ys) ++ 39 ∷ [] → nat_eq a 92 ≡ false → more ≡ []
two_quote a b c more ys w y e plain = absurd (both_ways _ plain (ap (λ l. nat_eq (first l) 92) e ∙ long_escape b c ys w y))

three_quote : (a b : ℕ) (more ys : List ℕ) (w : ℕ) → quoted ys ≡ Some w
    → a ∷ b ∷ 39 ∷ more ≡ ys ++ 39 ∷ [] → more ≡ []
three_quote a b more [] w y e = no_none w y
three_quote a b more (p ∷ []) w y e = absurd (omega (arith, ap length e))
three_quote a b more (p ∷ q ∷ []) w y e = ap (drop 3) e
three_quote a b more (p ∷ q ∷ r ∷ []) w y e = let h : 39 ≡ r = ap (λ l. get_or l 2 0) e in at_none (p ∷ q ∷ r ∷ []) (p ∷ q ∷ 39 ∷ []) w (ap (λ x. p ∷ q ∷ x ∷ []) (sym h)) (third_of_three p q) y
three_quote a b more (p ∷ q ∷ r ∷ s ∷ []) w y e = let h : 39 ≡ r = ap (λ l. get_or l 2 0) e in at_none (p ∷ q ∷ r ∷ s ∷ []) (p ∷ q ∷ 39 ∷ s ∷ []) w (ap (λ x. p ∷ q ∷ x ∷ s ∷ []) (sym h)) (third_of_four p q s) y
three_quote a b more (p ∷ q ∷ r ∷ s ∷ t ∷ ys) w y e = no_none w y

four_quote : (a b c : ℕ) (more ys : List ℕ) (w : ℕ) → quoted ys ≡ Some w
    → a ∷ b ∷ c ∷ 39 ∷ more ≡ ys ++ 39 ∷ [] → more ≡ []
four_quote a b c more [] w y e = no_none w y
four_quote a b c more (p ∷ []) w y e = absurd (omega (arith, ap length e))
four_quote a b c more (p ∷ q ∷ []) w y e = absurd (omega (arith, ap length e))
four_quote a b c more (p ∷ q ∷ r ∷ []) w y e = ap (drop 4) e
four_quote a b c more (p ∷ q ∷ r ∷ s ∷ []) w y e = let h : 39 ≡ s = ap (λ l. get_or l 3 0) e in at_none (p ∷ q ∷ r ∷ s ∷ []) (p ∷ q ∷ r ∷ 39 ∷ []) w (ap (λ x. p ∷ q ∷ r ∷ x ∷ []) (sym h)) (fourth_of_four p q r) y
four_quote a b c more (p ∷ q ∷ r ∷ s ∷ t ∷ ys) w y e = no_none w y

five_quote : (a b c d : ℕ) (more ys : List ℕ) → length ys ≤ 4
    → a ∷ b ∷ c ∷ d ∷ 39 ∷ more ≡ ys ++ 39 ∷ [] → more ≡ []
five_quote a b c d more ys le e = no_length more (omega (arith, ap length e, length-append ys (39 ∷ []), le))

pub one_quote : (a b more : List ℕ) (v w : ℕ) → quoted a ≡ Some v → quoted b ≡ Some w
    → a ++ 39 ∷ more ≡ b ++ 39 ∷ [] → more ≡ []
one_quote [] b more v w x y e = no_none v x
one_quote (a ∷ []) [] more v w x y e = no_none w y
one_quote (a ∷ []) (p ∷ []) more v w x y e = ap (drop 2) e
one_quote (a ∷ []) (p ∷ q ∷ ys) more v w x y e = two_quote a p q more ys w y e (short_plain a v x)
one_quote (a ∷ b ∷ []) ys more v w x y e = three_quote a b more ys w y e
one_quote (a ∷ b ∷ c ∷ []) ys more v w x y e = four_quote a b c more ys w y e
one_quote (a ∷ b ∷ c ∷ d ∷ []) ys more v w x y e =
    let n : length ys ≤ 4 = (quoted_length ys w y).1 in
    five_quote a b c d more ys n e
one_quote (a ∷ b ∷ c ∷ d ∷ f ∷ xs) ys more v w x y e = no_none v x
