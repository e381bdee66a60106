-- What stands behind the last part of a line.
use Rattle.std.proofs.Common.{Bool, List, ap, arith, drop, eqb-true, false, length, subst, sym, take, take-append-drop, true, ℕ, ⊎_elim, ◌<◌, ◌∙◌, ◌∷◌, ◌≡◌}
use Rattle.std.proofs.lemmas.Bool.{or_cases}
use Rattle.std.specs.Prelude.{nat_eq}
use Rattle.c_token.specs.Bytes.{first, is_blank, is_word}
use Rattle.c_token.specs.Comments.{IsComment, opens_comment}
use Rattle.c_token.specs.Directives.{IsTail}
use Rattle.c_token.specs.private.Fronts.{Takes, TakesNone}
use Rattle.c_token.proofs.CommentEnds.{comment_first, comment_once}
use Rattle.c_token.proofs.CommentsLemmas.{opened}
use Rattle.c_token.proofs.TokenLists.{false_true, uncons}
use Rattle.c_token.specs.Directives.IsTail.{end, blank, return, comment}

pub blank_tail : (may : Bool) (rest : List ℕ) → 0 < length rest → is_blank (first rest) ≡ true
    → IsTail may (drop 1 rest) → IsTail may rest
blank_tail may rest some h is = blank (first rest) (drop 1 rest) (uncons rest some) h is

pub tail_blank : (may : Bool) (rest : List ℕ) → 0 < length rest → is_blank (first rest) ≡ true
    → IsTail may rest → IsTail may (drop 1 rest)
tail_blank may rest some h (end e) = absurd (omega (arith, ap length e, some))
tail_blank may rest some h (blank b t e _ is) = subst (IsTail may) (sym (ap (drop 1) e)) is
tail_blank may rest some h (return t e m is) = false_true (ap (λ l. is_blank (first l)) (sym e) ∙ h)
tail_blank may rest some h (comment a t e c is) = false_true (ap is_blank (sym (comment_first rest a t e c)) ∙ h)

pub return_tail : (may : Bool) (rest : List ℕ) → 0 < length rest → first rest ≡ 13 → may ≡ true
    → IsTail false (drop 1 rest) → IsTail may rest
return_tail may rest some h m is = return (drop 1 rest) (uncons rest some ∙ ap (λ x. x ∷ drop 1 rest) h) m is

pub tail_return : (may : Bool) (rest : List ℕ) → 0 < length rest → first rest ≡ 13
    → IsTail may rest → IsTail false (drop 1 rest)
tail_return may rest some h (end e) = absurd (omega (arith, ap length e, some))
tail_return may rest some h (blank b t e i is) = false_true (ap is_blank (sym h) ∙ ap (λ l. is_blank (first l)) e ∙ i)
tail_return may rest some h (return t e m is) = subst (IsTail false) (sym (ap (drop 1) e)) is
tail_return may rest some h (comment a t e c is) = absurd (omega (arith, h, comment_first rest a t e c))

pub comment_tail : (may : Bool) (rest : List ℕ) (n : ℕ) → Takes IsComment rest n
    → IsTail may (drop n rest) → IsTail may rest
comment_tail may rest n takes is = comment (take n rest) (drop n rest) (sym (take-append-drop n rest)) takes.2 is

pub tail_comment : (may : Bool) (rest : List ℕ) (n : ℕ) → opens_comment rest ≡ true
    → Takes IsComment rest n → IsTail may rest → IsTail may (drop n rest)
tail_comment may rest n opens takes (end e) = false_true (ap opens_comment (sym e) ∙ opens)
tail_comment may rest n opens takes (blank b t e i is) = false_true (ap is_blank (sym (opened rest opens).1) ∙ ap (λ l. is_blank (first l)) e ∙ i)
tail_comment may rest n opens takes (return t e m is) = absurd (omega (arith, (opened rest opens).1, ap first e))
tail_comment may rest n opens takes (comment a t e c is) = subst (IsTail may) (comment_once rest a (take n rest) t (drop n rest) e (sym (take-append-drop n rest)) c takes.2) is

pub tail_open : (may : Bool) (rest : List ℕ) → opens_comment rest ≡ true → TakesNone IsComment rest
    → IsTail may rest → ⊥
tail_open may rest opens none (end e) = false_true (ap opens_comment (sym e) ∙ opens)
tail_open may rest opens none (blank b t e i is) = false_true (ap is_blank (sym (opened rest opens).1) ∙ ap (λ l. is_blank (first l)) e ∙ i)
tail_open may rest opens none (return t e m is) = omega (arith, (opened rest opens).1, ap first e)
tail_open may rest opens none (comment a t e c is) = none a t e c

pub blank_apart : (b : ℕ) → is_blank b ≡ true → is_word b ≡ false
blank_apart b h = ⊎_elim (λ e. ap is_word (eqb-true b 32 e)) (λ e. ap is_word (eqb-true b 9 e)) (or_cases (nat_eq b 32) (nat_eq b 9) h)

-- what begins no word: the end, a blank, CR, `/`
pub tail_apart : (may : Bool) (tail : List ℕ) → IsTail may tail → is_word (first tail) ≡ false
tail_apart may tail (end e) = ap (λ l. is_word (first l)) e
tail_apart may tail (blank b t e i is) = ap (λ l. is_word (first l)) e ∙ blank_apart b i
tail_apart may tail (return t e m is) = ap (λ l. is_word (first l)) e
tail_apart may tail (comment a t e c is) = ap is_word (comment_first tail a t e c)
