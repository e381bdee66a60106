-- A comment ends at one place.
use Rattle.std.proofs.Common.{List, [], ap, append_assoc, arith, drop, drop_at, false, get_or, length, refl, sym, true, ℕ, ◌++◌, ◌∙◌, ◌∷◌, ◌≡◌}
use Rattle.std.proofs.lemmas.Bool.{both_ways, or_left, or_parts}
use Rattle.std.specs.List.{list_all, prefix_len}
use Rattle.std.specs.Prelude.{nat_eq, ◌&&◌}
use Rattle.c_token.specs.Bytes.{first}
use Rattle.c_token.specs.Comments.{EndsLine, IsComment, has_close, is_in_line, opens_comment}
use Rattle.c_token.proofs.CommentsLemmas.{opened}
use Rattle.c_token.proofs.ByteRuns.{line_is}
use Rattle.c_token.specs.Comments.IsComment.{block, line}

close_once : (xs ys s t : List ℕ) → has_close xs ≡ false → has_close ys ≡ false
    → xs ++ 42 ∷ 47 ∷ s ≡ ys ++ 42 ∷ 47 ∷ t → s ≡ t
close_once [] [] s t a b e = ap (drop 2) e
close_once [] (y ∷ []) s t a b e = absurd (omega (arith, ap (λ l. get_or l 1 0) e))
close_once [] (y ∷ z ∷ ys) s t a b e = absurd (both_ways _ b (or_left (nat_eq y 42 && nat_eq z 47) _ (ap (λ l. nat_eq (get_or l 0 0) 42 && nat_eq (get_or l 1 0) 47) (sym e))))
close_once (x ∷ []) [] s t a b e = absurd (omega (arith, ap (λ l. get_or l 1 0) e))
close_once (x ∷ z ∷ xs) [] s t a b e = absurd (both_ways _ a (or_left (nat_eq x 42 && nat_eq z 47) _ (ap (λ l. nat_eq (get_or l 0 0) 42 && nat_eq (get_or l 1 0) 47) e)))
close_once (x ∷ xs) (y ∷ ys) s t a b e = close_once xs ys s t (or_parts (nat_eq x 42 && nat_eq (first xs) 47) (has_close xs) a).1 (or_parts (nat_eq y 42 && nat_eq (first ys) 47) (has_close ys) b).1 (ap (drop 1) e)

line_rest : (inside bytes tail : List ℕ) → bytes ≡ 47 ∷ 47 ∷ inside
    → list_all is_in_line inside ≡ true → EndsLine tail
    → tail ≡ drop (prefix_len is_in_line (bytes ++ tail)) (bytes ++ tail)
line_rest inside bytes tail parts all ends =
    let every : list_all is_in_line bytes ≡ true = ap (list_all is_in_line) parts ∙ all in
    sym (ap (λ n. drop n (bytes ++ tail)) (line_is bytes tail every ends) ∙ drop_at bytes tail (length bytes) refl)

pub comment_once : (rest a b s t : List ℕ) → rest ≡ a ++ s → rest ≡ b ++ t → IsComment a s
    → IsComment b t → s ≡ t
comment_once rest a b s t x y (block i p u) (block j q v) =
    close_once i j s t u v (sym (append_assoc i (42 ∷ 47 ∷ []) s) ∙ ap (drop 2) (sym (ap (λ l. l ++ s) p) ∙ sym x ∙ y ∙ ap (λ l. l ++ t) q) ∙ append_assoc j (42 ∷ 47 ∷ []) t)
comment_once rest a b s t x y (block i p u) (line j q all ends) = absurd (omega (arith, ap (λ l. get_or l 1 0) (sym (ap (λ l. l ++ s) p) ∙ sym x ∙ y ∙ ap (λ l. l ++ t) q)))
comment_once rest a b s t x y (line i p all ends) (block j q v) = absurd (omega (arith, ap (λ l. get_or l 1 0) (sym (ap (λ l. l ++ s) p) ∙ sym x ∙ y ∙ ap (λ l. l ++ t) q)))
comment_once rest a b s t x y (line i p all ends) (line j q every ends2) =
    line_rest i a s p all ends ∙ ap (λ l. drop (prefix_len is_in_line l) l) (sym x ∙ y) ∙ sym (line_rest j b t q every ends2)

pub comment_opens : (a s : List ℕ) → IsComment a s → opens_comment (a ++ s) ≡ true
comment_opens a s (block i p u) = ap (λ l. opens_comment (l ++ s)) p
comment_opens a s (line i p all ends) = ap (λ l. opens_comment (l ++ s)) p

pub comment_first : (rest a s : List ℕ) → rest ≡ a ++ s → IsComment a s → first rest ≡ 47
comment_first rest a s e c = ap first e ∙ (opened (a ++ s) (comment_opens a s c)).1

pub comment_head : (a s : List ℕ) → IsComment a s → first (a ++ s) ≡ 47
comment_head a s c = (opened (a ++ s) (comment_opens a s c)).1
