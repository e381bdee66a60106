-- One piece stands at a place.
use Rattle.std.proofs.Common.{List, [], ap, ap₂, arith, drop, drop_at, eqb-true, length, refl, subst, sym, true, ℕ, ◌++◌, ◌∙◌, ◌∷◌, ◌≡◌}
use Rattle.std.proofs.lemmas.Bool.{and_parts, both_ways}
use Rattle.std.specs.Prelude.{nat_eq}
use Rattle.c_token.specs.Bytes.{first, is_separator}
use Rattle.c_token.specs.Comments.{opens_comment}
use Rattle.c_token.specs.Directives.{IsDirective, begins_directive}
use Rattle.c_token.specs.Pieces.{Definitions, Found, IsPiece, found_by, replaced}
use Rattle.c_token.specs.Spelling.{IsLongest, Spells}
use Rattle.c_token.specs.declared.spot.Spot.{Spot}
use Rattle.c_token.specs.declared.token.Kind.{Kind}
use Rattle.c_token.proofs.CommentEnds.{comment_head, comment_once, comment_opens}
use Rattle.c_token.proofs.DirectiveLines.{directive_once}
use Rattle.c_token.proofs.Families.{family, no_hash, some_bytes, token_no_separator}
use Rattle.c_token.proofs.FrontsLemmas.{Fronts, front_same, fronts}
use Rattle.c_token.proofs.TokenLists.{false_true, first_front, some_first}
use Rattle.c_token.proofs.ByteRuns.{line_taken}
use Rattle.c_token.proofs.SpellsOnce.{spells_once}
use Rattle.c_token.specs.Pieces.IsPiece.{separator, comment, directive, token}
use Rattle.c_token.specs.Pieces.Found.{found_token}
use Rattle.c_token.proofs.FrontsLemmas.Fronts.{same, shorter, longer}

pub front_head : (a s : List ℕ) (x : Kind) → Spells a x → first (a ++ s) ≡ first a
front_head a s x p = first_front a s (some_bytes a x (family a x p))

pub directive_head : (at : Spot) (a s : List ℕ) → begins_directive at a ≡ true → first (a ++ s) ≡ 35
directive_head at a s h = let q = (and_parts at.fresh (nat_eq (first a) 35) h).1 in first_front a s (some_first a 34 q) ∙ eqb-true (first a) 35 q

abbrev pub IsSame : List ℕ → List ℕ → List ℕ → List ℕ → Found → Found → Type 0
IsSame a b s t f g = (a ≡ b) × (s ≡ t) × (f ≡ g)

tokens_same : (at : Spot) (ds : Definitions) (a b s t : List ℕ) (x y : Kind) → Spells a x
    → Spells b y → IsLongest a s → IsLongest b t → Fronts a b s t
    → IsSame a b s t (found_token (replaced ds x)) (found_token (replaced ds y))
tokens_same at ds a b s t x y p q l l2 (same e r) = (e, r, ap (λ z. found_token (replaced ds z)) (spells_once b x y (subst (λ w. Spells w x) e p) q))
tokens_same at ds a b s t x y p q l l2 (shorter m some e r) = absurd (l m t y r some (subst (λ w. Spells w y) e q))
tokens_same at ds a b s t x y p q l l2 (longer m some e r) = absurd (l2 m s x r some (subst (λ w. Spells w x) e p))

-- two pieces at one place are one
pub piece_once : (at : Spot) (ds : Definitions) (a b s t : List ℕ) (f g : Found) → a ++ s ≡ b ++ t
    → IsPiece at ds a s f → IsPiece at ds b t g → IsSame a b s t f g
piece_once at ds a b s t f g e (separator x p i) (separator y q j) =
    let h = ap (λ l. l ++ s) (sym p) ∙ e ∙ ap (λ l. l ++ t) q in
    (p ∙ ap (λ z. z ∷ []) (ap first h) ∙ sym q, ap (drop 1) h, refl)
piece_once at ds a b s t f g e (separator x p i) (comment d) = false_true (ap is_separator (sym (comment_head b t d)) ∙ ap (λ l. is_separator (first l)) (sym e ∙ ap (λ l. l ++ s) p) ∙ i)
piece_once at ds a b s t f g e (separator x p i) (directive said h all ends d new) = false_true (ap is_separator (sym (directive_head at b t h)) ∙ ap (λ l. is_separator (first l)) (sym e ∙ ap (λ l. l ++ s) p) ∙ i)
piece_once at ds a b s t f g e (separator x p i) (token k2 o q l z) = absurd (token_no_separator b k2 (family b k2 q) (ap is_separator (sym (front_head b t k2 q)) ∙ ap (λ l. is_separator (first l)) (sym e ∙ ap (λ l. l ++ s) p) ∙ i))
piece_once at ds a b s t f g e (comment c) (separator y q j) = false_true (ap is_separator (sym (comment_head a s c)) ∙ ap (λ l. is_separator (first l)) (e ∙ ap (λ l. l ++ t) q) ∙ j)
piece_once at ds a b s t f g e (comment c) (comment d) = let r = comment_once (a ++ s) a b s t refl e c d in (front_same a b s t r (fronts a b s t e), r, refl)
piece_once at ds a b s t f g e (comment c) (directive said h all ends d new) = absurd (omega (arith, comment_head a s c, directive_head at b t h, ap first e))
piece_once at ds a b s t f g e (comment c) (token k2 o q l z) = absurd (both_ways _ o (ap opens_comment (sym e) ∙ comment_opens a s c))
piece_once at ds a b s t f g e (directive said h all ends d new) (separator y q j) = false_true (ap is_separator (sym (directive_head at a s h)) ∙ ap (λ l. is_separator (first l)) (e ∙ ap (λ l. l ++ t) q) ∙ j)
piece_once at ds a b s t f g e (directive said h all ends d new) (comment c) = absurd (omega (arith, comment_head b t c, directive_head at a s h, ap first e))
piece_once at ds a b s t f g e (directive said h all ends d new) (directive other h2 all2 ends2 d2 new2) =
    let r : a ≡ b = line_taken (a ++ s) a s refl all ends ∙ sym (line_taken (a ++ s) b t e all2 ends2) in
    let u : s ≡ t = sym (drop_at a s (length a) refl) ∙ ap₂ (λ n l. drop n l) (ap length r) e ∙ drop_at b t (length b) refl in
    (r, u, ap found_by (directive_once b said other (subst (λ l. IsDirective l said) r d) d2))
piece_once at ds a b s t f g e (directive said h all ends d new) (token k2 o q l z) = absurd (no_hash b k2 (family b k2 q) (sym (front_head b t k2 q) ∙ ap first (sym e) ∙ directive_head at a s h))
piece_once at ds a b s t f g e (token k1 o p l z) (separator y q j) = absurd (token_no_separator a k1 (family a k1 p) (ap is_separator (sym (front_head a s k1 p)) ∙ ap (λ l. is_separator (first l)) (e ∙ ap (λ l. l ++ t) q) ∙ j))
piece_once at ds a b s t f g e (token k1 o p l z) (comment c) = absurd (both_ways _ o (ap opens_comment e ∙ comment_opens b t c))
piece_once at ds a b s t f g e (token k1 o p l z) (directive said h all ends d new) = absurd (no_hash a k1 (family a k1 p) (sym (front_head a s k1 p) ∙ ap first e ∙ directive_head at b t h))
piece_once at ds a b s t f g e (token k1 o p l z) (token k2 o2 q l2 z2) = tokens_same at ds a b s t k1 k2 p q l l2 (fronts a b s t e)
