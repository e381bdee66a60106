-- The parts of an include.
use Rattle.std.proofs.Common.{Bool, List, ap, arith, drop, false, inl, inr, subst, sym, take, take-append-drop, true, ℕ, ⊎_elim, ◌++◌, ◌∙◌, ◌≡◌, ◌≢◌}
use Rattle.std.specs.List.{prefix_len}
use Rattle.std.specs.Prelude.{MatchBool, codes}
use Rattle.c_token.specs.Bytes.{first, is_blank}
use Rattle.c_token.specs.Directives.{IsHeader, IsInclude, IsTail}
use Rattle.c_token.specs.Pieces.{named}
use Rattle.c_token.specs.private.SignForms.{one, two}
use Rattle.c_token.proofs.ByteRuns.{blanks_gone, run_all}

pub header_once : (h g s t : List ℕ) → IsHeader h → IsHeader g → h ++ s ≡ g ++ t → s ≡ t
header_once h g s t (inl a) (inl b) e = ap (drop 9) (sym (ap (λ x. x ++ s) a) ∙ e ∙ ap (λ x. x ++ t) b)
header_once h g s t (inl a) (inr b) e = absurd (omega (arith, ap first (sym (ap (λ x. x ++ s) a) ∙ e ∙ ap (λ x. x ++ t) b)))
header_once h g s t (inr a) (inl b) e = absurd (omega (arith, ap first (sym (ap (λ x. x ++ s) a) ∙ e ∙ ap (λ x. x ++ t) b)))
header_once h g s t (inr a) (inr b) e = ap (drop 7) (sym (ap (λ x. x ++ s) a) ∙ e ∙ ap (λ x. x ++ t) b)

pub header_stops : (h t : List ℕ) → IsHeader h → is_blank (first (h ++ t)) ≡ false
header_stops h t (inl a) = ap (λ x. is_blank (first (x ++ t))) a
header_stops h t (inr a) = ap (λ x. is_blank (first (x ++ t))) a

abbrev pub behind_blanks : List ℕ → List ℕ
behind_blanks text = drop (prefix_len is_blank text) text

include_after : (rest : List ℕ) → (i : IsInclude rest) → behind_blanks rest ≡ i.header ++ i.tail
include_after rest i = ap behind_blanks i.parts ∙ blanks_gone i.between (i.header ++ i.tail) i.blanks (header_stops i.header i.tail i.named)

pub include_at : (rest header tail : List ℕ) → behind_blanks rest ≡ header ++ tail
    → IsHeader header → (b : Bool) → MatchBool b (IsTail true tail) (IsTail true tail → ⊥)
    → MatchBool b (IsInclude rest) (IsInclude rest → ⊥)
include_at rest header tail e named true is = record {
  between = take (prefix_len is_blank rest) rest;
  header = header;
  tail = tail;
  parts = sym (take-append-drop (prefix_len is_blank rest) rest) ∙ ap (λ l. take (prefix_len is_blank rest) rest ++ l) e;
  blanks = run_all is_blank rest;
  named = named;
  ends = is;
}
include_at rest header tail e named false is = λ i. is (subst (IsTail true) (header_once i.header header i.tail tail i.named named (sym (include_after rest i) ∙ e)) i.ends)

pub include_none : (rest : List ℕ) → ((r : List ℕ) → behind_blanks rest ≢ codes "<stdio.h>" ++ r)
    → ((r : List ℕ) → behind_blanks rest ≢ codes "\"bop.h\"" ++ r) → IsInclude rest → ⊥
include_none rest one two i = ⊎_elim (λ e. one i.tail (include_after rest i ∙ ap (λ h. h ++ i.tail) e)) (λ e. two i.tail (include_after rest i ∙ ap (λ h. h ++ i.tail) e)) i.named
