-- A text has one answer.
use Rattle.std.proofs.Common.{List, [], ap, arith, eqb-true, length, refl, subst, sym, true, ℕ, ◌++◌, ◌∙◌, ◌∷◌, ◌≡◌}
use Rattle.std.proofs.lemmas.Bool.{and_parts, both_ways, or_left}
use Rattle.std.specs.Char.{is_ascii_digit}
use Rattle.std.specs.Prelude.{nat_eq, ◌||◌}
use Rattle.c_token.specs.Bytes.{first}
use Rattle.c_token.specs.Comments.{opens_comment}
use Rattle.c_token.specs.Directives.{begins_directive}
use Rattle.c_token.specs.Faults.{IsNamed, IsTooLarge, begins_literal}
use Rattle.c_token.specs.Text.{AreTokensOf, IsFaultOf}
use Rattle.c_token.specs.declared.fault.TokenFault.{TokenFault}
use Rattle.c_token.specs.declared.spot.Spot.{Spot}
use Rattle.c_token.specs.declared.token.Token.{Token}
use Rattle.c_token.proofs.CommentsLemmas.{opened}
use Rattle.c_token.proofs.ConstantWords.{constant_digit}
use Rattle.c_token.proofs.TokenLists.{false_true, first_front}
use Rattle.c_token.proofs.ReadOnce.{ended, ends_once, reached}
use Rattle.c_token.specs.declared.token.Kind.TheVariants as k
use Rattle.c_token.specs.Faults.IsNamed.{bad_line, open_comment, too_large, bad_literal, bad_byte}

large_literal : (rest : List ℕ) → IsTooLarge rest → begins_literal rest ≡ true
large_literal rest l =
    let d = constant_digit l.bytes l.constant l.spelled in
    or_left (is_ascii_digit (first rest)) (nat_eq (first rest) 39) (ap is_ascii_digit (ap first l.splits ∙ first_front l.bytes l.behind d.0) ∙ d.1)

head_line : (at : Spot) (rest : List ℕ) → begins_directive at rest ≡ true → first rest ≡ 35
head_line at rest h = eqb-true (first rest) 35 (and_parts at.fresh (nat_eq (first rest) 35) h).1

line_no_literal : (at : Spot) (rest : List ℕ) {P : Type 0} → begins_directive at rest ≡ true
    → begins_literal rest ≡ true → P
line_no_literal at rest h l = false_true (ap (λ b. is_ascii_digit b || nat_eq b 39) (sym (head_line at rest h)) ∙ l)

line_no_comment : (at : Spot) (rest : List ℕ) {P : Type 0} → begins_directive at rest ≡ true
    → opens_comment rest ≡ true → P
line_no_comment at rest h o = absurd (omega (arith, head_line at rest h, (opened rest o).1))

comment_no_literal : (rest : List ℕ) {P : Type 0} → opens_comment rest ≡ true
    → begins_literal rest ≡ true → P
comment_no_literal rest o l = false_true (ap (λ b. is_ascii_digit b || nat_eq b 39) (sym (opened rest o).1) ∙ l)

named_once : (at : Spot) (rest : List ℕ) (r q : TokenFault) → IsNamed at rest r → IsNamed at rest q
    → r ≡ q
named_once at rest r q (bad_line h) (bad_line g) = refl
named_once at rest r q (bad_line h) (open_comment o) = line_no_comment at rest h o
named_once at rest r q (bad_line h) (too_large l) = line_no_literal at rest h (large_literal rest l)
named_once at rest r q (bad_line h) (bad_literal l n) = line_no_literal at rest h l
named_once at rest r q (bad_line h) (bad_byte x y z) = absurd (both_ways _ x h)
named_once at rest r q (open_comment o) (bad_line h) = line_no_comment at rest h o
named_once at rest r q (open_comment o) (open_comment p) = refl
named_once at rest r q (open_comment o) (too_large l) = comment_no_literal rest o (large_literal rest l)
named_once at rest r q (open_comment o) (bad_literal l n) = comment_no_literal rest o l
named_once at rest r q (open_comment o) (bad_byte x y z) = absurd (both_ways _ y o)
named_once at rest r q (too_large l) (bad_line h) = line_no_literal at rest h (large_literal rest l)
named_once at rest r q (too_large l) (open_comment o) = comment_no_literal rest o (large_literal rest l)
named_once at rest r q (too_large l) (too_large m) = refl
named_once at rest r q (too_large l) (bad_literal m n) = absurd (n l)
named_once at rest r q (too_large l) (bad_byte x y z) = absurd (both_ways _ z (large_literal rest l))
named_once at rest r q (bad_literal l n) (bad_line h) = line_no_literal at rest h l
named_once at rest r q (bad_literal l n) (open_comment o) = comment_no_literal rest o l
named_once at rest r q (bad_literal l n) (too_large m) = absurd (n m)
named_once at rest r q (bad_literal l n) (bad_literal m o) = refl
named_once at rest r q (bad_literal l n) (bad_byte x y z) = absurd (both_ways _ z l)
named_once at rest r q (bad_byte x y z) (bad_line h) = absurd (both_ways _ x h)
named_once at rest r q (bad_byte x y z) (open_comment o) = absurd (both_ways _ y o)
named_once at rest r q (bad_byte x y z) (too_large l) = absurd (both_ways _ z (large_literal rest l))
named_once at rest r q (bad_byte x y z) (bad_literal l n) = absurd (both_ways _ z l)
named_once at rest r q (bad_byte x y z) (bad_byte u v w) = refl

pub tokens_once : (text : List ℕ) (a b : List Token) → AreTokensOf text a → AreTokensOf text b
    → a ≡ b
tokens_once text a b x y =
    let e = ends_once _ _ _ (reached text x.at [] x.ds x.found x.read) (reached text y.at [] y.ds y.found y.read) (ended x.at x.ds) (ended y.at y.ds) in
    x.ended ∙ ap (λ s. s.ts ++ record { kind = k.End; place = s.at.place } ∷ []) e ∙ sym y.ended

pub faults_once : (text : List ℕ) (r q : TokenFault) → IsFaultOf text r → IsFaultOf text q → r ≡ q
faults_once text r q x y =
    let e = ends_once _ _ _ (reached text x.at x.rest x.ds x.found x.read) (reached text y.at y.rest y.ds y.found y.read) x.stuck.1 y.stuck.1 in
    named_once y.at y.rest r q (subst (λ s. IsNamed s.at s.rest r) e x.named) y.named

pub tokens_or_fault : (text : List ℕ) (a : List Token) (r : TokenFault) → AreTokensOf text a
    → IsFaultOf text r → ⊥
tokens_or_fault text a r x y =
    let e = ends_once _ _ _ (reached text x.at [] x.ds x.found x.read) (reached text y.at y.rest y.ds y.found y.read) (ended x.at x.ds) y.stuck.1 in
    omega (arith, y.stuck.0, ap (λ s. length s.rest) e)
