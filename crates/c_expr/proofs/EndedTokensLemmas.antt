-- What is left of a text, after what was read.
use Rattle.std.proofs.Common.{◌≡◌, ℕ, zero, suc, List, [], ◌∷◌, ◌++◌, length, drop, Bool, true, false, refl, ap, ◌∙◌, arith}
use Rattle.c_tree.specs.declared.place.Place.{Place}
use Rattle.c_token.specs.declared.token.Kind.{Kind}
use Rattle.c_token.specs.declared.token.Kind.TheVariants as k
use Rattle.c_token.specs.declared.token.Token.{Token}
use Rattle.c_expr.specs.Parsing.{IsEnded}
use Rattle.c_expr.proofs.ExactExpressions.{from, from_is}
use Rattle.c_expr.specs.Next.{is_end, ends}
use Rattle.std.specs.Prelude.{◌==◌}
use Rattle.std.proofs.lemmas.Bool.Decides.{nat_tests}

tail_ends : (t : Token) (ts : List Token) → ends (t ∷ ts) ≡ true → ends ts ≡ true
tail_ends t [] h = refl
tail_ends t (u ∷ ts) h = h

drop_ends : (n : ℕ) (ts : List Token) → ends ts ≡ true → ends (drop n ts) ≡ true
drop_ends zero ts h = h
drop_ends (suc n) [] h = refl
drop_ends (suc n) (t ∷ ts) h = drop_ends n ts (tail_ends t ts h)

pub from_ends : (ts : List Token) (n : ℕ) → ends ts ≡ true → ends (from ts n) ≡ true
from_ends ts n h = ap ends (from_is ts n) ∙ drop_ends n ts h

-- A list that is not empty ends with the end of the text.
last_ends : (before : List Token) (p : Place)
    → ends (before ++ record { kind = k.End; place = p } ∷ []) ≡ true
last_ends [] p = refl
last_ends (t ∷ []) p = refl
last_ends (t ∷ u ∷ before) p = last_ends (u ∷ before) p

pub ended_ends : (ts : List Token) → IsEnded ts → ends ts ≡ true
ended_ends ts h = ap ends h.ended ∙ last_ends h.before h.place

kind_is_end : (kind : Kind) → is_end kind ≡ true → kind ≡ k.End
kind_is_end k.End h = refl
kind_is_end (k.Name n) h = cc
kind_is_end (k.Number ty v) h = cc
kind_is_end (k.Character v) h = cc
kind_is_end (k.Reserved w) h = cc
kind_is_end (k.Sign w) h = cc

token_is : (t : Token) → t.kind ≡ k.End → t ≡ record { kind = k.End; place = t.place }
token_is t e = ap (λ kind. record { kind = kind; place = t.place }) e

ends_ended : (t : Token) (ts : List Token) → ends (t ∷ ts) ≡ true → IsEnded (t ∷ ts)
ends_ended t [] h = record { before = []; place = t.place; ended = ap (λ u. u ∷ []) (token_is t (kind_is_end t.kind h)) }
ends_ended t (u ∷ ts) h = let w = ends_ended u ts h in record { before = t ∷ w.before; place = w.place; ended = ap (λ us. t ∷ us) w.ended }

-- where there are some
pub some_ended : {b : Bool} (ts : List Token) → b ≡ (length ts == 0) → b ≡ false → ends ts ≡ true
    → IsEnded ts
some_ended [] e some h = cc
some_ended (t ∷ ts) e some h = ends_ended t ts h

pub none_left : {b : Bool} (ts : List Token) → b ≡ (length ts == 0) → b ≡ true → length ts ≡ 0
none_left ts e none = grind (arith, nat_tests)
