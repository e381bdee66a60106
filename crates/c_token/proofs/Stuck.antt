-- Where the reader stops.
use Rattle.std.proofs.Common.{List, None, Option, Some, ap, arith, eqb-true, false, length, subst, sym, take, true, true≢false, ℕ, ◌++◌, ◌<◌, ◌∙◌, ◌≡◌}
use Rattle.std.proofs.lemmas.Bool.{and_parts, both_ways}
use Rattle.std.specs.List.{list_all, prefix_len}
use Rattle.std.specs.Option.{is_some}
use Rattle.std.specs.Prelude.{Err, nat_eq, ◌&&◌}
use Rattle.c_token.specs.Bytes.{first, is_separator}
use Rattle.c_token.specs.Comments.{EndsLine, IsComment, is_in_line, opens_comment}
use Rattle.c_token.specs.Directives.{IsDirective, begins_directive}
use Rattle.c_token.specs.private.Fronts.{TakesNone}
use Rattle.c_token.specs.private.Lexemes.{IsLexeme, IsSpelledApart, fault_at}
use Rattle.c_token.specs.Pieces.{Definitions, Found, IsNew, IsPiece}
use Rattle.c_token.specs.private.Readers.{Stops, StopsFor, names_of}
use Rattle.c_token.specs.private.SignForms.{one}
use Rattle.c_token.specs.Text.{IsStuck}
use Rattle.c_token.specs.declared.lexeme.BadToken.{BadToken}
use Rattle.c_token.specs.declared.number.Number.{Number}
use Rattle.c_token.specs.declared.reader.Reader.{Reader}
use Rattle.c_token.specs.declared.spot.Spot.{Spot}
use Rattle.c_token.proofs.CommentsLemmas.{no_comment, opened, opens_none}
use Rattle.c_token.proofs.Families.{family, no_hash, some_bytes}
use Rattle.c_token.proofs.TokenLists.{first_front, some_first}
use Rattle.c_token.proofs.ByteRuns.{line_taken}
use Rattle.c_token.specs.declared.fault.TokenFault.TheVariants as fault
use Rattle.c_token.specs.declared.lexeme.BadToken.TheVariants as bad
use Rattle.c_token.specs.Pieces.IsPiece.{separator, comment, directive, token}
use Rattle.c_token.specs.Faults.IsNamed.{bad_line, open_comment, too_large, bad_literal, bad_byte}
use Rattle.c_token.specs.declared.number.NumberFault.TheVariants.{Malformed, Large}

-- no line of a `#` begins
abbrev pub NoLine : Definitions → List ℕ → Type 0
NoLine ds rest = (bytes behind : List ℕ) (said : Option (List ℕ × Number)) → rest ≡ bytes ++ behind → list_all is_in_line bytes ≡ true → EndsLine behind → IsDirective bytes said → IsNew ds said → ⊥

stuck_at : (at : Spot) (ds : Definitions) (rest : List ℕ) → is_separator (first rest) ≡ false
    → TakesNone IsComment rest
    → (begins_directive at rest ≡ true → NoLine ds rest) → (opens_comment rest ≡ false → TakesNone IsSpelledApart rest)
    → (bytes behind : List ℕ) (found : Found) → rest ≡ bytes ++ behind → IsPiece at ds bytes behind found → ⊥
stuck_at at ds rest no_separator no_comment no_line no_token bytes behind found splits (separator b one is) =
    both_ways _ no_separator (ap (λ l. is_separator (first l)) (splits ∙ ap (λ l. l ++ behind) one) ∙ is)
stuck_at at ds rest no_separator no_comment no_line no_token bytes behind found splits (comment c) = no_comment bytes behind splits c
stuck_at at ds rest no_separator no_comment no_line no_token bytes behind found splits (directive said begins inside ends is new) =
    let parts = and_parts at.fresh (nat_eq (first bytes) 35) begins in
    let e : first rest ≡ first bytes = ap first splits ∙ first_front bytes behind (some_first bytes 34 parts.1) in
    no_line (ap (λ b. at.fresh && nat_eq b 35) e ∙ begins) bytes behind said splits inside ends is new
stuck_at at ds rest no_separator no_comment no_line no_token bytes behind found splits (token kind opens spelled longest apart) =
    no_token (ap opens_comment splits ∙ opens) bytes behind splits (record { kind = kind; spelled = spelled; apart = apart })

-- where no piece begins
pub stuck : (at : Spot) (ds : Definitions) (rest : List ℕ) → 0 < length rest
    → is_separator (first rest) ≡ false → TakesNone IsComment rest
    → (begins_directive at rest ≡ true → NoLine ds rest) → (opens_comment rest ≡ false → TakesNone IsSpelledApart rest) → IsStuck at ds rest
stuck at ds rest some no_separator no_comment no_line no_token = (some, stuck_at at ds rest no_separator no_comment no_line no_token)

-- the reader stops where no token stands, nor anything else
pub token_stops : (r : Reader) (e : BadToken) → 0 < length r.rest.now
    → is_separator (first r.rest.now) ≡ false → opens_comment r.rest.now ≡ false
    → begins_directive r.spot r.rest.now ≡ false
    → IsLexeme r.rest.now (Err e) → StopsFor r (fault_at e r.spot.place)
token_stops r bad.Byte some no_separator opens begins is = record {
  stuck = stuck r.spot (names_of r.defines) r.rest.now some no_separator (no_comment r.rest.now opens) (λ h. absurd (both_ways _ begins h)) (λ _. is.0);
  named = bad_byte begins opens is.1;
}
token_stops r (bad.Number Malformed) some no_separator opens begins is = record {
  stuck = stuck r.spot (names_of r.defines) r.rest.now some no_separator (no_comment r.rest.now opens) (λ h. absurd (both_ways _ begins h)) (λ _. is.0);
  named = bad_literal is.1.0 is.1.1;
}
token_stops r bad.Character some no_separator opens begins is = record {
  stuck = stuck r.spot (names_of r.defines) r.rest.now some no_separator (no_comment r.rest.now opens) (λ h. absurd (both_ways _ begins h)) (λ _. is.0);
  named = bad_literal is.1.0 is.1.1;
}
token_stops r (bad.Number Large) some no_separator opens begins is = record {
  stuck = stuck r.spot (names_of r.defines) r.rest.now some no_separator (no_comment r.rest.now opens) (λ h. absurd (both_ways _ begins h)) (λ _. is.0);
  named = too_large is.1;
}

-- an open comment
pub comment_stops : (r : Reader) → 0 < length r.rest.now → is_separator (first r.rest.now) ≡ false
    → opens_comment r.rest.now ≡ true → TakesNone IsComment r.rest.now
    → Stops r (fault.OpenComment r.spot.place)
comment_stops r some no_separator opens none = record {
  stuck = stuck r.spot (names_of r.defines) r.rest.now some no_separator none
      (λ h. let e : first r.rest.now ≡ 35 = eqb-true _ 35 (and_parts r.spot.fresh (nat_eq (first r.rest.now) 35) h).1 in absurd (omega (arith, e, (opened r.rest.now opens).1)))
      (λ h. absurd (both_ways _ h opens));
  named = open_comment opens;
}

-- the line is none of the three forms, or defines a name again
pub line_stops : (r : Reader) → begins_directive r.spot r.rest.now ≡ true
    → ((said : Option (List ℕ × Number)) → IsDirective (take (prefix_len is_in_line r.rest.now) r.rest.now) said → IsNew (names_of r.defines) said → ⊥)
    → Stops r (fault.BadLine r.spot.place)
line_stops r begins none =
    let rest : List ℕ = r.rest.now in
    let hash = (and_parts r.spot.fresh (nat_eq (first rest) 35) begins).1 in
    let head : first rest ≡ 35 = eqb-true (first rest) 35 hash in
    record {
      stuck = stuck r.spot (names_of r.defines) rest (some_first rest 34 hash) (ap is_separator head) (no_comment rest (opens_none rest head))
          (λ _ bytes behind said splits all ends is new. none said (subst (λ l. IsDirective l said) (line_taken rest bytes behind splits all ends) is) new)
          (λ _ bytes behind splits s.
          let f = family bytes s.kind s.spelled in
          no_hash bytes s.kind f (sym (first_front bytes behind (some_bytes bytes s.kind f)) ∙ sym (ap first splits) ∙ head));
      named = bad_line begins;
    }

not_new : (o : Option Number) → true ≡ is_some o → o ≡ None → ⊥
not_new o a b = true≢false (a ∙ ap is_some b)

-- a line that defines a name again
pub again_stops : (r : Reader) (n : ℕ) (name : List ℕ) (x : Number)
    → begins_directive r.spot r.rest.now ≡ true → n ≡ prefix_len is_in_line r.rest.now
    → ((said : Option (List ℕ × Number)) → IsDirective (take n r.rest.now) said → said ≡ Some (name, x)) → true ≡ is_some (names_of r.defines name) → Stops r (fault.BadLine r.spot.place)
again_stops r n name x begins len only has =
    line_stops r begins (λ said is new. not_new (names_of r.defines name) has (subst (IsNew (names_of r.defines)) (only said (subst (λ m. IsDirective (take m r.rest.now) said) (sym len) is)) new))

pub none_stops : (r : Reader) (n : ℕ) → begins_directive r.spot r.rest.now ≡ true
    → n ≡ prefix_len is_in_line r.rest.now
    → ((said : Option (List ℕ × Number)) → IsDirective (take n r.rest.now) said → ⊥) → Stops r (fault.BadLine r.spot.place)
none_stops r n begins len none = line_stops r begins (λ said is new. none said (subst (λ m. IsDirective (take m r.rest.now) said) (sym len) is))
