-- The reader's steps.
use Rattle.std.proofs.Common.{List, [], ap, ap₂, arith, drop, false, length, length-append, length-take-le, refl, subst, subst₂, sym, take, take-append-drop, true, ℕ, ◌++◌, ◌+◌, ◌<◌, ◌^◌, ◌∙◌, ◌∷◌, ◌≡◌, ◌≤◌}
use Rattle.std.proofs.lemmas.Bool.{cond_both}
use Rattle.std.specs.Prelude.{Err, MatchResult, Ok, Result, Vec, nat_eq, ◌&&◌}
use Rattle.std.specs.declared.alloc.Global.{Global}
use Rattle.c_token.specs.Bytes.{is_blank}
use Rattle.c_token.specs.Comments.{opens_comment}
use Rattle.c_token.specs.private.Lexemes.{IsToken}
use Rattle.c_token.specs.Pieces.{Definitions, Found, IsPiece, more_definitions, more_tokens, replaced}
use Rattle.c_token.specs.private.Readers.{HasRead, Skips, Steps, names_of}
use Rattle.c_token.specs.Spots.{after, past}
use Rattle.c_token.specs.Text.{Answers, IsReadTo}
use Rattle.c_token.specs.declared.fault.TokenFault.{TokenFault}
use Rattle.c_token.specs.declared.reader.Reader.{Reader}
use Rattle.c_token.specs.declared.spot.Spot.{Spot}
use Rattle.c_token.specs.declared.token.Kind.{Kind}
use Rattle.c_token.specs.declared.token.Token.{Token}
use Rattle.c_token.proofs.TokenLists.{no_length}
use Rattle.c_token.specs.declared.token.Kind.TheVariants as k
use Rattle.c_token.specs.declared.fault.TokenFault.TheVariants as fault
use Rattle.c_token.specs.Pieces.IsPiece.{token}
use Rattle.c_token.specs.Pieces.Found.{found_nothing, found_token}
use Rattle.c_token.specs.Text.IsReadTo.{piece}

-- a place moves on by no more than the bytes
after_room : (at : Spot) (b : ℕ) → 1 ≤ at.place.column
    → (1 ≤ (after at b).place.column)
    × ((after at b).place.line + (after at b).place.column ≤ at.place.line + at.place.column + 1)
after_room at b some =
    let P : Spot → Type 0 = λ s. (1 ≤ s.place.column) × (s.place.line + s.place.column ≤ at.place.line + at.place.column + 1) in
    cond_both (nat_eq b 10) (record { place = record { line = at.place.line + 1; column = 1 }; fresh = true }) (record { place = record { line = at.place.line; column = at.place.column + 1 }; fresh = at.fresh && is_blank b }) P
    (λ _. (omega arith, omega arith)) (λ _. (omega arith, omega arith))

pub past_room : (at : Spot) (bytes : List ℕ) → 1 ≤ at.place.column
    → (1 ≤ (past at bytes).place.column)
    × ((past at bytes).place.line +
    (past at bytes).place.column ≤ at.place.line + at.place.column + length bytes)
past_room at [] some = (some, omega arith)
past_room at (b ∷ bytes) some =
    let here = after_room at b some in
    let rest = past_room (after at b) bytes here.0 in
    (rest.0, omega (arith, rest.1, here.1))

pub steps_read : (text : List ℕ) (old new : Reader) → HasRead text old → Steps old new
    → HasRead text new
steps_read text old new has steps =
    let room = past_room old.spot steps.bytes has.room.0 in
    let read : IsReadTo text old.spot (steps.bytes ++ new.rest.now) (names_of old.defines) old.found.items = subst (λ l. IsReadTo text old.spot l (names_of old.defines) old.found.items) steps.splits has.read in
    let next : IsReadTo text (past old.spot steps.bytes) new.rest.now (more_definitions steps.found (names_of old.defines)) (more_tokens steps.found old.spot.place old.found.items) = piece steps.bytes new.rest.now steps.found read steps.piece in
    let named : IsReadTo text (past old.spot steps.bytes) new.rest.now (names_of new.defines) (more_tokens steps.found old.spot.place old.found.items) = subst (λ ds. IsReadTo text (past old.spot steps.bytes) new.rest.now ds (more_tokens steps.found old.spot.place old.found.items)) (sym steps.names) next in
    let e : length old.rest.now ≡ length steps.bytes + length new.rest.now = ap length steps.splits ∙ length-append steps.bytes new.rest.now in
    record {
      read = subst₂ (λ s ts. IsReadTo text s new.rest.now (names_of new.defines) ts) (sym steps.spot) (sym steps.tokens) named;
      room = (
        subst (λ s. 1 ≤ s.place.column) (sym steps.spot) room.0,
        subst (λ s. s.place.line + s.place.column + length new.rest.now < 2 ^ 32) (sym steps.spot) (omega (arith, room.1, has.room.1, e)),
      );
    }

-- a step over n bytes, in which so much is found: the reader takes it up, and skips them
pub step_from : (old mid new : Reader) (n : ℕ) (found : Found) → Skips n mid new
    → mid.rest.now ≡ old.rest.now → mid.spot ≡ old.spot
    → names_of mid.defines ≡ more_definitions found (names_of old.defines) → mid.found.items ≡ more_tokens found old.spot.place old.found.items
    → 0 < n → n ≤ length old.rest.now → IsPiece old.spot (names_of old.defines) (take n old.rest.now) (drop n old.rest.now) found → Steps old new
step_from old mid new n found skips rest spot names tokens some le is =
    let r : new.rest.now ≡ drop n old.rest.now = skips.rest ∙ ap (drop n) rest in
    record {
      bytes = take n old.rest.now;
      found = found;
      splits = sym (take-append-drop n old.rest.now) ∙ ap (λ l. take n old.rest.now ++ l) (sym r);
      some = omega (arith, length-take-le n old.rest.now le);
      piece = subst (λ l. IsPiece old.spot (names_of old.defines) (take n old.rest.now) l found) (sym r) is;
      spot = skips.spot ∙ ap₂ (λ s l. past s (take n l)) spot rest;
      names = ap names_of skips.names ∙ names;
      tokens = ap (λ v. v.items) skips.found ∙ tokens;
    }

pub skipped : (old new : Reader) (n : ℕ) → Skips n old new → 0 < n → n ≤ length old.rest.now
    → IsPiece old.spot (names_of old.defines) (take n old.rest.now)
    (drop n old.rest.now) found_nothing → Steps old new
skipped old new n skips some le is = step_from old old new n found_nothing skips refl refl refl refl some le is

-- the piece that a token is
pub token_piece : (at : Spot) (ds : Definitions) (rest : List ℕ) (n : ℕ) (kind made : Kind)
    → opens_comment rest ≡ false → IsToken kind (take n rest) (drop n rest)
    → made ≡ replaced ds kind
    → IsPiece at ds (take n rest) (drop n rest) (found_token made)
token_piece at ds rest n kind made opens is e =
    subst (λ k. IsPiece at ds (take n rest) (drop n rest) (found_token k)) (sym e) (token kind (ap opens_comment (take-append-drop n rest) ∙ opens) is.spelled is.longest is.apart)

-- a reader at the text's end has the text's tokens
pub finished : (text : List ℕ) (reader : Reader) (r : Result (Vec Token Global) TokenFault)
    → HasRead text reader → length reader.rest.now ≡ 0
    → MatchResult r (λ v. v.items ≡ reader.found.items ++ record { kind = k.End; place = reader.spot.place } ∷ []) (λ e. e ≡ fault.OutOfMemory) → Answers text r
finished text reader (Ok v) has none is = record {
  at = reader.spot;
  ds = names_of reader.defines;
  found = reader.found.items;
  read = subst (λ l. IsReadTo text reader.spot l (names_of reader.defines) reader.found.items) (no_length reader.rest.now (omega (arith, none))) has.read;
  ended = is;
}
finished text reader (Err e) has none is = subst (λ x. Answers text (Err x)) (sym is) tt
