-- What holds of the tokens of every text.
use Rattle.std.proofs.Common.{Bool, List, None, Option, Some, [], ap, arith, false, length, length-append, refl, subst, sym, true, ℕ, ◌++◌, ◌+◌, ◌∷◌, ◌≡◌, ◌≢◌, ◌≤◌}
use Rattle.std.proofs.lemmas.List.Elements.{All-nil, All-push}
use Rattle.std.specs.Prelude.{All, Err, IfOk, Ok, Result, Vec, if◌then◌else◌}
use Rattle.std.specs.Str.{bytes_eq}
use Rattle.std.specs.declared.alloc.Global.{Global}
use Rattle.c_tree.specs.declared.place.Place.{Place}
use Rattle.c_token.specs.Directives.{IsDirective}
use Rattle.c_token.specs.Integers.{number_kind}
use Rattle.c_token.specs.Pieces.{Definitions, Found, IsPiece, found_by, more_definitions, more_tokens, named, replaced}
use Rattle.c_token.specs.Spelling.{Spells}
use Rattle.c_token.specs.Text.{Answers, AreTokensOf, IsReadTo}
use Rattle.c_token.specs.Tokens.{EndsOnce, IsProper, IsProperKind}
use Rattle.c_token.specs.declared.fault.TokenFault.{TokenFault}
use Rattle.c_token.specs.declared.number.Number.{Number}
use Rattle.c_token.specs.declared.spot.Spot.{Spot}
use Rattle.c_token.specs.declared.token.Kind.{Kind}
use Rattle.c_token.specs.declared.token.Token.{Token}
use Rattle.c_token.proofs.ConstantTokens.{same_value, some_none}
use Rattle.c_token.proofs.Families.{family, some_bytes}
use Rattle.c_token.specs.declared.token.Kind.TheVariants as k
use Rattle.c_token.specs.Spelling.Spells.{name, reserved, number, character, sign}
use Rattle.c_token.specs.Pieces.IsPiece.{separator, comment, directive, token}
use Rattle.c_token.specs.Pieces.Found.{found_nothing, found_token, found_name}
use Rattle.c_token.specs.Text.IsReadTo.{start, piece}
use Rattle.c_token.specs.Directives.IsDirective.{include, define}
use Rattle.c_token.proofs.Values.{proper_number, quoted_small}

-- proper, and not the end
abbrev pub IsInner : Kind → Type 0
IsInner kind = IsProperKind kind × (kind ≢ k.End)

inner_number : (n : Number) → IsProperKind (number_kind n) → IsInner (number_kind n)
inner_number n proper = (proper, λ e. cc)

inner_spelled : (bytes : List ℕ) (kind : Kind) → Spells bytes kind → IsInner kind
inner_spelled bytes kind (name w r) = ((w, r), λ e. cc)
inner_spelled bytes kind (reserved r) = (r, λ e. cc)
inner_spelled bytes kind (number c n is t) = inner_number n (proper_number c n t)
inner_spelled bytes kind (character inside v parts q) = (quoted_small inside v q, λ e. cc)
inner_spelled bytes kind (sign s) = ((bytes, s, refl), λ e. cc)

-- each defined number is proper
abbrev AreProperNames : Definitions → Type 0
AreProperNames ds = (word : List ℕ) (n : Number) → ds word ≡ Some n → IsProperKind (number_kind n)

inner_named : (o : Option Number) (word : List ℕ)
    → ((n : Number) → o ≡ Some n → IsProperKind (number_kind n)) → IsInner (k.Name word)
    → IsInner (named o word)
inner_named None word all is = is
inner_named (Some n) word all is = inner_number n (all n refl)

inner_replaced : (ds : Definitions) (kind : Kind) → AreProperNames ds → IsInner kind
    → IsInner (replaced ds kind)
inner_replaced ds (k.Name word) all is = inner_named (ds word) word (all word) is
inner_replaced ds (k.Reserved word) all is = is
inner_replaced ds (k.Number type value) all is = is
inner_replaced ds (k.Character value) all is = is
inner_replaced ds (k.Sign bytes) all is = is
inner_replaced ds k.End all is = is

abbrev IsProperFound : Found → Type 0
IsProperFound found_nothing = Unit {0}
IsProperFound (found_token kind) = IsInner kind
IsProperFound (found_name word n) = IsProperKind (number_kind n)

proper_line : (line : List ℕ) (said : Option (List ℕ × Number)) → IsDirective line said
    → IsProperFound (found_by said)
proper_line line said (include before rest parts blanks i) = tt
proper_line line said (define before rest s parts blanks d) = proper_number d.constant s.1 d.number

proper_piece : (at : Spot) (ds : Definitions) (bytes rest : List ℕ) (found : Found)
    → AreProperNames ds → IsPiece at ds bytes rest found → IsProperFound found
proper_piece at ds bytes rest found all (separator b parts is) = tt
proper_piece at ds bytes rest found all (comment c) = tt
proper_piece at ds bytes rest found all (directive said begins inside ends is new) = proper_line bytes said is
proper_piece at ds bytes rest found all (token kind opens spelled longest apart) = inner_replaced ds kind all (inner_spelled bytes kind spelled)

proper_with : (t : Bool) (m n : Number) (o : Option Number) → IsProperKind (number_kind m)
    → (o ≡ Some n → IsProperKind (number_kind n)) → (if t then Some m else o) ≡ Some n
    → IsProperKind (number_kind n)
proper_with true m n o is more h = subst (λ x. IsProperKind (number_kind x)) (same_value m n h) is
proper_with false m n o is more h = more h

proper_names : (found : Found) (ds : Definitions) → AreProperNames ds → IsProperFound found
    → AreProperNames (more_definitions found ds)
proper_names found_nothing ds all is = all
proper_names (found_token kind) ds all is = all
proper_names (found_name new m) ds all is = λ word n h. proper_with (bytes_eq new word) m n (ds word) is (all word n) h

abbrev pub AreInner : List Token → Type 0
AreInner ts = All (λ token. IsInner token.kind) ts

inner_more : (found : Found) (place : Place) (ts : List Token) → AreInner ts → IsProperFound found
    → AreInner (more_tokens found place ts)
inner_more found_nothing place ts all is = all
inner_more (found_token kind) place ts all is = All-push (λ token. IsInner token.kind) ts (record { kind = kind; place = place }) all is
inner_more (found_name word n) place ts all is = all

inner_read : (text : List ℕ) (at : Spot) (rest : List ℕ) (ds : Definitions) (ts : List Token)
    → IsReadTo text at rest ds ts → AreProperNames ds × AreInner ts
inner_read text at rest ds ts start = (λ word n h. absurd (some_none n None h refl), All-nil (λ token. IsInner token.kind))
inner_read text at rest ds ts (piece {at = at2} {ds = ds2} {ts = ts2} bytes rest2 found read is) =
    let before = inner_read text at2 (bytes ++ rest2) ds2 ts2 read in
    let new = proper_piece at2 ds2 bytes rest2 found before.0 is in
    (proper_names found ds2 before.0 new, inner_more found at2.place ts2 before.1 new)

-- ---- a token takes at least one byte

count_more : (at : Spot) (ds : Definitions) (bytes rest : List ℕ) (found : Found) (ts : List Token)
    → IsPiece at ds bytes rest found
    → length (more_tokens found at.place ts) ≤ length ts + length bytes
count_more at ds bytes rest found ts (separator b parts is) = omega arith
count_more at ds bytes rest found ts (comment c) = omega arith
count_more at ds bytes rest found ts (directive None begins inside ends is new) = omega arith
count_more at ds bytes rest found ts (directive (Some d) begins inside ends is new) = omega arith
count_more at ds bytes rest found ts (token kind opens spelled longest apart) =
    omega (arith, length-append ts (record { kind = replaced ds kind; place = at.place } ∷ []), some_bytes bytes kind (family bytes kind spelled))

count_read : (text : List ℕ) (at : Spot) (rest : List ℕ) (ds : Definitions) (ts : List Token)
    → IsReadTo text at rest ds ts → length ts + length rest ≤ length text
count_read text at rest ds ts start = omega arith
count_read text at rest ds ts (piece {at = at2} {ds = ds2} {ts = ts2} bytes rest2 found read is) =
    omega (arith, count_read text at2 (bytes ++ rest2) ds2 ts2 read, count_more at2 ds2 bytes rest2 found ts2 is, length-append bytes rest2)

-- ---- of a whole text

pub tokens_count : (text : List ℕ) (tokens : List Token) → AreTokensOf text tokens
    → length tokens ≤ length text + 1
tokens_count text tokens are =
    omega (arith, count_read text are.at [] are.ds are.found are.read, ap length are.ended, length-append are.found (record { kind = k.End; place = are.at.place } ∷ []))

pub tokens_proper : (text : List ℕ) (tokens : List Token) → AreTokensOf text tokens
    → All IsProper tokens
tokens_proper text tokens are =
    let inner = (inner_read text are.at [] are.ds are.found are.read).1 in
    subst (All IsProper) (sym are.ended) (All-push IsProper are.found (record { kind = k.End; place = are.at.place }) (λ i d lt. (inner i d lt).0) tt)

pub tokens_end : (text : List ℕ) (tokens : List Token) → AreTokensOf text tokens → EndsOnce tokens
tokens_end text tokens are = record { before = are.found; place = are.at.place; ended = are.ended; once = λ i d lt. ((inner_read text are.at [] are.ds are.found are.read).1 i d lt).1 }

-- ---- of an answer

pub answer_proper : (text : List ℕ) (r : Result (Vec Token Global) TokenFault) → Answers text r
    → IfOk r (λ tokens. All IsProper tokens.items)
answer_proper text (Ok v) is = tokens_proper text v.items is
answer_proper text (Err e) is = tt

pub answer_count : (text : List ℕ) (r : Result (Vec Token Global) TokenFault) → Answers text r
    → IfOk r (λ tokens. length tokens.items ≤ length text + 1)
answer_count text (Ok v) is = tokens_count text v.items is
answer_count text (Err e) is = tt

pub answer_end : (text : List ℕ) (r : Result (Vec Token Global) TokenFault) → Answers text r
    → IfOk r (λ tokens. EndsOnce tokens.items)
answer_end text (Ok v) is = tokens_end text v.items is
answer_end text (Err e) is = tt
