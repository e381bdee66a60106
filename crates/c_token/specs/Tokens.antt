-- What holds of the tokens of every text.
use Rattle.std.specs.Prelude.{◌≡◌, ◌≢◌, ℕ, ◌<◌, ◌≤◌, ◌^◌, true, false, List, [], ◌∷◌, ◌++◌, ◌⊎◌, All}
use Rattle.c_tree.specs.declared.place.Place.{Place}
use Rattle.c_tree.specs.declared.ctype.CType.{CType}
use Rattle.c_tree.specs.declared.ctype.CType.TheVariants.{Int, Unsigned}
use Rattle.c_token.specs.declared.token.Kind.{Kind}
use Rattle.c_token.specs.declared.token.Kind.TheVariants as k
use Rattle.c_token.specs.declared.token.Token.{Token}
use Rattle.c_token.specs.ReservedWords.{is_reserved, is_word_spelled}
use Rattle.c_token.specs.Signs.{is_sign, padded}

-- an int below 2 ^ 31, or an unsigned below 2 ^ 32
abbrev pub IsProperNumber : CType → ℕ → Type 0
IsProperNumber type value =
    ((type ≡ Int) × (value < 2 ^ 31)) ⊎ ((type ≡ Unsigned) × (value < 2 ^ 32))

abbrev pub IsProperKind : Kind → Type 0
IsProperKind (k.Name name) = (is_word_spelled name ≡ true) × (is_reserved name ≡ false)
IsProperKind (k.Reserved word) = is_reserved word ≡ true
IsProperKind (k.Number type value) = IsProperNumber type value
IsProperKind (k.Character value) = value ≤ 255
IsProperKind (k.Sign sign) = (bytes : List ℕ) × (is_sign bytes ≡ true) × (sign ≡ padded bytes)
IsProperKind k.End = Unit {0}

abbrev pub IsProper : Token → Type 0
IsProper token = IsProperKind token.kind

-- the last token is End, and no other
pub record EndsOnce (tokens : List Token) : Type 0 where
  pub before : List Token
  pub place : Place
  pub ended : tokens ≡ before ++ record { kind = k.End; place = place } ∷ []
  pub once : All (λ token. token.kind ≢ k.End) before
