-- The pieces of a text: separators, comments, lines that begin with `#`, and tokens.
use Rattle.std.specs.Prelude.{◌≡◌, ℕ, true, false, List, [], ◌∷◌, ◌++◌, if◌then◌else◌, Option, Some, None}
use Rattle.std.specs.List.{list_all}
use Rattle.std.specs.Str.{bytes_eq}
use Rattle.c_tree.specs.declared.place.Place.{Place}
use Rattle.c_token.specs.declared.token.Kind.{Kind}
use Rattle.c_token.specs.declared.token.Kind.TheVariants as k
use Rattle.c_token.specs.declared.token.Token.{Token}
use Rattle.c_token.specs.declared.number.Number.{Number}
use Rattle.c_token.specs.declared.spot.Spot.{Spot}
use Rattle.c_token.specs.Bytes.{is_separator}
use Rattle.c_token.specs.Integers.{number_kind}
use Rattle.c_token.specs.Spelling.{Spells, IsLongest, StandsApart}
use Rattle.c_token.specs.Comments.{opens_comment, is_in_line, EndsLine, IsComment}
use Rattle.c_token.specs.Directives.{begins_directive, IsDirective}

-- the number that a name is defined as
abbrev pub Definitions : Type 0
Definitions = List ℕ → Option Number

abbrev pub nothing_defined : Definitions
nothing_defined name = None

abbrev pub with_name : List ℕ → Number → Definitions → Definitions
with_name new n ds name = if bytes_eq new name then Some n else ds name

-- what a name is read as
abbrev pub named : Option Number → List ℕ → Kind
named (Some n) name = number_kind n
named None name = k.Name name

abbrev pub replaced : Definitions → Kind → Kind
replaced ds (k.Name name) = named (ds name) name
replaced ds kind = kind

-- what a piece gives: nothing, a token, or a name and its number
pub data Found : Type 0 where
  found_nothing : Found
  found_token : Kind → Found
  found_name : List ℕ → Number → Found

abbrev pub found_by : Option (List ℕ × Number) → Found
found_by None = found_nothing
found_by (Some d) = found_name d.0 d.1

-- no name is defined twice
abbrev pub IsNew : Definitions → Option (List ℕ × Number) → Type 0
IsNew ds None = Unit {0}
IsNew ds (Some d) = ds d.0 ≡ None

-- the bytes, at a spot and with the rest behind them, are a piece that gives this
pub data IsPiece (at : Spot) (ds : Definitions) (bytes rest : List ℕ) : Found → Type 0 where
  separator : (b : ℕ) → bytes ≡ b ∷ [] → is_separator b ≡ true
      → IsPiece at ds bytes rest found_nothing
  comment : IsComment bytes rest → IsPiece at ds bytes rest found_nothing
  directive : (said : Option (List ℕ × Number)) → begins_directive at bytes ≡ true
      → list_all is_in_line bytes ≡ true → EndsLine rest
      → IsDirective bytes said → IsNew ds said → IsPiece at ds bytes rest (found_by said)
  token : (kind : Kind) → opens_comment (bytes ++ rest) ≡ false → Spells bytes kind
      → IsLongest bytes rest → StandsApart bytes rest
      → IsPiece at ds bytes rest (found_token (replaced ds kind))

abbrev pub more_definitions : Found → Definitions → Definitions
more_definitions (found_name name n) ds = with_name name n ds
more_definitions _ ds = ds

abbrev pub more_tokens : Found → Place → List Token → List Token
more_tokens (found_token kind) place ts = ts ++ record { kind = kind; place = place } ∷ []
more_tokens _ place ts = ts
