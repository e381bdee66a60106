-- What stands at the front of a text: a token, or none and why. Only private functions cite it.
use Rattle.std.specs.Prelude.{◌≡◌, ℕ, true, false, List, take, if◌then◌else◌, Result, Ok, Err}
use Rattle.c_tree.specs.declared.place.Place.{Place}
use Rattle.c_token.specs.declared.token.Kind.{Kind}
use Rattle.c_token.specs.declared.token.Kind.TheVariants as k
use Rattle.c_token.specs.declared.fault.TokenFault.{TokenFault}
use Rattle.c_token.specs.declared.fault.TokenFault.TheVariants as fault
use Rattle.c_token.specs.declared.number.NumberFault.TheVariants.{Malformed, Large}
use Rattle.c_token.specs.declared.lexeme.Lexeme.{Lexeme}
use Rattle.c_token.specs.declared.lexeme.Lexeme.TheVariants as l
use Rattle.c_token.specs.declared.lexeme.BadToken.{BadToken}
use Rattle.c_token.specs.declared.lexeme.BadToken.TheVariants as bad
use Rattle.c_token.specs.ReservedWords.{is_reserved}
use Rattle.c_token.specs.Integers.{number_kind}
use Rattle.c_token.specs.Signs.{padded}
use Rattle.c_token.specs.Spelling.{Spells, IsLongest, StandsApart}
use Rattle.c_token.specs.Faults.{IsTooLarge, begins_literal}
use Rattle.c_token.specs.private.Fronts.{Takes, TakesNone}

pub record IsToken (kind : Kind) (bytes behind : List ℕ) : Type 0 where
  pub spelled : Spells bytes kind
  pub longest : IsLongest bytes behind
  pub apart : StandsApart bytes behind

pub record IsSpelledApart (bytes behind : List ℕ) : Type 0 where
  pub kind : Kind
  pub spelled : Spells bytes kind
  pub apart : StandsApart bytes behind

-- what a lexeme of these bytes is read as where no name is defined
abbrev pub kind_of : Lexeme → List ℕ → Kind
kind_of l.Word bytes = if is_reserved bytes then k.Reserved bytes else k.Name bytes
kind_of (l.Number n) bytes = number_kind n
kind_of (l.Character v) bytes = k.Character v
kind_of l.Sign bytes = k.Sign (padded bytes)

abbrev pub IsBadToken : List ℕ → BadToken → Type 0
IsBadToken rest bad.Byte = begins_literal rest ≡ false
IsBadToken rest (bad.Number Large) = IsTooLarge rest
IsBadToken rest (bad.Number Malformed) = (begins_literal rest ≡ true) × (IsTooLarge rest → ⊥)
IsBadToken rest bad.Character = (begins_literal rest ≡ true) × (IsTooLarge rest → ⊥)

abbrev pub fault_at : BadToken → Place → TokenFault
fault_at bad.Byte place = fault.BadByte place
fault_at (bad.Number Malformed) place = fault.BadLiteral place
fault_at (bad.Number Large) place = fault.TooLarge place
fault_at bad.Character place = fault.BadLiteral place

abbrev pub IsLexeme : List ℕ → Result (Lexeme × ℕ) BadToken → Type 0
IsLexeme rest (Ok x) = Takes (IsToken (kind_of x.0 (take x.1 rest))) rest x.1
IsLexeme rest (Err e) = TakesNone IsSpelledApart rest × IsBadToken rest e
