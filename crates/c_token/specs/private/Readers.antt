-- The reader's steps over the pieces of a text. Only private functions cite it.
use Rattle.std.specs.Prelude.{◌≡◌, ℕ, ◌+◌, ◌<◌, ◌≤◌, ◌^◌, List, ◌++◌, length, take, drop, Option, Some, None, Result, Ok, Err}
use Rattle.std.specs.Borrow.{Bor}
use Rattle.std.specs.BTreeMap.{BTreeMap, get_by}
use Rattle.std.specs.Cmp.Lexicographic.{slice_cmp}
use Rattle.std.specs.Ordering.{nat_cmp}
use Rattle.c_token.specs.declared.fault.TokenFault.{TokenFault}
use Rattle.c_token.specs.declared.fault.TokenFault.TheVariants as fault
use Rattle.c_token.specs.declared.number.Number.{Number}
use Rattle.c_token.specs.declared.reader.Reader.{Reader}
use Rattle.c_token.specs.declared.directive.Directive.{Directive}
use Rattle.c_token.specs.declared.directive.Directive.TheVariants as said
use Rattle.c_token.specs.Spots.{past}
use Rattle.c_token.specs.Pieces.{Definitions, Found, IsPiece, more_definitions, more_tokens}
use Rattle.c_token.specs.Faults.{IsNamed}
use Rattle.c_token.specs.Text.{IsReadTo, IsStuck}

-- what a map of names means
abbrev pub names_of : BTreeMap (Bor (List ℕ)) Number → Definitions
names_of names name = get_by (λ k. slice_cmp nat_cmp name k.now) names

abbrev pub said_by : Directive → Option (List ℕ × Number)
said_by said.Include = None
said_by (said.Define name n) = Some (name.now, n)

-- a step over one piece
pub record Steps (old new : Reader) : Type 0 where
  pub bytes : List ℕ
  pub found : Found
  pub splits : old.rest.now ≡ bytes ++ new.rest.now
  pub some : 0 < length bytes
  pub piece : IsPiece old.spot (names_of old.defines) bytes new.rest.now found
  pub spot : new.spot ≡ past old.spot bytes
  pub names : names_of new.defines ≡ more_definitions found (names_of old.defines)
  pub tokens : new.found.items ≡ more_tokens found old.spot.place old.found.items

-- the reader skipped n bytes
pub record Skips (n : ℕ) (old new : Reader) : Type 0 where
  pub rest : new.rest.now ≡ drop n old.rest.now
  pub spot : new.spot ≡ past old.spot (take n old.rest.now)
  pub names : new.defines ≡ old.defines
  pub found : new.found ≡ old.found

-- the reader can't go on, and this is why
pub record Stops (old : Reader) (reason : TokenFault) : Type 0 where
  pub stuck : IsStuck old.spot (names_of old.defines) old.rest.now
  pub named : IsNamed old.spot old.rest.now reason

abbrev pub StopsFor : Reader → TokenFault → Type 0
StopsFor old fault.OutOfMemory = Unit {0}
StopsFor old reason = Stops old reason

abbrev pub StepOf : Reader → Reader → Result (Unit {0}) TokenFault → Type 0
StepOf old new (Ok x) = Steps old new
StepOf old new (Err e) = StopsFor old e

-- room for each place behind the reader
abbrev pub HasRoom : Reader → Type 0
HasRoom r = (1 ≤ r.spot.place.column)
    × (r.spot.place.line + r.spot.place.column + length r.rest.now < 2 ^ 32)

-- the reader has read the text up to where it stands; a token takes at least one byte
pub record HasRead (text : List ℕ) (r : Reader) : Type 0 where
  pub read : IsReadTo text r.spot r.rest.now (names_of r.defines) r.found.items
  pub room : HasRoom r
