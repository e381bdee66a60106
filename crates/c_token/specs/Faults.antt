-- Which fault it is where no piece begins.
use Rattle.std.specs.Prelude.{◌≡◌, ℕ, Bool, true, false, ◌||◌, List, ◌++◌, nat_eq, None}
use Rattle.std.specs.Char.{is_ascii_digit}
use Rattle.c_token.specs.declared.fault.TokenFault.{TokenFault}
use Rattle.c_token.specs.declared.fault.TokenFault.TheVariants as fault
use Rattle.c_token.specs.declared.spot.Spot.{Spot}
use Rattle.c_token.specs.Bytes.{first}
use Rattle.c_token.specs.Integers.{Constant, IsConstant, number_of}
use Rattle.c_token.specs.Spelling.{StandsApart}
use Rattle.c_token.specs.Comments.{opens_comment}
use Rattle.c_token.specs.Directives.{begins_directive}

-- an integer constant that stands apart has too large a value
pub record IsTooLarge (rest : List ℕ) : Type 0 where
  pub bytes : List ℕ
  pub behind : List ℕ
  pub constant : Constant
  pub splits : rest ≡ bytes ++ behind
  pub spelled : IsConstant bytes constant
  pub apart : StandsApart bytes behind
  pub too_large : number_of constant ≡ None

-- a digit or `'` stands in front
abbrev pub begins_literal : List ℕ → Bool
begins_literal rest = is_ascii_digit (first rest) || nat_eq (first rest) 39

-- the fault's name and place, by the bytes that stand there
pub data IsNamed (at : Spot) (rest : List ℕ) : TokenFault → Type 0 where
  bad_line : begins_directive at rest ≡ true → IsNamed at rest (fault.BadLine at.place)
  open_comment : opens_comment rest ≡ true → IsNamed at rest (fault.OpenComment at.place)
  too_large : IsTooLarge rest → IsNamed at rest (fault.TooLarge at.place)
  bad_literal : begins_literal rest ≡ true → (IsTooLarge rest → ⊥)
      → IsNamed at rest (fault.BadLiteral at.place)
  bad_byte : begins_directive at rest ≡ false → opens_comment rest ≡ false
      → begins_literal rest ≡ false → IsNamed at rest (fault.BadByte at.place)
