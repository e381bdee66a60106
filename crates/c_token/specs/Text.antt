-- The tokens of a text, and its first fault (C11 5.1.1.2 and 6.4).
use Rattle.std.specs.Prelude.{◌≡◌, ℕ, ◌<◌, List, [], ◌∷◌, ◌++◌, length, Result, Ok, Err, Vec}
use Rattle.std.specs.declared.alloc.Global.{Global}
use Rattle.c_token.specs.declared.token.Kind.TheVariants as k
use Rattle.c_token.specs.declared.token.Token.{Token}
use Rattle.c_token.specs.declared.fault.TokenFault.{TokenFault}
use Rattle.c_token.specs.declared.fault.TokenFault.TheVariants as fault
use Rattle.c_token.specs.declared.spot.Spot.{Spot}
use Rattle.c_token.specs.Spots.{beginning, past}
use Rattle.c_token.specs.Pieces.{Definitions, nothing_defined, Found, IsPiece, more_definitions, more_tokens}
use Rattle.c_token.specs.Faults.{IsNamed}

-- The text is read, piece by piece, up to a spot where the rest stands, with these names defined and these
-- tokens found. A token's place is where its piece begins.
pub data IsReadTo (text : List ℕ) : Spot → List ℕ → Definitions → List Token → Type 0 where
  start : IsReadTo text beginning text nothing_defined []
  piece : {at : Spot} {ds : Definitions} {ts : List Token} (bytes rest : List ℕ) (found : Found)
      → IsReadTo text at (bytes ++ rest) ds ts → IsPiece at ds bytes rest found
      → IsReadTo text (past at bytes) rest (more_definitions found ds)
      (more_tokens found at.place ts)

-- the tokens of the text, the last one End where the text ends
pub record AreTokensOf (text : List ℕ) (tokens : List Token) : Type 0 where
  pub at : Spot
  pub ds : Definitions
  pub found : List Token
  pub read : IsReadTo text at [] ds found
  pub ended : tokens ≡ found ++ record { kind = k.End; place = at.place } ∷ []

-- something is left, and no piece begins it
abbrev pub IsStuck : Spot → Definitions → List ℕ → Type 0
IsStuck at ds rest = (0 < length rest)
    × ((bytes behind : List ℕ) (found : Found) → rest ≡ bytes ++ behind
    → IsPiece at ds bytes behind found → ⊥)

-- the fault of the text: the first place up to which it is read and at which it can't go on
pub record IsFaultOf (text : List ℕ) (reason : TokenFault) : Type 0 where
  pub at : Spot
  pub rest : List ℕ
  pub ds : Definitions
  pub found : List Token
  pub read : IsReadTo text at rest ds found
  pub stuck : IsStuck at ds rest
  pub named : IsNamed at rest reason

-- what a call answers at a text; want of memory may come at any time
abbrev pub Answers : List ℕ → Result (Vec Token Global) TokenFault → Type 0
Answers text (Ok tokens) = AreTokensOf text tokens.items
Answers text (Err fault.OutOfMemory) = Unit {0}
Answers text (Err reason) = IsFaultOf text reason
