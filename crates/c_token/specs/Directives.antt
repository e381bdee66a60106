-- The lines that begin with `#` (C11 6.10.2 and 6.10.3): two includes, and a name defined as an integer.
use Rattle.std.specs.Prelude.{◌≡◌, ℕ, ◌<◌, Bool, true, false, ◌&&◌, List, [], ◌∷◌, ◌++◌, length, nat_eq, codes, Option, Some, None, ◌⊎◌}
use Rattle.std.specs.List.{list_all}
use Rattle.c_token.specs.declared.number.Number.{Number}
use Rattle.c_token.specs.declared.spot.Spot.{Spot}
use Rattle.c_token.specs.Bytes.{first, is_blank}
use Rattle.c_token.specs.ReservedWords.{is_reserved, is_word_spelled}
use Rattle.c_token.specs.Integers.{Constant, IsConstant, number_of}
use Rattle.c_token.specs.Comments.{IsComment}

-- such a line begins at this spot
abbrev pub begins_directive : Spot → List ℕ → Bool
begins_directive at bytes = at.fresh && nat_eq (first bytes) 35

-- behind the last part: blanks, tabs and comments, and among them a CR if one may still stand
pub data IsTail : Bool → List ℕ → Type 0 where
  end : {return : Bool} {text : List ℕ} → text ≡ [] → IsTail return text
  blank : {return : Bool} {text : List ℕ} (b : ℕ) (tail : List ℕ) → text ≡ b ∷ tail
      → is_blank b ≡ true → IsTail return tail → IsTail return text
  return : {may : Bool} {text : List ℕ} (tail : List ℕ) → text ≡ 13 ∷ tail → may ≡ true
      → IsTail false tail → IsTail may text
  comment : {return : Bool} {text : List ℕ} (bytes tail : List ℕ) → text ≡ bytes ++ tail
      → IsComment bytes tail → IsTail return tail → IsTail return text

abbrev pub AreBlanks : List ℕ → Type 0
AreBlanks bytes = list_all is_blank bytes ≡ true

abbrev pub IsHeader : List ℕ → Type 0
IsHeader header = (header ≡ codes "<stdio.h>") ⊎ (header ≡ codes "\"bop.h\"")

-- behind the word `include`
pub record IsInclude (rest : List ℕ) : Type 0 where
  pub between : List ℕ
  pub header : List ℕ
  pub tail : List ℕ
  pub parts : rest ≡ between ++ (header ++ tail)
  pub blanks : AreBlanks between
  pub named : IsHeader header
  pub ends : IsTail true tail

-- behind the word `define`: the name and its number
pub record IsDefine (rest : List ℕ) (said : List ℕ × Number) : Type 0 where
  pub between : List ℕ
  pub behind : List ℕ
  pub integer : List ℕ
  pub tail : List ℕ
  pub constant : Constant
  pub parts : rest ≡ between ++ (said.0 ++ (behind ++ (integer ++ tail)))
  pub blanks : AreBlanks between
  pub some : 0 < length between
  pub name : is_word_spelled said.0 ≡ true
  pub free : is_reserved said.0 ≡ false
  pub more_blanks : AreBlanks behind
  pub some_more : 0 < length behind
  pub spelled : IsConstant integer constant
  pub number : number_of constant ≡ Some said.1
  pub ends : IsTail true tail

-- a whole line, from its `#`, and the name and number that it defines
pub data IsDirective (line : List ℕ) : Option (List ℕ × Number) → Type 0 where
  include : (before rest : List ℕ) → line ≡ 35 ∷ (before ++ (codes "include" ++ rest))
      → AreBlanks before → IsInclude rest → IsDirective line None
  define : (before rest : List ℕ) (said : List ℕ × Number)
      → line ≡ 35 ∷ (before ++ (codes "define" ++ rest)) → AreBlanks before → IsDefine rest said
      → IsDirective line (Some said)
