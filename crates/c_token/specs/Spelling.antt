-- How tokens are spelled (C11 6.4).
use Rattle.std.specs.Prelude.{◌≡◌, ℕ, ◌<◌, true, false, List, [], ◌∷◌, ◌++◌, length, Some}
use Rattle.std.specs.Char.{is_ascii_digit}
use Rattle.c_token.specs.declared.token.Kind.{Kind}
use Rattle.c_token.specs.declared.token.Kind.TheVariants as k
use Rattle.c_token.specs.declared.number.Number.{Number}
use Rattle.c_token.specs.Bytes.{first, is_word}
use Rattle.c_token.specs.ReservedWords.{is_reserved, is_word_spelled}
use Rattle.c_token.specs.Integers.{Constant, IsConstant, number_of, number_kind}
use Rattle.c_token.specs.Characters.{IsQuoted}
use Rattle.c_token.specs.Signs.{is_sign, padded}

-- the bytes spell a token, as which it is read where no name is defined
pub data Spells (bytes : List ℕ) : Kind → Type 0 where
  name : is_word_spelled bytes ≡ true → is_reserved bytes ≡ false → Spells bytes (k.Name bytes)
  reserved : is_reserved bytes ≡ true → Spells bytes (k.Reserved bytes)
  number : (c : Constant) (n : Number) → IsConstant bytes c → number_of c ≡ Some n
      → Spells bytes (number_kind n)
  character : (inside : List ℕ) (value : ℕ) → bytes ≡ 39 ∷ inside ++ 39 ∷ []
      → IsQuoted inside value → Spells bytes (k.Character value)
  sign : is_sign bytes ≡ true → Spells bytes (k.Sign (padded bytes))

-- no longer front spells a token (C11 6.4, paragraph 4)
abbrev pub IsLongest : List ℕ → List ℕ → Type 0
IsLongest bytes rest = (more behind : List ℕ) (kind : Kind) → rest ≡ more ++ behind
    → 0 < length more → Spells (bytes ++ more) kind → ⊥

-- no letter, digit or `_` stands directly behind an integer constant
abbrev pub StandsApart : List ℕ → List ℕ → Type 0
StandsApart bytes rest = is_ascii_digit (first bytes) ≡ true → is_word (first rest) ≡ false
