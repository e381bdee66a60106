-- What stands at the front of a text. Only private functions cite it.
use Rattle.std.specs.Prelude.{◌≡◌, ℕ, ◌<◌, ◌≤◌, ◌||◌, List, ◌++◌, length, take, drop, nat_eq, if◌then◌else◌, Option, Some, None}
use Rattle.std.specs.List.{prefix_len}
use Rattle.c_token.specs.Bytes.{is_blank, is_word}

-- the first n bytes, with what is behind them, are such a thing
abbrev pub Takes : (List ℕ → List ℕ → Type 0) → List ℕ → ℕ → Type 0
Takes P rest n = (0 < n) × (n ≤ length rest) × P (take n rest) (drop n rest)

-- no front is
abbrev pub TakesNone : (List ℕ → List ℕ → Type 0) → List ℕ → Type 0
TakesNone P rest = (bytes behind : List ℕ) → rest ≡ bytes ++ behind → P bytes behind → ⊥

-- the word behind at least one blank, and what follows it
abbrev pub word_behind : List ℕ → Option (List ℕ × List ℕ)
word_behind text =
    if nat_eq (prefix_len is_blank text) 0
    || nat_eq (prefix_len is_word (drop (prefix_len is_blank text) text)) 0 then None
    else Some (
      take (prefix_len is_word (drop (prefix_len is_blank text) text))
          (drop (prefix_len is_blank text) text),
      drop (prefix_len is_word (drop (prefix_len is_blank text) text))
          (drop (prefix_len is_blank text) text),
    )
