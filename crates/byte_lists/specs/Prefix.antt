-- A list at the front of another.
use Rattle.std.specs.Prelude.{◌≡◌, ℕ, List, ◌++◌}

-- the whole list is the front one, and then some rest
abbrev pub IsPrefix : List ℕ → List ℕ → Type 0
IsPrefix front whole = (rest : List ℕ) × (whole ≡ front ++ rest)
