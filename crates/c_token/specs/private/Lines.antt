-- The parts of a line that begins with `#`, and of a comment. Only private functions cite it.
use Rattle.std.specs.Prelude.{◌≡◌, ℕ, ◌-◌, ◌<◌, ◌≤◌, Bool, false, List, [], ◌∷◌, ◌++◌, length, take, drop, Option}
use Rattle.c_token.specs.declared.number.Number.{Number}
use Rattle.c_token.specs.Comments.{has_close}
use Rattle.c_token.specs.Directives.{IsTail, IsDefine, IsDirective}

-- the first `*/` ends behind n bytes
abbrev pub IsClosed : List ℕ → ℕ → Type 0
IsClosed inside n = (2 ≤ n) × (n ≤ length inside)
    × (take n inside ≡ take (n - 2) inside ++ 42 ∷ 47 ∷ [])
    × (has_close (take (n - 2) inside) ≡ false)

-- n bytes go on a tail, behind which a CR may or may not stand
abbrev pub GoesOn : Bool → List ℕ → ℕ → Bool → Type 0
GoesOn may rest n still =
    (0 < n) × (n ≤ length rest) × (IsTail still (drop n rest) → IsTail may rest)
    × (IsTail may rest → IsTail still (drop n rest))

abbrev pub DefinesNothing : List ℕ → Type 0
DefinesNothing rest = (said : List ℕ × Number) → IsDefine rest said → ⊥

abbrev pub DefinesOnly : List ℕ → List ℕ × Number → Type 0
DefinesOnly rest defined =
    IsDefine rest defined × ((said : List ℕ × Number) → IsDefine rest said → said ≡ defined)

abbrev pub SaysNothing : List ℕ → Type 0
SaysNothing line = (said : Option (List ℕ × Number)) → IsDirective line said → ⊥

abbrev pub SaysOnly : List ℕ → Option (List ℕ × Number) → Type 0
SaysOnly line says = IsDirective line says
    × ((said : Option (List ℕ × Number)) → IsDirective line said → said ≡ says)
