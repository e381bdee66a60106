-- Which calls of an end in memory are to fail.
use Rattle.std.specs.Prelude.{◌==◌, ℕ, List, Bool, Option, find}
use Rattle.std.specs.List.{list_any}
use Rattle.std.specs.Option.{option_map}

-- how many bytes the call keeps before it fails, by the first pair of the plan that has its number
abbrev pub failure_at : List (ℕ × ℕ) → ℕ → Option ℕ
failure_at plan call = option_map (λ fail. fail.1) (find (λ fail. fail.0 == call) plan)

-- the plan has the call's number
abbrev pub fails_at : List ℕ → ℕ → Bool
fails_at plan call = list_any (λ number. number == call) plan
