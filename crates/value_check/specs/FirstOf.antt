-- The first answer in a row of questions.
use Rattle.std.specs.Prelude.{ℕ, zero, suc, Option, Some, None}

-- an answer, or else another
abbrev pub or_else : {A : Type 0} → Option A → Option A → Option A
or_else None other = other
or_else (Some answer) other = Some answer

-- the first answer to the questions below a number
unfoldable pub first_of : {A : Type 0} → (answer : ℕ → Option A) → (below : ℕ) → Option A
first_of answer zero = None
first_of answer (suc n) = or_else (first_of answer n) (answer n)
