-- What a writer holds, where it is known, as it grows.
use Rattle.std.specs.Prelude.{ℕ, List, Option}
use Rattle.std.specs.Io.KnownBytes.{Appends}
use Rattle.byte_lists.specs.Prefix.{IsPrefix}

-- known bytes grow by a prefix of these
abbrev pub AppendsPrefix : Option (List ℕ) → Option (List ℕ) → List ℕ → Type 0
AppendsPrefix old new bytes = (moved : List ℕ) × IsPrefix moved bytes × Appends old new moved
