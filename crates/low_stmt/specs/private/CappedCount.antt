-- A count that goes no further than one part too many.
use Rattle.std.specs.Prelude.{ℕ, min}
use Rattle.low_stmt.specs.declared.count.TheConstants.{MANY}

abbrev pub capped : ℕ → ℕ
capped n = min n MANY
