-- The output of a meaning, handed to a sink.
use Rattle.std.specs.Prelude.{◌≡◌, ℕ, List, Option, length}
use Rattle.std.specs.Io.KnownBytes.{Appends}
use Rattle.c_semantics.specs.Meaning.{Meaning}
use Rattle.bop_top.specs.declared.ending.Figures.{Figures}
use Rattle.bop_top.specs.declared.outcome.Outcome.{Outcome}
use Rattle.bop_top.specs.declared.outcome.Outcome.TheVariants.{WriteFault}
use Rattle.bop_top.specs.CommandTransfers.{bytes_alone}
use Rattle.bop_top.specs.MeanSays.{Puts}

-- how many bytes are told that were written: none where the output has failed
abbrev pub count_told : Outcome → ℕ → ℕ
count_told WriteFault count = 0
count_told _ count = count

pub record HasPut (m : Meaning) (outcome : Outcome) (told : Figures) (old new : Option (List ℕ))
    : Type 0 where
  pub written : List ℕ
  pub writes : Appends old new written
  pub puts : Puts outcome written m
  pub tells : told ≡ bytes_alone (count_told outcome (length written))
