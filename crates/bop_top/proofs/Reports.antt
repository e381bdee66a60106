-- A report that has failed.
use Rattle.std.proofs.Common.{◌≡◌, ℕ, List, take, Option, inr, subst}
use Rattle.std.specs.Io.KnownBytes.{Appends}
use Rattle.byte_lists.specs.Content.{AppendsPrefix}
use Rattle.byte_lists.proofs.ContentLemmas.{AppendsPrefix-take}
use Rattle.bop_ends.specs.Ends.{Rose}
use Rattle.bop_top.specs.declared.ending.Figures.{Figures}
use Rattle.bop_top.specs.declared.status.Status.{Status}
use Rattle.bop_top.specs.Report.{Reported, report_of, unreported}

-- a front of the piece was appended, and the piece was the report
pub failed : (inner final : Status) (told : Figures) (old new : Option (List ℕ))
    (before now n : ℕ) (piece : List ℕ) → final ≡ unreported inner
    → piece ≡ report_of inner told → Appends old new (take n piece) → Rose before now → Reported inner final told old new before now
failed inner final told old new before now n piece same said front rose = inr (record {
  same = same;
  front = subst (AppendsPrefix old new) said (AppendsPrefix-take old new n piece front);
  rose = rose;
})
