-- The bounds of the numbers of a request.
use Rattle.bop_words.specs.WordRequests.{File, Made, Race, Seq, Mean, Check, Replay, Text, Chosen, Request}
use Rattle.bop_words.specs.declared.limits.TheConstants.{REGIONS_LIMIT, WORKERS_LIMIT}
use Rattle.rv_step.specs.declared.limits.TheConstants.{BUDGET_LIMIT, GROUP_LIMIT}
use Rattle.std.specs.Prelude.{◌≤◌, ℕ}

-- a number is in a range
pub record IsBetween (least most number : ℕ) : Type 0 where
  pub above : least ≤ number
  pub below : number ≤ most

abbrev pub IsBudget : ℕ → Type 0
IsBudget = IsBetween 1 BUDGET_LIMIT

abbrev pub IsGroup : ℕ → Type 0
IsGroup = IsBetween 1 GROUP_LIMIT

abbrev pub IsWorkers : ℕ → Type 0
IsWorkers = IsBetween 1 WORKERS_LIMIT

abbrev pub IsRegions : ℕ → Type 0
IsRegions = IsBetween 1 REGIONS_LIMIT

-- a text that is made has so many regions
abbrev pub IsMade : Chosen → Type 0
IsMade (File name) = Unit {0}
IsMade (Made seed regions) = IsRegions regions

-- each number of a request is in the range of its option
abbrev pub HasBounds : Request → Type 0
HasBounds (Race program workers group budget journal confirm) =
    IsMade program × IsWorkers workers × IsGroup group × IsBudget budget
HasBounds (Seq program budget) = IsBudget budget
HasBounds (Mean program budget) = IsBudget budget
HasBounds (Check program) = Unit {0}
HasBounds (Replay program schedule group budget) = IsGroup group × IsBudget budget
HasBounds (Text seed regions) = IsRegions regions
